use Rattle.std.proofs.Common.{sym, ◌∙◌, ap, cond, Some}
use Rattle.std.specs.FinMap as map
use Rattle.std.proofs.lemmas.Cmp.{nat_list_cmp_total}
use Rattle.ddmin_parallel.proofs.heard.Heard.get.Goals as goal

pub returns-then-is : goal.returns-then-is
returns-then-is c =
    let h = c.self.inside in
    let k = map.get h.known.now c.args.asked.now in
    sym (ap (λ m. map.get m c.args.asked.now) (sym c.self.view_is)
    ∙ map.get-insert nat_list_cmp_total h.known.now h.set.now h.fails c.args.asked.now
    ∙ ap (λ b. cond b (Some h.fails) k) (sym c.is.ensures ∙ c.if-is.true))

pub returns-else-is : goal.returns-else-is
returns-else-is c =
    let h = c.self.inside in
    let k = map.get h.known.now c.args.asked.now in
    c.get.ensures ∙ sym (ap (λ m. map.get m c.args.asked.now) (sym c.self.view_is)
    ∙ map.get-insert nat_list_cmp_total h.known.now h.set.now h.fails c.args.asked.now
    ∙ ap (λ b. cond b (Some h.fails) k) (sym c.is.ensures ∙ c.if-is.false))
