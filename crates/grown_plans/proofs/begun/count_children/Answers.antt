use Rattle.std.proofs.Common.{rules, get_or, ◌≡◌, ◌-◌, ◌∙◌, ap, sym, nat_lt, length, take, drop, arith}
use Rattle.std.specs.Vec.{with_items}
use Rattle.std.specs.List.{flat_map}
use Rattle.std.proofs.lemmas.List.{length-drop, take_all, with_items_is}
use Rattle.grown_plans.specs.GrownPlans.{kinds_at}
use Rattle.grown_plans.proofs.FirstHits.{counted, no_last_children, no_last_again, last_children, last_again, ends_of}
use Rattle.grown_plans.proofs.begun.count_children.Goals as goal

pub returns-in_default-clause-children : goal.returns-in_default-clause-children
returns-in_default-clause-children c = λ number. c.count.ensures ∙ no_last_children (kinds_at c.args.kinds.now) number c.args.plan.now c.args.asked.now (sym c.last_site.ensures ∙ search rules)

pub returns-in_default-clause-again : goal.returns-in_default-clause-again
returns-in_default-clause-again c = no_last_again c.args.plan.now c.args.asked.now (sym c.last_site.ensures ∙ search rules)

pub returns-clause-children : goal.returns-clause-children
returns-clause-children c = λ number.
    let asked = c.args.asked.now in
    let after = c.min-after.result in
    let last = sym c.last_site.ensures ∙ c.in-Some.is in
    let left = length-drop after asked in
    let rest : take (length asked - after) (drop after asked) ≡ drop after asked = take_all (length asked - after) (drop after asked) (omega (arith, left)) in
    c.count-2.ensures
    ∙ ap (λ l. length (flat_map (kinds_at c.args.kinds.now) l)) rest
    ∙ last_children (kinds_at c.args.kinds.now) number c.args.plan.now asked _ after c.in-Some.site last
    (ends_of c.args.plan.now asked _ c.in-Some.site last c.in_ok-move_to.ensures.ends) c.min-after.ensures

pub returns-clause-again : goal.returns-clause-again
returns-clause-again c =
    let last = sym c.last_site.ensures ∙ c.in-Some.is in
    let kept = c.extend_from_slice.new.self in
    let counts = c.count_from-2.new.counts in
    let many = ap length c.as_mut_slice-2.ensures.value in
    let whole : (with_items kept counts).items ≡ counts = with_items_is kept counts (omega (arith, c.count_from-2.auto.counts, c.as_mut_slice-2.ensures.len, many)) in
    ap (nat_lt c.in-Some.site.hit) (c.count_of.ensures ∙ ap (λ l. get_or l c.in-Some.site.point 0) (c.as_slice-2.ensures.value ∙ whole) ∙ counted _ c.args.asked.now c.count_from-2.ensures c.requires.points c.in-Some.site.point)
    ∙ last_again c.args.plan.now c.args.asked.now _ c.in-Some.site last (ends_of c.args.plan.now c.args.asked.now _ c.in-Some.site last c.in_ok-move_to.ensures.ends)
