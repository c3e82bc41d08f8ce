use Rattle.std.proofs.Common.{◌≡◌, ◌-◌, get_or, [], Some, arith, subst, ◌∙◌}
use Rattle.std.proofs.lemmas.List.{get_or_default}
use Rattle.std.proofs.lemmas.Map.Text.{hash_map_updates_str}
use Rattle.answer_text.proofs.Places.{Places, put_before, all_put}
use Rattle.answer_text.proofs.names.PointNames.new.Goals as goal

pub loop-number-preserved : goal.loop-number-preserved
loop-number-preserved c =
    let names = c.args.names.now in
    let name = c.as_str.result.now in
    let place = c.loop-number.number - 1 in
    let within = c.loop-number.invariant.within in
    let more = c.loop-number-test.true in
    let is : name ≡ get_or names place [] = c.as_str.ensures ∙ c.index-names-number.is ∙ get_or_default names place c.index-names-number.result [] (omega arith) in
    put_before names c.loop-number.places.entries c.insert.new.self.entries c.loop-number.number place name c.loop-number.invariant (omega arith) is
    (λ key. hash_map_updates_str name c.loop-number.places c.insert.new.self (Some place) c.in_ok-insert.ensures.updates key)

pub invariant_of-result : goal.invariant_of-result
invariant_of-result c = let stop : c.loop-number.number ≡ 0 = omega (arith, c.loop-number-test.false) in
    all_put c.args.names.now c.loop-number.places.entries (subst (Places c.args.names.now c.loop-number.places.entries) stop c.loop-number.invariant)
