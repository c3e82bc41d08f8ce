use Rattle.std.proofs.Common.{◌<◌, ◌≡◌, ◌∷◌, [], List, ℕ, length, drop, arith, subst, sym, ◌+◌}
use Rattle.report.proofs.Written.{next_of}
use Rattle.report.proofs.JsonFormLemmas.Lists.{point_next}
use Rattle.report.proofs.json_form.growth.write_each_point.Goals as goal

pub loop-number-preserved : goal.loop-number-preserved
loop-number-preserved g c =
    let points = g.N.Names.points c.args.names.now in
    let number = c.loop-number.number in
    let within : number < length points = omega (arith, c.requires) in
    let next : drop number points ≡ c.point.result.now ∷ drop (number + 1) points =
    subst (λ (n : List ℕ). drop number points ≡ n ∷ drop (number + 1) points) (sym c.point.ensures) (next_of points number [] within) in
    point_next _ _ _ _ _ _ _ _ _ next (next_of c.args.counts.now number _ c.loop-number-test.true) c.in_ok-write_point.ensures c.loop-number.invariant
