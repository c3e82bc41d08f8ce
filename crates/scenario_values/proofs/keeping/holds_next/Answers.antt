use Rattle.std.proofs.Common.{◌≡◌, ◌∙◌, false, refl, arith, length, nat_lt}
use Rattle.std.proofs.lemmas.Bool.Decides.{nat_tests}
use Rattle.scenario_values.proofs.Walking.{next_is, no_next}
use Rattle.scenario_values.proofs.keeping.holds_next.Goals as goal

pub returns-then-walk-set-clause-value : goal.returns-then-walk-set-clause-value
returns-then-walk-set-clause-value c = next_is c.args.set.now c.args.walk.number c.args.walk.passed _ c.requires.ascends c.requires.stands c.if-walk-set.true refl

pub returns-else-walk-set-clause-value : goal.returns-else-walk-set-clause-value
returns-else-walk-set-clause-value c =
    let past : nat_lt c.args.walk.passed (length c.args.set.now) ≡ false = grind (arith, nat_tests, c.if-walk-set.false) in
    past ∙ no_next c.args.set.now c.args.walk.number c.args.walk.passed c.requires.ascends c.requires.stands c.if-walk-set.false
