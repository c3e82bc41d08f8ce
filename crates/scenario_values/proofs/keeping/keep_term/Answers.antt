use Rattle.std.proofs.Common.{◌∙◌, sym}
use Rattle.scenario_values.proofs.Walking.{walk_passes, walk_stays}
use Rattle.scenario_values.proofs.keeping.keep_term.Goals as goal

pub returns-then-holds_next-clause-stands : goal.returns-then-holds_next-clause-stands
returns-then-holds_next-clause-stands c = walk_passes c.args.set.now c.args.walk.number c.args.walk.passed c.requires.ascends c.requires.stands (sym c.holds_next.ensures.value ∙ c.if-holds_next.true)

pub returns-clause-stands : goal.returns-clause-stands
returns-clause-stands c = walk_stays c.args.set.now c.args.walk.number c.args.walk.passed c.requires.stands (sym c.holds_next.ensures.value ∙ c.if-holds_next.false)
