use Rattle.plan_gen.proofs.RiggedRuns.{answers_as_rigged}
use Rattle.plan_gen.proofs.laws.hits_are_answered_as_rigged.Goals as goal

pub returns : goal.returns
returns c = answers_as_rigged
