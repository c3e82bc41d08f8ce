use Rattle.ddmin_parallel.specs.CoreEvents.{Position, Empty, Round, End}
use Rattle.ddmin_parallel.specs.declared.stage.Stage.{Stage}
use Rattle.ddmin_parallel.specs.declared.stage.Stage.TheVariants as stages
use Rattle.ddmin_parallel.specs.declared.stage.Round as stage

-- The position in a round.
abbrev pub position_in : stage.Round → Position
position_in r = Round r.kept.items r.parts r.tests

-- The position that a stage stands for.
abbrev pub position_of : Stage → Position
position_of (stages.Empty faults) = Empty faults
position_of (stages.Round r) = position_in r
position_of (stages.End r) = End r
