use Rattle.ddmin_parallel.specs.inside.Stages.{position_in}
use Rattle.ddmin_parallel.specs.inside.Searches.{HasShut}
use Rattle.ddmin_parallel.proofs.open.scanned_round.Given as goal

abbrev pub invariant-loop-place : goal.invariant-loop-place
invariant-loop-place l = HasShut l.progress (position_in l.round) l.place
