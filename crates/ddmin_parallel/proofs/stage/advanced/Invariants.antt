use Rattle.std.proofs.Common.{◌≡◌}
use Rattle.std.specs.FinMap.{get}
use Rattle.ddmin_parallel.specs.CoreEvents.{furthest, position_rank}
use Rattle.ddmin_parallel.specs.inside.CoreStates.{IsLawful, IsSmall}
use Rattle.ddmin_parallel.specs.inside.Stages.{position_of}
use Rattle.ddmin_parallel.proofs.stage.advanced.Given as goal

abbrev pub invariant-loop-current : goal.invariant-loop-current
invariant-loop-current l =
    let known = get l.heard in
    record {
      lawful : IsLawful (position_of l.current);
      small : IsSmall (position_of l.current);
      same : furthest known (position_of l.current) ≡ furthest known (position_of l.stage);
    }

abbrev pub decreases-loop-current : goal.decreases-loop-current
decreases-loop-current l = position_rank (position_of l.current)
