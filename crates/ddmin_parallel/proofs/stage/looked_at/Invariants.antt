use Rattle.std.proofs.Common.{◌≡◌}
use Rattle.std.specs.FinMap.{get}
use Rattle.ddmin_parallel.specs.Rounds.{round}
use Rattle.ddmin_parallel.specs.inside.Candidates.{candidates}
use Rattle.ddmin_parallel.specs.CoreEvents.{decided}
use Rattle.ddmin_parallel.specs.inside.Stages.{position_in}
use Rattle.ddmin_parallel.specs.inside.Cursors.{IsCounted}
use Rattle.ddmin_parallel.proofs.Steps.{from}
use Rattle.ddmin_parallel.proofs.stage.looked_at.Given as goal

abbrev pub invariant-loop-place : goal.invariant-loop-place
invariant-loop-place l =
    let known = get l.heard in
    record {
      all : l.place-end ≡ candidates l.round.parts;
      counted : IsCounted known (position_in l.round) l.place;
      told : decided known (from l.round.kept.items l.round.parts l.place) l.looked ≡ decided known (round l.round.kept.items l.round.parts) l.round.tests;
    }
