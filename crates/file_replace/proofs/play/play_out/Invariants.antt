use Rattle.std.proofs.Common.{◌≡◌, ◌+◌, ◌-◌, length}
use Rattle.file_replace.specs.inside.Seen.{Played}
use Rattle.file_replace.proofs.play.play_out.Given as goal

abbrev pub invariant-loop-point : goal.invariant-loop-point
invariant-loop-point g l = record {
  given : l.session.given ≡ l.fn.session.given;
  played : Played g.D.Device.stands l.variant l.workload l.session l.progress l.device;
}

abbrev pub decreases-loop-point : goal.decreases-loop-point
decreases-loop-point g l = l.session.given.limit + 1 - length l.session.hits
