use Rattle.std.proofs.Common.{◌≡◌, ◌+◌, ◌-◌, ◌≤◌, length}
use Rattle.file_replace.specs.Steps.{at_step}
use Rattle.file_replace.specs.inside.Seen.{step_of, Played}
use Rattle.file_replace.proofs.play.write_on.Given as goal

abbrev pub invariant-loop-stage : goal.invariant-loop-stage
invariant-loop-stage g l = record {
  given : l.session.given ≡ l.fn.session.given;
  played : Played g.D.Device.stands l.variant l.workload l.session (at_step l.progress (step_of l.stage)) l.device;
  more : length l.fn.session.hits ≤ length l.session.hits;
}

abbrev pub decreases-loop-stage : goal.decreases-loop-stage
decreases-loop-stage g l = l.session.given.limit + 1 - length l.session.hits
