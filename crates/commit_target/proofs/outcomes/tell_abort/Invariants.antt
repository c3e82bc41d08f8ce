use Rattle.std.proofs.Common.{◌≡◌, length}
use Rattle.commit_target.specs.Steps.{one_of, abort_to}
use Rattle.commit_target.specs.inside.Seen.{Stands}
use Rattle.commit_target.proofs.outcomes.tell_abort.Given as goal

abbrev pub invariant-loop-place : goal.invariant-loop-place
invariant-loop-place l = record {
  given : l.session.given ≡ l.fn.session.given;
  notes : l.logs.notes ≡ l.fn.logs.notes;
  stands : Stands l.script.variant l.script.workload.now l.session (abort_to l.script.workload.now l.progress (one_of l.place (length l.progress.yes))) l.logs;
}
