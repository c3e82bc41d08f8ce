use Rattle.std.proofs.Common.{◌≡◌, ◌≤◌, ◌-◌}
use Rattle.commit_target.specs.Steps.{one_of, prepare_to}
use Rattle.commit_target.specs.inside.Seen.{Stands}
use Rattle.commit_target.proofs.votes.votes.Given as goal

abbrev pub invariant-loop-participant : goal.invariant-loop-participant
invariant-loop-participant l = record {
  given : l.session.given ≡ l.fn.session.given;
  notes : l.logs.notes ≡ l.fn.logs.notes;
  begun : l.progress.begun ≡ l.fn.progress.begun;
  few : l.participant ≤ l.script.workload.now.participants;
  stands : Stands l.script.variant l.script.workload.now l.session (prepare_to l.script.workload.now l.progress (one_of l.participant l.script.workload.now.participants)) l.logs;
}

abbrev pub decreases-loop-participant : goal.decreases-loop-participant
decreases-loop-participant l = l.script.workload.now.participants - l.participant
