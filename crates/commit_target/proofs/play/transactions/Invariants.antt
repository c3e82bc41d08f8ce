use Rattle.std.proofs.Common.{◌≡◌}
use Rattle.commit_target.specs.Steps.{begun}
use Rattle.commit_target.specs.inside.Seen.{Stands}
use Rattle.commit_target.proofs.play.transactions.Given as goal

abbrev pub invariant-loop-number : goal.invariant-loop-number
invariant-loop-number l = record {
  given : l.session.given ≡ l.fn.session.given;
  notes : l.logs.notes ≡ l.fn.logs.notes;
  number : l.progress.begun ≡ l._number;
  stands : Stands l.script.variant l.script.workload.now l.session (begun l.script.workload.now l.progress) l.logs;
}
