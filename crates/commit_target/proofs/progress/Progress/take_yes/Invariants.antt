use Rattle.std.proofs.Common.{◌≡◌, ◌+◌, ◌-◌}
use Rattle.commit_target.specs.inside.Batches.{with_all_yes}
use Rattle.commit_target.proofs.progress.Progress.take_yes.Given as goal

abbrev pub invariant-loop-participant : goal.invariant-loop-participant
invariant-loop-participant l = record {
  begun : l.self.begun ≡ l.fn.self.begun;
  left : with_all_yes l.self l.participant (l.first + l.count - l.participant) ≡ with_all_yes l.fn.self l.first l.count;
}
