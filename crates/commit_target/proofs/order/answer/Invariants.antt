use Rattle.std.proofs.Common.{◌≡◌, ◌++◌, drop}
use Rattle.commit_target.specs.Crash.{answers_of}
use Rattle.commit_target.proofs.order.answer.Given as goal

abbrev pub invariant-loop-place : goal.invariant-loop-place
invariant-loop-place l = l.answers.items ++ answers_of l.party (drop l.place l.order) (drop l.place l.keep) ≡ answers_of l.party l.order l.keep
