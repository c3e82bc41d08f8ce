use Rattle.std.proofs.Common.{◌≡◌, ◌<◌, ◌+◌, ℕ, take}
use Rattle.commit_target.specs.Judgement.{was_told}
use Rattle.commit_target.specs.inside.Marks.{among}
use Rattle.commit_target.proofs.marks.set_of.Given as goal

abbrev pub invariant-loop-transaction : goal.invariant-loop-transaction
invariant-loop-transaction l = (k : ℕ) → k < 64 → among l.set k ≡ was_told (take l.transaction-index l.transactions) (l.first + k)
