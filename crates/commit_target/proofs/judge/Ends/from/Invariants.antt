use Rattle.std.proofs.Common.{◌≡◌, ◌<◌, ◌+◌, ℕ, List, true, false}
use Rattle.commit_target.specs.declared.records.Record.{Record}
use Rattle.commit_target.specs.Judgement.{some_ends, is_committed}
use Rattle.commit_target.specs.inside.Held.{Holds}
use Rattle.commit_target.specs.inside.Marks.{among}
use Rattle.commit_target.proofs.judge.Ends.from.Given as goal

abbrev pub invariant-loop-log : goal.invariant-loop-log
invariant-loop-log l = record {
  committed : (known : List Record) (own : ℕ → List Record) → Holds l.participants l.logs known own → (k : ℕ) → k < 64
      → among l.committed_by k ≡ some_ends (λ n. is_committed known (own n) (l.first + k)) true l.log-index;
  aborted : (known : List Record) (own : ℕ → List Record) → Holds l.participants l.logs known own → (k : ℕ) → k < 64
      → among l.aborted_by k ≡ some_ends (λ n. is_committed known (own n) (l.first + k)) false l.log-index;
}
