use Rattle.std.proofs.Common.{◌≡◌, ◌≤◌, ℕ, List}
use Rattle.commit_target.specs.declared.records.Record.{Record}
use Rattle.commit_target.specs.Judgement.{judged_by}
use Rattle.commit_target.specs.inside.Held.{Holds}
use Rattle.commit_target.specs.inside.Marks.{EndsOf}
use Rattle.commit_target.proofs.judge.judgement.Given as goal

abbrev pub invariant-loop-transaction : goal.invariant-loop-transaction
invariant-loop-transaction l = record {
  from : l.ends.first ≤ l.transaction;
  ends : (known : List Record) (own : ℕ → List Record) → Holds l.participants l.logs known own → EndsOf l.participants l.told known own l.ends;
  so_far : (known : List Record) (own : ℕ → List Record) → Holds l.participants l.logs known own
      → l.judgement ≡ judged_by l.participants l.told known own l.transaction;
}
