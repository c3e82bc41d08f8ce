-- One participant more, and one transaction more.
use Rattle.std.proofs.Common.{◌≡◌, ℕ, suc, ◌+◌, ◌||◌, not, Bool, true, false, List, ap, arith}
use Rattle.commit_target.specs.declared.records.Record.{Record}
use Rattle.commit_target.specs.Judgement.{some_ends, judged_by, judged_one, or_then}

one_more : (n : ℕ) → n + 1 ≡ suc n
one_more n = omega arith

pub one_committed : (f : ℕ → Bool) (n : ℕ) → some_ends f true (n + 1) ≡ some_ends f true n || f n
one_committed f n = ap (some_ends f true) (one_more n)

pub one_aborted : (f : ℕ → Bool) (n : ℕ) → some_ends f false (n + 1) ≡ some_ends f false n || not (f n)
one_aborted f n = ap (some_ends f false) (one_more n)

pub one_judged : (participants : ℕ) (told : List ℕ) (known : List Record) (own : ℕ → List Record) (n : ℕ)
    → judged_by participants told known own (n + 1) ≡ or_then (judged_by participants told known own n) (judged_one participants told known own n)
one_judged participants told known own n = ap (judged_by participants told known own) (one_more n)
