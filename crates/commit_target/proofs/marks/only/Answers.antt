use Rattle.commit_target.proofs.Sets.{among_one}
use Rattle.commit_target.proofs.marks.only.Goals as goal
use Rattle.std.proofs.Common.{◌≡◌, ◌==◌, ◌+◌, ◌-◌, ◌≤◌, ◌∙◌, ℕ, arith}
use Rattle.std.proofs.lemmas.Bool.Decides.{nat_tests}

same_place : (t first k : ℕ) → first ≤ t → (k == t - first) ≡ (t == first + k)
same_place t first k h = grind (arith, nat_tests)

pub returns-then-transaction-first-lt-WIDTH : goal.returns-then-transaction-first-lt-WIDTH
returns-then-transaction-first-lt-WIDTH c = λ k h. among_one _ k (omega arith) ∙ same_place c.args.transaction c.args.first k (omega arith)
