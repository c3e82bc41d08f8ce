-- What workers come back with.
use Rattle.std.specs.Prelude.{◌≡◌, ℕ, Bool, List, length, All, Vec}
use Rattle.std.specs.Global.{Global}
use Rattle.ddmin_parallel.specs.Logs.{AreAnswers}

-- Each worker answers as the test does, and the pairs that it returned with are answers of the test.
abbrev pub AreTold : {P : Type 0} → (P → List ℕ → Bool) → (List ℕ → Bool) → List (P × Vec (List ℕ × Bool) Global) → Type 0
AreTold answers test all = All (λ r. (answers r.0 ≡ test) × AreAnswers test r.1.items) all

-- As many workers come back as set out. If all of them answered as one test when they set
-- out, each comes back answering so, with answers of that test.
abbrev pub AreBack : {P : Type 0} → (P → List ℕ → Bool) → List P → List (P × Vec (List ℕ × Bool) Global) → Type 0
AreBack answers workers all = (length all ≡ length workers) × ((test : List ℕ → Bool) → All (λ p. answers p ≡ test) workers → AreTold answers test all)
