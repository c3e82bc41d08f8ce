-- One-minimality, after A. Zeller and R. Hildebrandt, "Simplifying and Isolating Failure-Inducing Input" (2002).

use Rattle.std.specs.Prelude.{◌≡◌, ℕ, ◌<◌, Bool, true, false, List, length, remove}

-- The set fails, and it doesn't fail if any one of its members is left out.
pub record IsOneMinimal (test : List ℕ → Bool) (set : List ℕ) : Type 0 where
  pub fails : test set ≡ true
  pub each : (i : ℕ) → i < length set → test (remove set i) ≡ false
