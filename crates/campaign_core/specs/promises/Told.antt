-- What a report of a campaign with a depth says: the facts that it prints, and the behaviour of each plan that grew, as `explain` shows it.
use Rattle.std.specs.Prelude.{◌≡◌, ℕ, suc, ◌+◌, ◌-◌, ◌<◌, nat_lt, if◌then◌else◌, List, [], ◌∷◌, Some, sum, slice_get}
use Rattle.target_trait.specs.declared.judgement.Verdict.{Verdict}
use Rattle.grown_plans.specs.Runs.{Met}
use Rattle.report.specs.Reports.{ReportFacts, GrowthFacts}

pub record Told : Type 0 where
  pub report : ReportFacts
  pub growth : GrowthFacts
  -- The behaviours by their numbers: first those of the levels from 0 on, and then those with a sticky fault.
  pub behaviours : List (List Met)

-- How many plans the levels have, and how many there are with the sticky ones too. Plans have the numbers below these counts.
abbrev pub count_of_levels : Told → ℕ
count_of_levels told = sum told.growth.levels

abbrev pub count_of_all : Told → ℕ
count_of_all told = count_of_levels told + told.growth.onward

-- The level of a number, given how many plans each level has: the numbers of level 0 come first, then those of level 1, and so on.
abbrev pub level_at : List ℕ → ℕ → ℕ
level_at [] number = 0
level_at (size ∷ sizes) number = if nat_lt number size then 0 else suc (level_at sizes (number - size))

-- The number has this behaviour and, below, this verdict.
abbrev pub HasBehaviour : Told → ℕ → List Met → Type 0
HasBehaviour told number hits = slice_get told.behaviours number ≡ Some hits

abbrev pub HasVerdict : Told → ℕ → Verdict → Type 0
HasVerdict told number verdict = slice_get told.report.verdicts number ≡ Some verdict

-- Exactly one number below a bound has this behaviour, and it has this verdict.
pub record IsToldOnce (told : Told) (bound : ℕ) (hits : List Met) (verdict : Verdict) : Type 0 where
  pub number : ℕ
  pub below : number < bound
  pub behaves : HasBehaviour told number hits
  pub comes : HasVerdict told number verdict
  pub no_other : (other : ℕ) → other < bound → HasBehaviour told other hits → other ≡ number
