-- How the runs of one plan's children begin.
use Rattle.std.specs.Prelude.{◌≡◌, ◌⊎◌, ℕ, ◌<◌, List, [], Some, length, slice_index_or}
use Rattle.action_eval.specs.declared.rig.Rig.{Rig}
use Rattle.grown_plans.specs.GrownPlans.{Subject}
use Rattle.grown_plans.specs.AskedPoints.{AsksLikeParent}
use Rattle.grown_plans.specs.Begun.{CountsFirst, IsBegun}
use Rattle.grown_plans.specs.declared.begun.Begun.{Begun}
use Rattle.grown_runs.specs.GrownRuns.{told}

-- The run of each plan asks the same as the run of the plan that it grew from, up to the hit of its last fault.
abbrev pub AskLikeParents : Subject → List (List Rig) → Type 0
AskLikeParents t plans = (n : ℕ) → n < length plans → AsksLikeParent t (slice_index_or plans n [])

-- The first hits that are counted are those of the parent's run.
abbrev pub TellsParent : Subject → ℕ → List (List Rig) → Begun → Type 0
TellsParent t seed plans b = (parent : ℕ) → b.parent ≡ Some parent → CountsFirst b (told t seed parent (slice_index_or plans parent [])).asked

-- The counts stay as they are, or they are made anew from this plan's run.
abbrev pub MovesOn : Begun → Begun → ℕ → List Rig → List ℕ → Type 0
MovesOn old new parent plan asked = ((new.parent ≡ old.parent) × (new.hits ≡ old.hits) × (new.counts ≡ old.counts)) ⊎ IsBegun new parent plan asked
