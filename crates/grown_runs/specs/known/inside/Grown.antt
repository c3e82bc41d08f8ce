-- How a list keeps the plans that grow from recorded runs. Private contracts cite it.
use Rattle.std.specs.Prelude.{ℕ, zero, suc, ◌+◌, Bool, false, List, [], ◌++◌, Option, None, Some, slice_index_or}
use Rattle.action_eval.specs.declared.rig.Rig.{Rig}
use Rattle.action_eval.specs.declared.rig.Kind.{Kind}
use Rattle.grown_plans.specs.Kept.{Grew, kept_children}
use Rattle.grown_plans.specs.AskedPoints.{is_asked_again}
use Rattle.grown_runs.specs.known.Known.{KnownRuns, hits_of}
use Rattle.grown_runs.specs.known.ToldPart.{onward_told}

abbrev pub kept_told : (ℕ → List Kind) → ℕ → List Rig → Option (List ℕ) → List Grew
kept_told kinds n plan None = []
kept_told kinds n plan (Some hits) = kept_children kinds n plan hits

abbrev pub kept_known : (ℕ → List Kind) → KnownRuns → List (List Rig) → ℕ → List Grew
kept_known kinds known plans n = kept_told kinds n (slice_index_or plans n []) (hits_of known (slice_index_or plans n []))

-- Whether a plan's hits are recorded and have the last fault's point once more after that fault.
abbrev pub again_told : List Rig → Option (List ℕ) → Bool
again_told plan None = false
again_told plan (Some hits) = is_asked_again plan hits

abbrev pub again_known : KnownRuns → List (List Rig) → ℕ → Bool
again_known known plans n = again_told (slice_index_or plans n []) (hits_of known (slice_index_or plans n []))

-- The children of `count` plans, from this number on.
abbrev pub kept_over : (ℕ → List Kind) → KnownRuns → List (List Rig) → ℕ → ℕ → List Grew
kept_over kinds known plans first zero = []
kept_over kinds known plans first (suc count) = kept_known kinds known plans first ++ kept_over kinds known plans (first + 1) count

-- The plans with their last fault sticky that come from the plan of this number.
abbrev pub onward_known : KnownRuns → List (List Rig) → ℕ → List (List Rig)
onward_known known plans n = onward_told (slice_index_or plans n []) (hits_of known (slice_index_or plans n []))

abbrev pub onward_over : KnownRuns → List (List Rig) → ℕ → ℕ → List (List Rig)
onward_over known plans first zero = []
onward_over known plans first (suc count) = onward_known known plans first ++ onward_over known plans (first + 1) count
