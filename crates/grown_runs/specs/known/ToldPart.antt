-- The list of plans as it grows from recorded hits alone. For each subject that agrees with them it is the known part of the subject's list.
use Rattle.std.specs.Prelude.{ℕ, zero, suc, List, [], ◌∷◌, ◌++◌, Option, None, Some}
use Rattle.std.specs.List.{flat_map}
use Rattle.action_eval.specs.declared.rig.Rig.{Rig}
use Rattle.action_eval.specs.declared.rig.Kind.{Kind}
use Rattle.grown_plans.specs.AskedPoints.{children_by, onward_by}
use Rattle.grown_plans.specs.GrownPlans.{levels_to}
use Rattle.grown_runs.specs.known.Known.{KnownRuns, hits_of}

-- The children of a plan whose hits are recorded.
abbrev pub children_told : (ℕ → List Kind) → List Rig → Option (List ℕ) → List (List Rig)
children_told kinds plan None = []
children_told kinds plan (Some hits) = children_by kinds plan hits

abbrev pub children_known : (ℕ → List Kind) → KnownRuns → List Rig → List (List Rig)
children_known kinds known plan = children_told kinds plan (hits_of known plan)

unfoldable pub level_known : (ℕ → List Kind) → KnownRuns → ℕ → List (List Rig)
level_known kinds known zero = [] ∷ []
level_known kinds known (suc n) = flat_map (children_known kinds known) (level_known kinds known n)

abbrev pub levels_known : (ℕ → List Kind) → KnownRuns → ℕ → List (List Rig)
levels_known kinds known d = levels_to (level_known kinds known) d

-- The plan with its last fault sticky, if that is a return and its point is hit again in the recorded hits.
abbrev pub onward_told : List Rig → Option (List ℕ) → List (List Rig)
onward_told plan None = []
onward_told plan (Some hits) = onward_by plan hits

abbrev pub behind_known : (ℕ → List Kind) → KnownRuns → ℕ → List (List Rig)
behind_known kinds known d = flat_map (λ plan. onward_told plan (hits_of known plan)) (level_known kinds known d)

abbrev pub part_known : (ℕ → List Kind) → KnownRuns → ℕ → List (List Rig)
part_known kinds known d = levels_known kinds known d ++ behind_known kinds known d
