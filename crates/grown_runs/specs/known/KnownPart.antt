-- The part of a subject's list of plans that recorded runs make known, and which of its plans are still to be run.
use Rattle.std.specs.Prelude.{ℕ, ◌&&◌, Bool, true, false, List, [], ◌∷◌, ◌++◌, Option, None, Some, is_none}
use Rattle.std.specs.List.{filter}
use Rattle.action_eval.specs.declared.rig.Rig.{Rig}
use Rattle.action_eval.specs.declared.rig.Kind.TheVariants.{OnceReturn}
use Rattle.action_eval.specs.RiggedScenario.{rig, text_of}
use Rattle.grown_plans.specs.GrownPlans.{Subject, levels, onward}
use Rattle.grown_runs.specs.known.Known.{KnownRuns, hits_of}

abbrev pub are_told : {A : Type 0} → Option A → Bool
are_told None = false
are_told (Some x) = true

-- The hits of each plan that this one grew from are known. So it is known that this plan is in the list.
abbrev pub is_reached : KnownRuns → List Rig → Bool
is_reached known [] = true
is_reached known (r ∷ rs) = are_told (hits_of known rs) && is_reached known rs

-- The plan that one with a sticky last fault comes from: the same with this fault once.
abbrev pub once_of : List Rig → List Rig
once_of [] = []
once_of (r ∷ rs) = rig r.site (OnceReturn (text_of r.kind)) ∷ rs

abbrev pub is_reached_onward : KnownRuns → List Rig → Bool
is_reached_onward known plan = are_told (hits_of known (once_of plan)) && is_reached known (once_of plan)

-- The known plans of the levels to a depth, in the order of the list.
abbrev pub known_levels : Subject → ℕ → KnownRuns → List (List Rig)
known_levels t d known = filter (is_reached known) (levels t d)

abbrev pub known_part : Subject → ℕ → KnownRuns → List (List Rig)
known_part t d known = known_levels t d known ++ filter (is_reached_onward known) (onward t d)

-- The known plans that are still to be run.
abbrev pub to_run : Subject → ℕ → KnownRuns → List (List Rig)
to_run t d known = filter (λ plan. is_none (known plan)) (known_part t d known)
