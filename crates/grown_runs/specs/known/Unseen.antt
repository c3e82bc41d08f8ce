-- Plans that were run but whose hits nobody knows, for example since the run took too long. No plans grow from them.
use Rattle.std.specs.Prelude.{◌≡◌, ℕ, ◌++◌, Bool, false, List, [], ◌∷◌, Option, None, Some, is_none, Contains}
use Rattle.std.specs.List.{filter}
use Rattle.action_eval.specs.declared.rig.Rig.{Rig}
use Rattle.plan_gen.specs.RiggedAnswers.{reply_by}
use Rattle.grown_plans.specs.Runs.{Met, met}
use Rattle.grown_plans.specs.GrownPlans.{Subject, run_of_plan}
use Rattle.grown_runs.specs.known.Known.{KnownRuns, Told}
use Rattle.grown_runs.specs.known.KnownPart.{known_levels, known_part}

-- The run is recorded without its hits.
abbrev pub is_without_hits : Option Told → Bool
is_without_hits None = false
is_without_hits (Some told) = is_none told.hits

abbrev pub is_unseen : KnownRuns → List Rig → Bool
is_unseen known plan = is_without_hits (known plan)

-- The unseen plans of the known part of a subject's list, as many as the report's line `unseen` says. Sticky ones are among them; as no plan grows
-- from these, only those of the levels leave runs out.
abbrev pub unseen : Subject → ℕ → KnownRuns → List (List Rig)
unseen t d known = filter (is_unseen known) (known_part t d known)

-- These hits begin like the run of a plan, up to its last fault and with that. All hits begin like the run without faults.
abbrev pub BeginsLike : Subject → List Rig → List Met → Type 0
BeginsLike t [] ms = Unit {0}
BeginsLike t (r ∷ parent) ms =
    (before rest past : List Met) × (run_of_plan t (r ∷ parent) ≡ before ++ met r.site (reply_by r.kind) ∷ rest)
    × (ms ≡ before ++ met r.site (reply_by r.kind) ∷ past)

-- These hits begin like the run of an unseen plan of the known levels.
abbrev pub BeginsUnseen : Subject → ℕ → KnownRuns → List Met → Type 0
BeginsUnseen t d known ms = (plan : List Rig) × Contains (filter (is_unseen known) (known_levels t d known)) plan × BeginsLike t plan ms
