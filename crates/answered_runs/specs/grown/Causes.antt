-- Which plans are causes, by the verdicts that answers give. A cause fails with a code, and doesn't if any one of its rigged hits is left out.
use Rattle.std.specs.Prelude.{All, ◌≡◌, ℕ, ◌<◌, Bool, false, List, [], ◌∷◌, ◌++◌, Option, None, Some, if◌then◌else◌, is_none, length, map}
use Rattle.std.specs.List.{filter, flat_map, list_any}
use Rattle.scenario_values.specs.Scenario.{Entries}
use Rattle.scenario_values.specs.Tidied.{tidied}
use Rattle.action_eval.specs.declared.rig.Rig.{Rig}
use Rattle.action_eval.specs.RiggedScenario.{rigged_scenario}
use Rattle.target_trait.specs.declared.judgement.Verdict.{Verdict}
use Rattle.target_trait.specs.declared.judgement.Verdict.TheVariants as verdict
use Rattle.grown_plans.specs.GrownPlans.{Subject, rigs_of}
use Rattle.grown_plans.specs.Promises.{lesser}
use Rattle.grown_runs.specs.GrownRuns.{cause_at, fails_with, over}
use Rattle.answer_text.specs.Runs.{told_in}
use Rattle.answered_runs.specs.Answered.{Answered}
use Rattle.answered_runs.specs.Verdicts.{verdict_by}
use Rattle.answered_runs.specs.declared.grown.causing.Causes.{Causes}
use Rattle.answered_runs.specs.declared.grown.causing.Causes.TheVariants.{Told, Open}

-- The verdict of each list of rigged hits, if it is known.
abbrev pub Verdicts : Type 0
Verdicts = List Rig → Option Verdict

-- The tidied scenario of rigged hits, for which answers are looked up.
abbrev pub rigged_in : Answered → List Rig → Entries
rigged_in a rigs = tidied (rigged_scenario a.points rigs)

abbrev pub verdicts_in : Answered → ℕ → Verdicts
verdicts_in a depth rigs = verdict_by a.points (told_in a.book) depth (rigged_in a rigs)

-- The verdict is known, and is a failure with this code.
abbrev pub is_failure : ℕ → Option Verdict → Bool
is_failure code None = false
is_failure code (Some v) = fails_with code v

-- One of these lists is known to fail with this code.
abbrev pub one_fails : Verdicts → ℕ → List (List Rig) → Bool
one_fails known code lists = list_any (λ rigs. is_failure code (known rigs)) lists

-- The lists whose verdicts aren't known.
abbrev pub unknown : Verdicts → List (List Rig) → List (List Rig)
unknown known lists = filter (λ rigs. is_none (known rigs)) lists

-- The lists whose missing verdicts decide whether rigged hits are a cause, given their own verdict if it is known. If one of the lists with one hit
-- left out is known to fail with the same code, the hits are no cause, and no other verdict matters.
abbrev pub open_by : Verdicts → List Rig → Option Verdict → List (List Rig)
open_by known rigs None = rigs ∷ []
open_by known rigs (Some verdict.Pass) = []
open_by known rigs (Some (verdict.Fail code)) = if one_fails known code (lesser rigs) then [] else unknown known (lesser rigs)
open_by known rigs (Some verdict.Unresolved) = []

-- The number and the code, if the rigged hits are a cause. This counts once no verdict is missing.
abbrev pub known_by : Verdicts → ℕ → List Rig → Option Verdict → List (ℕ × ℕ)
known_by known n rigs None = []
known_by known n rigs (Some verdict.Pass) = []
known_by known n rigs (Some (verdict.Fail code)) = if one_fails known code (lesser rigs) then [] else (n, code) ∷ []
known_by known n rigs (Some verdict.Unresolved) = []

-- The same for a plan, and for plans that are numbered from 0.
abbrev pub open_of : Verdicts → List Rig → List (List Rig)
open_of known plan = open_by known (rigs_of plan) (known (rigs_of plan))

abbrev pub cause_known : Verdicts → ℕ → List Rig → List (ℕ × ℕ)
cause_known known n plan = known_by known n (rigs_of plan) (known (rigs_of plan))

abbrev pub known_causes : Verdicts → List (List Rig) → List (ℕ × ℕ)
known_causes known plans = over (cause_known known) plans 0 (length plans)

-- The first ones of these verdicts are those of these plans.
abbrev pub AreVerdictsFrom : Answered → ℕ → List (List Rig) → List (Option Verdict) → Type 0
AreVerdictsFrom a depth plans verdicts = (rest : List (Option Verdict)) × (verdicts ≡ map (λ plan. verdicts_in a depth (rigs_of plan)) plans ++ rest)

-- The scenarios whose missing verdicts decide which of these plans are causes.
abbrev pub open_scenarios : Answered → ℕ → List (List Rig) → List Entries
open_scenarios a depth plans = map (rigged_in a) (flat_map (open_of (verdicts_in a depth)) plans)

-- The causes if there are no such scenarios, or else these scenarios.
abbrev pub AreCauses : Answered → ℕ → List (List Rig) → Causes → Type 0
AreCauses a depth plans (Told causes) = (open_scenarios a depth plans ≡ []) × (causes.items ≡ known_causes (verdicts_in a depth) plans)
AreCauses a depth plans (Open scenarios) = (0 < length scenarios.items) × (scenarios.items ≡ open_scenarios a depth plans)

-- Each cause is one of `many` plans.
abbrev pub AreAmong : ℕ → Causes → Type 0
AreAmong many (Told causes) = All (λ cause. cause.0 < many) causes.items
AreAmong many (Open scenarios) = Unit {0}

-- The causes are those of a component among these plans, under each seed.
abbrev pub AreCausesOf : Subject → List (List Rig) → Causes → Type 0
AreCausesOf t plans (Told causes) = (seed : ℕ) → causes.items ≡ over (cause_at t seed) plans 0 (length plans)
AreCausesOf t plans (Open scenarios) = Unit {0}
