-- What the runs of plans with consecutive numbers come to.
use Rattle.std.specs.Prelude.{◌≡◌, ℕ, ◌==◌, ◌<◌, not, if◌then◌else◌, Bool, false, List, [], ◌∷◌, Option, None, Some, length, slice_index_or}
use Rattle.std.specs.List.{flat_map, list_all, range_with_len}
use Rattle.action_eval.specs.declared.rig.Rig.{Rig}
use Rattle.action_eval.specs.Answers.{given_of}
use Rattle.action_eval.specs.RiggedScenario.{rigged_scenario}
use Rattle.target_trait.specs.Outcomes.{Told, outcome, verdict_in, whole_play}
use Rattle.target_trait.specs.declared.judgement.Verdict.{Verdict}
use Rattle.target_trait.specs.declared.judgement.Verdict.TheVariants as verdict
use Rattle.plan_gen.specs.LoopRuns.{times}
use Rattle.target_trait.specs.declared.target.Target.{Ghosts}
use Rattle.grown_plans.specs.GrownPlans.{Subject, usual_subject, rigs_of, most}
use Rattle.grown_plans.specs.AskedPoints.{onward_by}
use Rattle.grown_plans.specs.Kept.{Grew, kept_children}
use Rattle.grown_plans.specs.Promises.{lesser}

-- What plans are run on: what a target asks on a workload, the names of its points, and a limit of hits.
abbrev pub subject_of : {T W : Type 0} → Ghosts T W → T → W → ℕ → Subject
subject_of target setup workload limit = usual_subject (target.asks setup workload) target.names limit

-- What `count` plans give one after another, from number `first` on. Each gives something by its number and its faults.
abbrev pub over : {A : Type 0} → (ℕ → List Rig → List A) → List (List Rig) → ℕ → ℕ → List A
over gives plans first count = flat_map (λ n. gives n (slice_index_or plans n [])) (range_with_len first count)

-- The run of rigged hits and, below, of a plan, under a seed and a stream number.
abbrev pub told_of_rigs : Subject → ℕ → ℕ → List Rig → Told
told_of_rigs t seed stream rigs = outcome t.asks (given_of (rigged_scenario t.names rigs) t.names seed stream t.limit)

abbrev pub told : Subject → ℕ → ℕ → List Rig → Told
told t seed n plan = told_of_rigs t seed n (rigs_of plan)

-- The verdict of rigged hits.
abbrev pub verdict_by : Subject → ℕ → ℕ → List Rig → Verdict
verdict_by t seed stream rigs = verdict_in t.asks (whole_play t.asks (given_of (rigged_scenario t.names rigs) t.names seed stream t.limit))

-- A plan's verdict, with its number as the stream number.
abbrev pub verdict_at : Subject → ℕ → ℕ → List Rig → List Verdict
verdict_at t seed n plan = verdict_by t seed n (rigs_of plan) ∷ []

-- A plan's children, as they are kept.
abbrev pub children_at : Subject → ℕ → ℕ → List Rig → List Grew
children_at t seed n plan = kept_children t.kinds n plan (told t seed n plan).asked

-- The plan with its last fault sticky, if that is a return whose point the plan's run hits again.
abbrev pub onward_at : Subject → ℕ → ℕ → List Rig → List (List Rig)
onward_at t seed n plan = onward_by plan (told t seed n plan).asked

-- How often a plan's run hits a point.
abbrev pub hits_at : Subject → ℕ → ℕ → ℕ → List Rig → List ℕ
hits_at t seed point n plan = times point (told t seed n plan).asked ∷ []

-- Each count is the most hits of its point that a run has.
abbrev pub AreMost : Subject → ℕ → List (List Rig) → ℕ → ℕ → List ℕ → Type 0
AreMost t seed plans first count counts =
    (p : ℕ) → p < length counts → slice_index_or counts p 0 ≡ most (over (hits_at t seed p) plans first count)

-- ---- causes

abbrev pub fails_with : ℕ → Verdict → Bool
fails_with code verdict.Pass = false
fails_with code (verdict.Fail other) = other == code
fails_with code verdict.Unresolved = false

-- No list of the rigged hits with one left out fails with the code.
abbrev pub is_least : Subject → ℕ → ℕ → ℕ → List Rig → Bool
is_least t seed stream code rigs = list_all (λ less. not (fails_with code (verdict_by t seed stream less))) (lesser rigs)

-- The number and the code of a plan that fails, if it is a cause: without any one of its faults it doesn't fail with the code.
abbrev pub cause_by : Subject → ℕ → ℕ → List Rig → Verdict → List (ℕ × ℕ)
cause_by t seed n rigs verdict.Pass = []
cause_by t seed n rigs (verdict.Fail code) = if is_least t seed n code rigs then (n, code) ∷ [] else []
cause_by t seed n rigs verdict.Unresolved = []

-- What is kept of a cause, if there is one.
abbrev pub causes_by : ℕ → Option ℕ → List (ℕ × ℕ)
causes_by n None = []
causes_by n (Some code) = (n, code) ∷ []

abbrev pub cause_at : Subject → ℕ → ℕ → List Rig → List (ℕ × ℕ)
cause_at t seed n plan = cause_by t seed n (rigs_of plan) (verdict_by t seed n (rigs_of plan))
