-- Components that somebody else runs, as subjects that keep a target's laws.
use Rattle.std.specs.Prelude.{◌≡◌, ◌<◌, ◌^◌, ℕ, List, IfSome}
use Rattle.scenario_values.specs.Scenario.{Entries, IsScenario}
use Rattle.action_eval.specs.Answers.{given_of}
use Rattle.action_eval.specs.declared.rig.Kind.{Kind}
use Rattle.target_trait.specs.Outcomes.{outcome}
use Rattle.answer_text.specs.Hits.{points_of}
use Rattle.answer_text.specs.Runs.{KnownRuns}
use Rattle.answer_text.specs.declared.runs.ToldRun.{ToldRun}
use Rattle.grown_plans.specs.GrownPlans.{Subject}
use Rattle.grown_plans.specs.Promises.{IsLawful}
use Rattle.answered_runs.specs.Agreement.{IsCertain}
use Rattle.answered_runs.specs.Answered.{kinds_over}

-- A component with these points. What it asks next follows from the answers to its earlier hits. The kinds of faults tried at a point are those that
-- are listed for it, or else the usual ones. Fewer than 2^32 hits of a run are answered.
pub record IsComponent (points : List (List ℕ)) (listed : List (List Kind)) (t : Subject) : Type 0 where
  pub lawful : IsLawful t
  pub names : t.names ≡ points
  pub kinds : t.kinds ≡ kinds_over points listed
  pub few : t.limit < 2 ^ 32

-- What a line says of a scenario is true of a component, under whatever seed and stream number: nothing is drawn for it.
pub record IsTrueRun (t : Subject) (s : Entries) (r : ToldRun) : Type 0 where
  pub verdict : (seed stream : ℕ) → (outcome t.asks (given_of s t.names seed stream t.limit)).verdict ≡ r.verdict
  pub hits : (seed stream : ℕ) → IfSome r.hits (λ hits. (outcome t.asks (given_of s t.names seed stream t.limit)).asked ≡ points_of hits)

-- A component agrees with answers: each recorded run of a scenario in which nothing is drawn is true of it. Of a scenario with a share, such as
-- `a=50%return`, one run says nothing: the next one may come out otherwise.
abbrev pub AgreesWithRuns : Subject → KnownRuns → Type 0
AgreesWithRuns t told = (s : Entries) → IsScenario s → IsCertain s → IfSome (told s) (IsTrueRun t s)
