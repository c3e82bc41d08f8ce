-- What a report says of scenarios: each verdict is that of its number's scenario, also where that is a storm or a listed one; what a finding is reduced
-- to is ddmin's, fails, and is minimal; and the causes are the plans that grew whose scenarios fail and are minimal.
use Rattle.std.specs.Prelude.{◌≡◌, ◌≢◌, ◌<◌, ℕ, Some, List, All, AllPairs, Contains, length, remove, slice_get}
use Rattle.std.specs.List.{range_with_len}
use Rattle.scenario_values.specs.Scenario.{Entries, all_faults}
use Rattle.scenario_values.specs.Keep.{kept}
use Rattle.action_eval.specs.Answers.{given_of}
use Rattle.target_trait.specs.Outcomes.{verdict_with}
use Rattle.target_trait.specs.declared.judgement.Verdict.{Verdict}
use Rattle.target_trait.specs.declared.judgement.Verdict.TheVariants.{Fail}
use Rattle.grown_plans.specs.Runs.{Met, run}
use Rattle.grown_plans.specs.GrownPlans.{Subject}
use Rattle.report.specs.Reports.{FindingFacts, CauseFacts}
use Rattle.campaign_core.specs.Findings.{reduced, reduction}
use Rattle.campaign_core.specs.promises.Told.{Told, HasBehaviour, HasVerdict, count_of_all}

-- The verdict of a scenario that is run with this number as its stream number.
abbrev pub verdict_of : Subject → Told → ℕ → Entries → Verdict
verdict_of t told number scenario = verdict_with t.asks t.names told.report.seed t.limit number scenario

-- A scenario without one of its faults.
abbrev pub without : ℕ → Entries → Entries
without fault scenario = kept (remove (range_with_len 0 (all_faults scenario)) fault) scenario

-- If any one of a scenario's faults is left out, it doesn't fail with this code.
abbrev pub IsLeast : Subject → Told → ℕ → ℕ → Entries → Type 0
IsLeast t told number code scenario =
    (fault : ℕ) → fault < all_faults scenario → verdict_of t told number (without fault scenario) ≢ Fail code

-- The scenario of a finding is that of its number. The reduced one has the faults that ddmin keeps of it, and `tests` is how many sets ddmin looks at. It
-- fails with the code, and doesn't if any one of its faults is left out.
pub record IsReduction (t : Subject) (scenarios : List Entries) (told : Told) (f : FindingFacts) : Type 0 where
  pub scenario : slice_get scenarios f.number ≡ Some f.scenario
  pub kept_are : f.reduced ≡ reduced (verdict_of t told) f.number f.code f.scenario
  pub tests : f.tests ≡ (reduction (verdict_of t told) f.number f.code f.scenario).tests
  pub fails : verdict_of t told f.number f.reduced ≡ Fail f.code
  pub minimal : IsLeast t told f.number f.code f.reduced

-- The scenario of a cause is that of its number, and each of its faults is needed, a sticky one too.
pub record IsLeastCause (t : Subject) (scenarios : List Entries) (told : Told) (c : CauseFacts) : Type 0 where
  pub scenario : slice_get scenarios c.number ≡ Some c.scenario
  pub minimal : IsLeast t told c.number c.code c.scenario

-- Of the scenarios of all numbers, in order. The run of a number's scenario is the number's behaviour, if it has one.
pub record Further (t : Subject) (scenarios : List Entries) (told : Told) : Type 0 where
  pub all_told : length told.report.verdicts ≡ length scenarios
  pub judged : (number : ℕ) (s : Entries) → slice_get scenarios number ≡ Some s → HasVerdict told number (verdict_of t told number s)
  pub plays : (number : ℕ) (s : Entries) (hits : List Met) → slice_get scenarios number ≡ Some s → HasBehaviour told number hits
      → run t.asks (given_of s t.names told.report.seed number t.limit) ≡ hits
  pub findings : All (IsReduction t scenarios told) told.report.findings
  -- Of the plans that grew, those that fail and need each of their faults are the causes, each once, in the order of their numbers.
  pub causes : All (IsLeastCause t scenarios told) told.growth.causes
  pub each_cause : (number code : ℕ) (s : Entries) → number < count_of_all told → slice_get scenarios number ≡ Some s
      → verdict_of t told number s ≡ Fail code → IsLeast t told number code s
      → Contains told.growth.causes (record { number = number; code = code; scenario = s })
  pub in_order : AllPairs (λ c d. c.number < d.number) told.growth.causes
