-- What a report says of a list of plans, defined by a map and recursions on lists. The first argument
-- `say` gives the verdict of a scenario under a stream number.
use Rattle.std.specs.Prelude.{◌≡◌, ◌<◌, ℕ, ◌+◌, true, List, [], length, map, slice_index_or, Option, None, Some}
use Rattle.std.specs.List.{range_with_len}
use Rattle.scenario_values.specs.Scenario.{Entries, all_faults}
use Rattle.scenario_values.specs.Keep.{kept}
use Rattle.scenario_values.specs.Tidied.{tidied}
use Rattle.target_trait.specs.declared.judgement.Verdict.{Verdict}
use Rattle.target_trait.specs.declared.judgement.Verdict.TheVariants as verdict
use Rattle.result_book.specs.Verdicts.{verdicts_from, numbered}
use Rattle.result_book.specs.FirstFailures.{first_failures}
use Rattle.ddmin_parallel.specs.Ddmin.{Reduced, ddmin}
use Rattle.ddmin_parallel.specs.OneMinimal.{IsOneMinimal}
use Rattle.report.specs.Reports.{FindingFacts, CauseFacts, GrowthFacts, ReportFacts}
use Rattle.action_eval.specs.declared.rig.Rig.{Rig}
use Rattle.grown_plans.specs.GrownPlans.{Subject, scenario_of, onward, grown, beyond}
use Rattle.grown_plans.specs.Promises.{IsCause}
use Rattle.grown_runs.specs.GrownRuns.{over, cause_at}
use Rattle.grown_runs.specs.Grown.{level_sizes, reached_each}
use Rattle.campaign_core.specs.FaultTest.{fails_with, fault_test}

-- The reduction of a scenario's faults: which ones are kept so that it still fails with this code under this stream number.
abbrev pub reduction : (ℕ → Entries → Verdict) → ℕ → ℕ → Entries → Reduced
reduction say stream code s = ddmin (fault_test (say stream) code s) (all_faults s)

-- The reduced scenario: the scenario with only the faults that were kept, tidied.
abbrev pub reduced : (ℕ → Entries → Verdict) → ℕ → ℕ → Entries → Entries
reduced say stream code s = tidied (kept (reduction say stream code s).kept s)

-- The plan of this number.
abbrev pub plan_at : List Entries → ℕ → Entries
plan_at plans number = slice_index_or plans number []

-- What is reported of a first failure, given its number and code. Its plan is reduced as a failure
-- with this code, and the plan's number is the stream number.
abbrev pub finding : (ℕ → Entries → Verdict) → List Entries → ℕ × ℕ → FindingFacts
finding say plans first = record {
  number = first.0;
  code = first.1;
  scenario = plan_at plans first.0;
  reduced = reduced say first.0 first.1 (plan_at plans first.0);
  tests = (reduction say first.0 first.1 (plan_at plans first.0)).tests;
}

-- A cause among these plans, given its number and code.
abbrev pub cause_of : List Entries → ℕ × ℕ → CauseFacts
cause_of plans cause = record { number = cause.0; code = cause.1; scenario = plan_at plans cause.0 }

-- What is reported of a cause is true for these plans under a seed: the plan of its number has its scenario, fails with its code, and doesn't fail so
-- if any one of its faults is left out. The number is also the stream number.
pub record IsCauseAmong (t : Subject) (seed : ℕ) (plans : List (List Rig)) (cause : CauseFacts) : Type 0 where
  pub among : cause.number < length plans
  pub scenario : cause.scenario ≡ scenario_of t (slice_index_or plans cause.number [])
  pub least : IsCause t seed cause.number cause.code (slice_index_or plans cause.number [])

-- How plans grew under a seed, if there is a depth. The list of plans begins with those that grew. All hits are known, so `unseen` is 0.
abbrev pub growth_of : Subject → ℕ → List Entries → Option ℕ → Option GrowthFacts
growth_of t seed plans None = None
growth_of t seed plans (Some depth) = Some (record {
  depth = depth;
  levels = level_sizes t (depth + 1);
  onward = length (onward t depth);
  beyond = beyond t depth;
  unseen = 0;
  reached = reached_each t depth;
  causes = map (cause_of plans) (over (cause_at t seed) (grown t depth) 0 (length (grown t depth)));
})

-- The report, given a label, a seed, a census, the plans, and how they grew. It has the first failure for each code with which a plan fails. `unmet`
-- is 0, since it is counted only for recorded runs.
abbrev pub report_of : (ℕ → Entries → Verdict) → List ℕ → ℕ → List ℕ → List Entries → Option GrowthFacts → ReportFacts
report_of say label seed census plans growth = record {
  label = label;
  seed = seed;
  clean = slice_index_or (verdicts_from say 0 plans) 0 verdict.Unresolved;
  census = census;
  verdicts = verdicts_from say 0 plans;
  unmet = 0;
  findings = map (finding say plans) (first_failures (numbered (verdicts_from say 0 plans)));
  growth = growth;
}

-- A scenario fails with this code, and no single fault can be left out of it: it fails with all
-- its faults, and if any one of them is left out, it doesn't.
abbrev pub IsMinimal : (Entries → Verdict) → ℕ → Entries → Type 0
IsMinimal say code s =
    (fails_with code (say s) ≡ true)
    × IsOneMinimal (fault_test say code s) (range_with_len 0 (all_faults s))

-- The same for a reported failure: its reduced scenario fails with its code, with its number as the
-- stream number, and no single fault can be left out of it.
abbrev pub ReducesToMinimal : (ℕ → Entries → Verdict) → FindingFacts → Type 0
ReducesToMinimal say found = IsMinimal (say found.number) found.code found.reduced

-- The plan of this number fails with this code, with its number as the stream number.
abbrev pub IsFailure : (ℕ → Entries → Verdict) → List Entries → ℕ × ℕ → Type 0
IsFailure say plans failure = (failure.0 < length plans) × (say failure.0 (plan_at plans failure.0) ≡ verdict.Fail failure.1)
