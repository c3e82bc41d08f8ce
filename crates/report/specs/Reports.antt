-- The facts in a report.
use Rattle.std.specs.Prelude.{ℕ, List, Option}
use Rattle.scenario_values.specs.Scenario.{Entries}
use Rattle.target_trait.specs.declared.judgement.Verdict.{Verdict}

-- The first failure of a code: the plan's number, the code, the plan's scenario, the reduced scenario, and how many tests the reduction took.
pub record FindingFacts : Type 0 where
  pub number : ℕ
  pub code : ℕ
  pub scenario : Entries
  pub reduced : Entries
  pub tests : ℕ

-- A cause: the number of a plan that grew, the code that it fails with, though not if any one of its faults is left out, and its scenario.
pub record CauseFacts : Type 0 where
  pub number : ℕ
  pub code : ℕ
  pub scenario : Entries

-- How a campaign grew: its depth; how many plans each level has, from level 0 on; how many plans have a sticky last fault; how many plans the level
-- after the last one has; how many plans were run with hits that nobody knows; the most hits of each point of the catalogue that a run has; and the
-- causes, in the order of their numbers.
pub record GrowthFacts : Type 0 where
  pub depth : ℕ
  pub levels : List ℕ
  pub onward : ℕ
  pub beyond : ℕ
  pub unseen : ℕ
  pub reached : List ℕ
  pub causes : List CauseFacts

-- The target's label; the seed; the verdict of the run without faults, and how often it asks each point of the catalogue; the verdict of each plan,
-- in the order of the plans; how many plans pass with recorded hits in which one of their faults never acted; the first failure of each code; and how
-- the campaign grew, if it has a depth.
pub record ReportFacts : Type 0 where
  pub label : List ℕ
  pub seed : ℕ
  pub clean : Verdict
  pub census : List ℕ
  pub verdicts : List Verdict
  pub unmet : ℕ
  pub findings : List FindingFacts
  pub growth : Option GrowthFacts
