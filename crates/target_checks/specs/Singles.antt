-- What a target is checked for first: that it keeps its promise in a run without faults, and under each single fault.
use Rattle.std.specs.Prelude.{ℕ, Bool, false, List, [], find, not, Option}
use Rattle.scenario_values.specs.Scenario.{Entries}
use Rattle.action_eval.specs.Answers.{Reply}
use Rattle.target_trait.specs.Verdicts.{is_pass}
use Rattle.target_trait.specs.Outcomes.{verdict_with}
use Rattle.target_trait.specs.Play.{Move}
use Rattle.plan_gen.specs.Census.{census_of}
use Rattle.plan_gen.specs.PlanList.{plan_list}

-- The seed and, below, the limit of these runs. Their stream number is 0.
abbrev pub seed : ℕ
seed = 7

abbrev pub limit : ℕ
limit = 1000

-- Whether the run of a scenario passes.
abbrev pub passes : (List Reply → Move) → List (List ℕ) → Entries → Bool
passes asks names s = is_pass (verdict_with asks names seed limit 0 s)

-- The scenario without faults, and each single fault at a hit of the run without faults.
abbrev pub single_faults : (List Reply → Move) → List (List ℕ) → List Entries
single_faults asks names =
    plan_list names (census_of asks names seed limit) (record { pairs = false; storms = 0; rate = 0; listed = []; seed = seed })

-- The first of these scenarios that doesn't pass.
abbrev pub first_failing : (List Reply → Move) → List (List ℕ) → List Entries → Option Entries
first_failing asks names scenarios = find (λ s. not (passes asks names s)) scenarios
