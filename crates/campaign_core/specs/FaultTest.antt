-- The test of a set of faults of a scenario, as used by a reduction.
use Rattle.std.specs.Prelude.{ℕ, Bool, ◌&&◌, List}
use Rattle.scenario_values.specs.Scenario.{Entries, all_faults}
use Rattle.scenario_values.specs.Keep.{are_faults, kept}
use Rattle.target_trait.specs.declared.judgement.Verdict.{Verdict}
pub use Rattle.grown_runs.specs.GrownRuns.{fails_with}

-- Whether the scenario with only the faults of this set fails with this code. The answer is no for a list that isn't made of faults of the scenario
-- in ascending order. The first argument gives the verdict of each scenario.
abbrev pub fault_test : (Entries → Verdict) → ℕ → Entries → List ℕ → Bool
fault_test say code s set = are_faults (all_faults s) set && fails_with code (say (kept set s))
