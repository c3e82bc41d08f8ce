use Rattle.std.proofs.Common.{◌≡◌, ◌≤◌, length, map}
use Rattle.std.specs.Prelude.{option_map}
use Rattle.grown_plans.specs.GrownPlans.{kinds_at}
use Rattle.grown_plans.specs.Lists.{AreLevels}
use Rattle.grown_runs.specs.known.ToldPart.{level_known}
use Rattle.grown_runs.proofs.known.growing.grow_levels.Given as goal

abbrev pub invariant-loop : goal.invariant-loop
invariant-loop g l = record {
  are : AreLevels (level_known (kinds_at l.kinds) (g.T.RunTable.known l.table)) l.counter l.levels;
  few : length l.levels.plans ≤ l.most;
  found : map (option_map (λ run. g.T.RunTable.tells run.now)) l.runs.items ≡ map (g.T.RunTable.known l.table) l.levels.plans;
  kept : map (option_map (λ run. run.now)) l.runs.items ≡ map (g.T.RunTable.keeps l.table) l.levels.plans;
}
