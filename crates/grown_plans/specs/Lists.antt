-- Lists that grow level by level, by any rule of growth: levels 0 to the last one, followed by
-- plans of the last level with their last fault made sticky.
use Rattle.std.specs.Prelude.{◌≡◌, ℕ, suc, ◌+◌, List, ◌++◌, map, length}
use Rattle.std.specs.List.{range_with_len}
use Rattle.action_eval.specs.declared.rig.Rig.{Rig}
use Rattle.grown_plans.specs.GrownPlans.{levels_to}
use Rattle.grown_plans.specs.Kept.{Grew, plan_of}
use Rattle.grown_plans.specs.declared.grown_list.GrownLevels.{GrownLevels}
use Rattle.grown_plans.specs.declared.grown_list.GrownList.{GrownList}

-- How many plans each of the first `count` levels has.
abbrev pub sizes_of : (ℕ → List (List Rig)) → ℕ → List ℕ
sizes_of level count = map (λ n. length (level n)) (range_with_len 0 count)

-- These are levels 0 to n, with the number at which level n begins.
pub record AreLevels (level : ℕ → List (List Rig)) (n : ℕ) (l : GrownLevels) : Type 0 where
  pub are : l.plans ≡ levels_to level n
  pub begins : l.last + length (level n) ≡ length l.plans
  pub sizes : l.sizes.items ≡ sizes_of level (n + 1)

-- What grew from the last level is the next level.
abbrev pub AreNext : (ℕ → List (List Rig)) → ℕ → GrownLevels → List Grew → Type 0
AreNext level n l children = map (plan_of l.plans) children ≡ level (suc n)

-- A whole list to a depth, including the plans after its last level, and how many plans the next level has.
pub record IsGrownList (level : ℕ → List (List Rig)) (behind : List (List Rig)) (depth beyond : ℕ) (g : GrownList) : Type 0 where
  pub plans : g.plans ≡ levels_to level depth ++ behind
  pub levels : g.levels.items ≡ sizes_of level (depth + 1)
  pub onward : g.onward ≡ length behind
  pub beyond_is : g.beyond ≡ beyond
