-- Plans that grew to a depth, and what their runs came to.
use Rattle.std.specs.Prelude.{◌≡◌, ℕ, zero, suc, ◌+◌, nat_le, if◌then◌else◌, List, map, length}
use Rattle.std.specs.List.{range_with_len}
use Rattle.action_eval.specs.declared.rig.Rig.{Rig}
use Rattle.grown_plans.specs.GrownPlans.{Subject, level, levels, onward, grown, beyond, reached}
use Rattle.target_trait.specs.declared.target.Target.{Ghosts}
use Rattle.grown_plans.specs.Lists.{sizes_of}
use Rattle.grown_runs.specs.declared.parts.Conditions.{Conditions}
use Rattle.grown_runs.specs.declared.levels.Grown.{Grown}
use Rattle.grown_runs.specs.GrownRuns.{subject_of, over, verdict_at, cause_at}

-- The subject on which plans are run, from what a caller gives.
abbrev pub subject_in : {T W G R : Type 0} → Ghosts T W → Conditions T G R W → Subject
subject_in target on = subject_of target on.target.now on.workload.now on.limits.max_hits

-- How many plans each of the first `count` levels has.
abbrev pub level_sizes : Subject → ℕ → List ℕ
level_sizes t count = sizes_of (level t) count

-- The most hits of each point that a run of a plan to a depth has.
abbrev pub reached_each : Subject → ℕ → List ℕ
reached_each t d = map (reached t d) (range_with_len 0 (length t.names))

-- The plans to a depth, and all that their runs came to.
pub record HasGrown (t : Subject) (seed d : ℕ) (g : Grown) : Type 0 where
  pub plans : g.list.plans ≡ grown t d
  pub levels : g.list.levels.items ≡ level_sizes t (d + 1)
  pub onward : g.list.onward ≡ length (onward t d)
  pub beyond : g.list.beyond ≡ beyond t d
  pub verdicts : g.outcomes.verdicts.items ≡ over (verdict_at t seed) (grown t d) 0 (length (grown t d))
  pub causes : g.outcomes.causes.items ≡ over (cause_at t seed) (grown t d) 0 (length (grown t d))
  pub reached : g.outcomes.hits.items ≡ reached_each t d

-- The plans with which a list begins: levels 0 to n if these have at least `count` plans, else levels 0 to n + 1, and so on for up to k more levels.
-- If the last of these still have fewer, it is all plans that grow.
unfoldable pub begun_from : Subject → ℕ → ℕ → ℕ → List (List Rig)
begun_from t count n zero = if nat_le count (length (levels t n)) then levels t n else grown t n
begun_from t count n (suc k) = if nat_le count (length (levels t n)) then levels t n else begun_from t count (suc n) k

-- The first levels of the list to a depth that have at least `count` plans, or else the whole list.
abbrev pub begun : Subject → ℕ → ℕ → List (List Rig)
begun t d count = begun_from t count 0 d
