-- What recorded runs promise of every subject that agrees with them.
use Rattle.std.specs.Prelude.{◌≡◌, ◌≢◌, ℕ, ◌+◌, ◌≤◌, length, List, [], Some, map, Contains}
use Rattle.std.specs.List.{AllByRecursion, filter}
use Rattle.action_eval.specs.declared.rig.Rig.{Rig}
use Rattle.action_eval.specs.Answers.{given_of}
use Rattle.action_eval.specs.RiggedScenario.{rigged_scenario}
use Rattle.plan_gen.specs.RiggedAnswers.{AreInOrder}
use Rattle.grown_plans.specs.Runs.{run}
use Rattle.grown_plans.specs.GrownPlans.{Subject, run_of_plan, grown, level, onward}
use Rattle.grown_plans.specs.Promises.{EachTwo, verdict_of_rigs, verdict_of_plan}
use Rattle.grown_runs.specs.known.Known.{KnownRuns}
use Rattle.grown_runs.specs.known.KnownPart.{is_reached_onward, known_part, to_run}
use Rattle.grown_runs.specs.known.KnownPlans.{level_size}
use Rattle.grown_runs.specs.known.Unseen.{unseen}
use Rattle.grown_runs.specs.known.SeenPromises.{KeepsPromisesAsSeen}
use Rattle.grown_runs.specs.known.Walks.{once, walk}

-- Rigged hits have the run and the verdict of a plan, under every seed and stream number.
pub record IsRunOf (t : Subject) (rigs plan : List Rig) : Type 0 where
  pub runs : (seed stream : ℕ) → run t.asks (given_of (rigged_scenario t.names rigs) t.names seed stream t.limit) ≡ run_of_plan t plan
  pub verdicts : (seed stream : ℕ) → verdict_of_rigs t seed stream rigs ≡ verdict_of_plan t seed stream plan

-- A walk is right: if it ends in a plan, that plan is in the list and has the run of the rigged hits. They have to be in order, and what each does
-- once has to be of a kind that is tried at its point.
abbrev pub WalksRight : Subject → ℕ → KnownRuns → Type 0
WalksRight t d known =
    (rigs plan : List Rig) → AreInOrder (map (λ r. r.site) rigs) → AllByRecursion (λ r. Contains (t.kinds r.site.point) (once r.kind)) rigs
    → walk known rigs d ≡ Some plan → Contains (grown t d) plan × IsRunOf t rigs plan

-- The known part is the whole list: all of it, of each of its levels, and of the level after the last.
pub record IsWholeList (t : Subject) (d : ℕ) (known : KnownRuns) : Type 0 where
  pub list : known_part t d known ≡ grown t d
  pub levels : (n : ℕ) → n ≤ d + 1 → level_size t known n ≡ length (level t n)
  pub onward_size : length (filter (is_reached_onward known) (onward t d)) ≡ length (onward t d)

-- The known part is the whole list if none of it is left to be run and the hits of each run are recorded.
abbrev pub EndsWhole : Subject → ℕ → KnownRuns → Type 0
EndsWhole t d known = to_run t d known ≡ [] → unseen t d known ≡ [] → IsWholeList t d known

-- If nothing is left to be run, the known part keeps all promises, except for runs that begin like one without recorded hits.
abbrev pub EndsAsSeen : Subject → ℕ → KnownRuns → Type 0
EndsAsSeen t d known = to_run t d known ≡ [] → KeepsPromisesAsSeen t d known

-- No plan is to be run twice.
abbrev pub RunsEachOnce : Subject → ℕ → KnownRuns → Type 0
RunsEachOnce t d known = EachTwo (λ a b. a ≢ b) (to_run t d known)
