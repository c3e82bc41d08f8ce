-- What the known part of a list promises once none of it is left to be run: the same as the whole list, except for runs that begin like one that is
-- recorded without its hits.
use Rattle.std.specs.Prelude.{◌≡◌, ◌≢◌, ℕ, ◌+◌, ◌≤◌, ◌<◌, ◌⊎◌, List, ◌∷◌, ◌++◌, Option, Contains}
use Rattle.std.specs.List.{AllByRecursion}
use Rattle.action_eval.specs.Answers.{Return}
use Rattle.action_eval.specs.declared.rig.Rig.{Rig}
use Rattle.target_trait.specs.declared.judgement.Verdict.TheVariants.{Fail}
use Rattle.grown_plans.specs.Runs.{Met, acting}
use Rattle.grown_plans.specs.GrownPlans.{Subject, run_of_plan}
use Rattle.grown_plans.specs.Promises.{EachTwo, FaultCase, IsCause, IsOfOne, IsTried, ReturnsOnward, run_in, verdict_in, verdict_of_plan}
use Rattle.grown_runs.specs.known.Known.{KnownRuns}
use Rattle.grown_runs.specs.known.KnownPart.{known_levels, known_part}
use Rattle.grown_runs.specs.known.KnownPlans.{level_size}
use Rattle.grown_runs.specs.known.Unseen.{BeginsUnseen}

-- Exactly one of these plans has the hits, the answers and the verdict of a case, or the case's run begins like one that nobody has seen.
abbrev pub IsTriedAsSeen : (t : Subject) → ℕ → KnownRuns → List (List Rig) → FaultCase t → Type 0
IsTriedAsSeen t d known plans c = IsOfOne (IsTried t c) plans ⊎ BeginsUnseen t d known (run_in t c)

pub record KeepsPromisesAsSeen (t : Subject) (d : ℕ) (known : KnownRuns) : Type 0 where
  -- Nothing is skipped.
  pub nothing_skipped : (c : FaultCase t) → acting (run_in t c) ≤ d → IsTriedAsSeen t d known (known_levels t d known) c
  -- Nothing is run twice.
  pub nothing_twice : EachTwo (λ a b. run_of_plan t a ≢ run_of_plan t b) (known_part t d known)
  -- A sticky fault is tried after fewer than d acting faults: a return at a hit and at each later hit of its point.
  pub onward : (c : FaultCase t) (before after : List Met) (m : Met) (text : Option (List ℕ)) → run_in t c ≡ before ++ m ∷ after
      → m.reply ≡ Return text → acting before < d → ReturnsOnward text m.site.point after → IsTriedAsSeen t d known (known_part t d known) c
  -- Findings are least: if no plan of the known levels fails with a code, no case with at most d acting faults does, unless its run begins unseen.
  pub least : (seed stream code : ℕ) → AllByRecursion (λ plan. verdict_of_plan t seed stream plan ≢ Fail code) (known_levels t d known)
      → (c : FaultCase t) → acting (run_in t c) ≤ d → (verdict_in t c ≢ Fail code) ⊎ BeginsUnseen t d known (run_in t c)
  -- The levels are all there is if no plan of the next level is known: then no case is skipped, however many faults it has.
  pub whole : level_size t known (d + 1) ≡ 0 → (c : FaultCase t) → IsTriedAsSeen t d known (known_levels t d known) c
  -- Each failure has a cause, the faults of which are among the plan's own.
  pub causes : (seed number code : ℕ) (plan : List Rig) → Contains (known_levels t d known) plan → verdict_of_plan t seed number plan ≡ Fail code
      → (cause : List Rig) × AllByRecursion (Contains plan) cause × ((stream : ℕ) → IsCause t seed stream code cause)
      × (Contains (known_levels t d known) cause ⊎ BeginsUnseen t d known (run_of_plan t cause))
