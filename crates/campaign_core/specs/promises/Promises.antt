-- What a report of a campaign with a depth promises about its component, by the facts that it prints and the behaviours of its plans: that what it
-- tells is so, that nothing is left out, and what follows for a component of which every run was seen.
use Rattle.std.specs.Prelude.{◌≡◌, ◌≢◌, ℕ, suc, ◌≤◌, ◌<◌, ◌⊎◌, Option, Some, List, ◌∷◌, ◌++◌, All, AllPairs, Contains, length, map, slice_get}
use Rattle.std.specs.List.{AllByRecursion, range_with_len}
use Rattle.action_eval.specs.Answers.{Return}
use Rattle.target_trait.specs.declared.judgement.Verdict.TheVariants.{Fail}
use Rattle.grown_plans.specs.Runs.{Met, acting}
use Rattle.grown_plans.specs.GrownPlans.{Subject, most}
use Rattle.grown_plans.specs.Promises.{EachTwo, ReturnsOnward}
use Rattle.report.specs.Reports.{FindingFacts, CauseFacts}
use Rattle.campaign_core.specs.promises.Behaviours.{IsBehaviour, IsBehaviourOfKinds, verdict_at_end, faults, times_hit, AnsweredWithout, AreSoMany, HasActing}
use Rattle.campaign_core.specs.promises.Told.{Told, count_of_levels, count_of_all, level_at, HasBehaviour, HasVerdict, IsToldOnce}

-- ---- what is told is so

-- A finding has the lowest number that fails with its code.
pub record IsFirst (told : Told) (f : FindingFacts) : Type 0 where
  pub fails : HasVerdict told f.number (Fail f.code)
  pub least : (other : ℕ) → other < f.number → HasVerdict told other (Fail f.code) → ⊥

-- A cause fails with its code. If its number is of a level, it doesn't if any one of its faults is left out: no behaviour whose hits are answered by its
-- other faults fails with the code.
pub record IsCause (t : Subject) (told : Told) (c : CauseFacts) : Type 0 where
  pub told_of : c.number < count_of_all told
  pub fails : HasVerdict told c.number (Fail c.code)
  pub least : c.number < count_of_levels told → (found hits : List Met) (left : Met) → HasBehaviour told c.number found → Contains (faults found) left
      → IsBehaviour t hits → AnsweredWithout left (faults found) hits → verdict_at_end t hits ≢ Fail c.code

-- Fewer than d faults act, and then a hit returns, with or without a text, and so does each later hit of its point; no other fault acts later.
abbrev pub IsSticky : ℕ → List Met → Type 0
IsSticky d hits =
    (before : List Met) × (hit : Met) × (after : List Met) × (text : Option (List ℕ)) × (hits ≡ before ++ hit ∷ after)
    × (acting before < d) × (hit.reply ≡ Return text) × ReturnsOnward text hit.site.point after

-- Of a report to depth d.
pub record Sound (t : Subject) (d : ℕ) (told : Told) : Type 0 where
  -- Each number has a behaviour. It is one of the component's, each fault in it is of a kind that is tried at its point, and the number's verdict is
  -- the one at the behaviour's end. No two numbers have the same one.
  pub behaves : AllByRecursion (IsBehaviourOfKinds t) told.behaviours
  pub judged : (number : ℕ) (hits : List Met) → HasBehaviour told number hits → HasVerdict told number (verdict_at_end t hits)
  pub all_told : length told.behaviours ≡ count_of_all told
  pub nothing_twice : EachTwo (λ hits others. hits ≢ others) told.behaviours
  -- The depth is told, and so are levels 0 to d and no more. Number 0 is the run without faults, and its verdict is told by itself too.
  pub grew : told.report.growth ≡ Some told.growth
  pub depth : told.growth.depth ≡ d
  pub levels : length told.growth.levels ≡ suc d
  pub clean : (hits : List Met) × HasBehaviour told 0 hits × (acting hits ≡ 0) × HasVerdict told 0 told.report.clean
  -- In the behaviour of a number of level n exactly n faults act.
  pub by_level : (number : ℕ) (hits : List Met) → number < count_of_levels told → HasBehaviour told number hits
      → acting hits ≡ level_at told.growth.levels number
  -- A number behind the levels has a sticky fault.
  pub sticky : (number : ℕ) (hits : List Met) → count_of_levels told ≤ number → HasBehaviour told number hits → IsSticky d hits
  -- How often a point is reached is told of each point. If it is reached at all, one of the behaviours hits it so often.
  pub points : length told.growth.reached ≡ length t.names
  pub reached : (point times : ℕ) → slice_get told.growth.reached point ≡ Some times → 0 < times
      → (hits : List Met) × Contains told.behaviours hits × (times_hit point hits ≡ times)
  -- Each finding and each cause that is listed is one. Findings are in the order of their numbers, and no two have the same code.
  pub findings : All (IsFirst told) told.report.findings
  pub in_order : AllPairs (λ f g. (f.number < g.number) × (f.code ≢ g.code)) told.report.findings
  pub causes : All (IsCause t told) told.growth.causes
  -- No plan is said to have a fault that never acted.
  pub met : told.report.unmet ≡ 0

-- ---- nothing is left out

-- Some runs may be recorded without their hits. `IsUnseen` says which hits begin like one of these; if there are none, it holds of nothing.

-- Exactly one number below a bound has the behaviour, with its verdict, or the behaviour begins like a run that nobody has seen.
abbrev pub IsToldOrUnseen : Subject → Told → (List Met → Type 0) → ℕ → List Met → Type 0
IsToldOrUnseen t told IsUnseen bound hits = IsToldOnce told bound hits (verdict_at_end t hits) ⊎ IsUnseen hits

-- A behaviour that fails with a code has a listed cause: one with the same code, whose faults are among the behaviour's own.
pub record HasCause (told : Told) (code : ℕ) (failing : List Met) : Type 0 where
  pub cause : CauseFacts
  pub listed : Contains told.growth.causes cause
  pub code_is : cause.code ≡ code
  pub among : (found : List Met) → HasBehaviour told cause.number found → AllByRecursion (Contains (faults failing)) (faults found)

-- A behaviour fails with a code, has some of these hits' faults and no others, and begins like a run that nobody has seen.
pub record HasUnseenCause (t : Subject) (IsUnseen : List Met → Type 0) (code : ℕ) (failing : List Met) : Type 0 where
  pub hits : List Met
  pub behaves : IsBehaviourOfKinds t hits
  pub fails : verdict_at_end t hits ≡ Fail code
  pub among : AllByRecursion (Contains (faults failing)) (faults hits)
  pub unseen : IsUnseen hits

pub record Complete (t : Subject) (d : ℕ) (told : Told) (IsUnseen : List Met → Type 0) : Type 0 where
  -- Each behaviour in which at most d faults act is that of exactly one number of the levels, with its verdict.
  pub nothing_skipped : (hits : List Met) → IsBehaviourOfKinds t hits → acting hits ≤ d
      → IsToldOrUnseen t told IsUnseen (count_of_levels told) hits
  -- Each behaviour with a sticky fault is that of exactly one number, with its verdict.
  pub from_then_on : (hits : List Met) → IsBehaviourOfKinds t hits → IsSticky d hits → IsToldOrUnseen t told IsUnseen (count_of_all told) hits
  -- If the report says that no plan lies beyond, no behaviour is skipped, however many faults act in it.
  pub whole : told.growth.beyond ≡ 0 → (hits : List Met) → IsBehaviourOfKinds t hits → IsToldOrUnseen t told IsUnseen (count_of_levels told) hits
  -- Each code with which a number fails has a finding. Each number of a level that fails has a listed cause, or one that nobody has seen.
  pub found : (number code : ℕ) → HasVerdict told number (Fail code) → (f : FindingFacts) × Contains told.report.findings f × (f.code ≡ code)
  pub caused : (number code : ℕ) (hits : List Met) → number < count_of_levels told → HasBehaviour told number hits → HasVerdict told number (Fail code)
      → HasCause told code hits ⊎ HasUnseenCause t IsUnseen code hits
  -- `census` tells how often the run without faults hits each point. If the report says that no run is unseen, none is.
  pub census : (hits : List Met) → HasBehaviour told 0 hits
      → (told.report.census ≡ map (λ point. times_hit point hits) (range_with_len 0 (length t.names))) ⊎ IsUnseen hits
  pub none_unseen : told.growth.unseen ≡ 0 → (hits : List Met) → IsUnseen hits → ⊥

-- What a report to depth d promises of a component of which some runs may be unseen.
pub record PromisesAsSeen (t : Subject) (d : ℕ) (told : Told) (IsUnseen : List Met → Type 0) : Type 0 where
  pub sound : Sound t d told
  pub complete : Complete t d told IsUnseen

-- ---- a component of which every run was seen

abbrev pub nothing_unseen : List Met → Type 0
nothing_unseen hits = ⊥

-- If the number of a finding is of a level, no behaviour in which fewer faults act fails with the code, and the reduction keeps each fault.
pub record HasFewest (t : Subject) (told : Told) (f : FindingFacts) : Type 0 where
  pub fewest : f.number < count_of_levels told → (found hits : List Met) → HasBehaviour told f.number found → IsBehaviourOfKinds t hits
      → acting hits < acting found → verdict_at_end t hits ≢ Fail f.code
  pub keeps_each : f.number < count_of_levels told → f.reduced ≡ f.scenario

pub record Promises (t : Subject) (d : ℕ) (told : Told) : Type 0 where
  pub seen : PromisesAsSeen t d told nothing_unseen
  -- Level n has as many plans as there are behaviours in which exactly n faults act, and `beyond` is how many behaviours have d + 1.
  pub sizes : (n size : ℕ) → slice_get told.growth.levels n ≡ Some size → AreSoMany size (HasActing t n)
  pub beyond : AreSoMany told.growth.beyond (HasActing t (suc d))
  pub none_unseen : told.growth.unseen ≡ 0
  pub fewest : All (HasFewest t told) told.report.findings
  -- The number after `reached` is the most hits of a point that one of the behaviours has.
  pub most : (point : ℕ) → point < length t.names → slice_get told.growth.reached point ≡ Some (most (map (times_hit point) told.behaviours))
