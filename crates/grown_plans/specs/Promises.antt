-- What a campaign of grown plans promises.
use Rattle.std.specs.Prelude.{◌≡◌, ◌≢◌, ℕ, suc, ◌≤◌, ◌<◌, ◌==◌, ◌⊎◌, if◌then◌else◌, Option, List, [], ◌∷◌, ◌++◌, map, length, false, Contains}
use Rattle.std.specs.List.{AllByRecursion}
use Rattle.scenario_values.specs.Scenario.{Entries}
use Rattle.action_eval.specs.Answers.{Reply, Go, Return, given_of}
use Rattle.action_eval.specs.Catalogue.{IsCatalogue}
use Rattle.action_eval.specs.RiggedScenario.{rigged_scenario, HasLawfulText}
use Rattle.action_eval.specs.declared.rig.Rig.{Rig}
use Rattle.action_eval.specs.declared.rig.Kind.{Kind}
use Rattle.target_trait.specs.Play.{AsksWithin}
use Rattle.target_trait.specs.Outcomes.{verdict_with}
use Rattle.target_trait.specs.declared.judgement.Verdict.{Verdict}
use Rattle.target_trait.specs.declared.judgement.Verdict.TheVariants.{Fail}
use Rattle.plan_gen.specs.RiggedAnswers.{is_onward, reply_by, AreInOrder}
use Rattle.grown_plans.specs.Runs.{Met, met, run, IsUnpaused, acting}
use Rattle.grown_plans.specs.GrownPlans.{Subject, scenario_of, rigs_of, given_for, run_of_plan, level, levels, grown}

-- ---- words

-- The relation holds for every two members, the earlier one first.
abbrev pub EachTwo : {A : Type 0} → (A → A → Type 0) → List A → Type 0
EachTwo R [] = Unit {0}
EachTwo R (x ∷ xs) = AllByRecursion (R x) xs × EachTwo R xs

-- Exactly one member of a list has this property.
pub record IsOfOne {A : Type 0} (P : A → Type 0) (xs : List A) : Type 0 where
  pub before : List A
  pub one : A
  pub after : List A
  pub split : xs ≡ before ++ one ∷ after
  pub is : P one
  pub no_other : AllByRecursion (λ x. P x → ⊥) (before ++ after)

-- The subject has a lawful catalogue and asks only points of it, and the kinds of faults for a point aren't sticky, are distinct, and have texts that
-- may stand in a scenario. That no question follows a halt isn't needed: a question after a halt has children like any other.
pub record IsLawful (t : Subject) : Type 0 where
  pub catalogue : IsCatalogue t.names
  pub within : (answers : List Reply) → AsksWithin (length t.names) (t.asks answers)
  pub once : (point : ℕ) → AllByRecursion (λ kind. is_onward kind ≡ false) (t.kinds point)
  pub apart : (point : ℕ) → EachTwo (λ a b. a ≢ b) (t.kinds point)
  pub texts : (point : ℕ) → AllByRecursion HasLawfulText (t.kinds point)

-- The same for a list of kinds.
pub record CanBeTried (kinds : List Kind) : Type 0 where
  pub once : AllByRecursion (λ kind. is_onward kind ≡ false) kinds
  pub apart : EachTwo (λ a b. a ≢ b) kinds
  pub texts : AllByRecursion HasLawfulText kinds

-- Each fault that acts in a run is of a kind that is tried at its point. The usual kinds have a return without a text only: a return with a text is a
-- kind by itself, which is tried if it is listed.
abbrev pub IsOfKinds : (ℕ → List Kind) → List Met → Type 0
IsOfKinds kinds ms = AllByRecursion (λ m. (m.reply ≡ Go) ⊎ ((kind : Kind) × Contains (kinds m.site.point) kind × (m.reply ≡ reply_by kind))) ms

-- A scenario with its run, whatever its shares, counts and random words are, if no pause stopped it and each fault that acts is of a kind that is
-- tried. All promises speak of such cases.
pub record FaultCase (t : Subject) : Type 0 where
  pub scenario : Entries
  pub seed : ℕ
  pub stream : ℕ
  pub unpaused : IsUnpaused t.asks (given_of scenario t.names seed stream t.limit)
  pub of_kinds : IsOfKinds t.kinds (run t.asks (given_of scenario t.names seed stream t.limit))

abbrev pub run_in : (t : Subject) → FaultCase t → List Met
run_in t c = run t.asks (given_of c.scenario t.names c.seed c.stream t.limit)

abbrev pub verdict_in : (t : Subject) → FaultCase t → Verdict
verdict_in t c = verdict_with t.asks t.names c.seed t.limit c.stream c.scenario

-- The verdict of rigged hits, and of a plan, under a seed and a stream number.
abbrev pub verdict_of_rigs : Subject → ℕ → ℕ → List Rig → Verdict
verdict_of_rigs t seed stream rigs = verdict_with t.asks t.names seed t.limit stream (rigged_scenario t.names rigs)

abbrev pub verdict_of_plan : Subject → ℕ → ℕ → List Rig → Verdict
verdict_of_plan t seed stream plan = verdict_with t.asks t.names seed t.limit stream (scenario_of t plan)

-- The plan's run has the same hits and answers as the case, and the plan has the verdict of the case under every seed and stream number.
abbrev pub IsTried : (t : Subject) → FaultCase t → List Rig → Type 0
IsTried t c plan = (run_of_plan t plan ≡ run_in t c) × ((seed stream : ℕ) → verdict_of_plan t seed stream plan ≡ verdict_in t c)

-- ---- the promises

-- A plan's run is the same under every seed and stream number.
abbrev pub NeedsNoSeed : Subject → List Rig → Type 0
NeedsNoSeed t plan = (seed stream : ℕ) → run t.asks (given_for t plan seed stream) ≡ run_of_plan t plan

-- Prefix: up to its last fault a plan's run is its parent's; at that hit the fault acts; and after it no fault acts.
abbrev pub KeepsPrefix : Subject → List Rig → Type 0
KeepsPrefix t [] = AllByRecursion (λ m. m.reply ≡ Go) (run_of_plan t [])
KeepsPrefix t (r ∷ parent) =
    (before past rest : List Met) × (run_of_plan t parent ≡ before ++ met r.site Go ∷ past)
    × (run_of_plan t (r ∷ parent) ≡ before ++ met r.site (reply_by r.kind) ∷ rest) × AllByRecursion (λ m. m.reply ≡ Go) rest

-- Nothing is skipped: for each case with at most d acting faults, exactly one plan of levels 0 to d has its hits, answers and verdict.
abbrev pub SkipsNothing : Subject → ℕ → Type 0
SkipsNothing t d = (c : FaultCase t) → acting (run_in t c) ≤ d → IsOfOne (IsTried t c) (levels t d)

-- Nothing is run twice.
abbrev pub RunsNothingTwice : Subject → ℕ → Type 0
RunsNothingTwice t d = EachTwo (λ a b. run_of_plan t a ≢ run_of_plan t b) (grown t d)

-- From a hit on, each hit of its point returns with this text (or without one), and every other hit goes on.
abbrev pub ReturnsOnward : Option (List ℕ) → ℕ → List Met → Type 0
ReturnsOnward text point ms = AllByRecursion (λ m. m.reply ≡ (if m.site.point == point then Return text else Go)) ms

-- Sticky faults: for each case in which fewer than d faults act and then a sticky return, exactly one grown plan has its hits, answers and verdict.
abbrev pub TriesOnward : Subject → ℕ → Type 0
TriesOnward t d =
    (c : FaultCase t) (before after : List Met) (m : Met) (text : Option (List ℕ)) → run_in t c ≡ before ++ m ∷ after → m.reply ≡ Return text
    → acting before < d → ReturnsOnward text m.site.point after → IsOfOne (IsTried t c) (grown t d)

-- Least: if no plan of levels 0 to d fails with a code, no case with at most d acting faults does, and no scenario of at most d rigged hits. So if
-- any faults are left out of a first failure of level d + 1, it no longer fails with its code.
abbrev pub IsLeast : Subject → ℕ → Type 0
IsLeast t d =
    (seed stream code : ℕ) → AllByRecursion (λ plan. verdict_of_plan t seed stream plan ≢ Fail code) (levels t d)
    → ((c : FaultCase t) → acting (run_in t c) ≤ d → verdict_in t c ≢ Fail code)
    × ((rigs : List Rig) → AreInOrder (map (λ r. r.site) rigs) → AllByRecursion (λ r. Contains (t.kinds r.site.point) r.kind) rigs
    → length rigs ≤ d → verdict_of_rigs t seed stream rigs ≢ Fail code)

-- Whole: if the next level is empty, nothing is skipped of any case.
abbrev pub IsWhole : Subject → ℕ → Type 0
IsWhole t d = level t (suc d) ≡ [] → (c : FaultCase t) → IsOfOne (IsTried t c) (levels t d)

-- The lists with one member left out.
abbrev pub lesser : List Rig → List (List Rig)
lesser [] = []
lesser (r ∷ rs) = rs ∷ map (λ less. r ∷ less) (lesser rs)

-- A cause fails with a code, and if any one of its faults is left out it doesn't, under the same seed and stream number.
abbrev pub IsCause : Subject → ℕ → ℕ → ℕ → List Rig → Type 0
IsCause t seed stream code plan =
    (verdict_of_plan t seed stream plan ≡ Fail code)
    × AllByRecursion (λ rigs. verdict_of_rigs t seed stream rigs ≢ Fail code) (lesser (rigs_of plan))

-- A cause for each failure: for each plan of levels 0 to d that fails with a code, one of these plans is a cause with this code whose faults are
-- among the plan's own. The stream numbers make no difference.
abbrev pub HasCauses : Subject → ℕ → Type 0
HasCauses t d =
    (seed number code : ℕ) (plan : List Rig) → Contains (levels t d) plan → verdict_of_plan t seed number plan ≡ Fail code
    → (cause : List Rig) × Contains (levels t d) cause × AllByRecursion (Contains plan) cause × ((stream : ℕ) → IsCause t seed stream code cause)
