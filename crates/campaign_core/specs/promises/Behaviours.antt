-- What a component does under faults, by its hits and their answers alone: scenarios, seeds and plan numbers play no part here. A component is given
-- by what it asks after the answers to its earlier hits, by the names of its points, by the most hits of a run, and by the kinds of faults that are
-- tried at each point.
use Rattle.std.specs.Prelude.{◌≡◌, ◌≢◌, ℕ, ◌≤◌, ◌==◌, if◌then◌else◌, List, [], ◌∷◌, ◌++◌, Contains, map, length, filter, find, count_by}
use Rattle.std.specs.List.{AllByRecursion}
use Rattle.std.specs.Option.{option_map_or}
use Rattle.action_eval.specs.declared.rig.Site.{Site}
use Rattle.action_eval.specs.Answers.{Reply, Go}
use Rattle.target_trait.specs.Play.{Move, Ask, Done, Unknown}
use Rattle.target_trait.specs.Outcomes.{judged}
use Rattle.target_trait.specs.declared.judgement.Verdict.{Verdict}
use Rattle.grown_plans.specs.Runs.{Met, site_after, is_fault, acting}
use Rattle.grown_plans.specs.GrownPlans.{Subject, is_at}
use Rattle.grown_plans.specs.Promises.{EachTwo, IsOfKinds}

-- The answers of hits, in order.
abbrev pub answers : List Met → List Reply
answers hits = map (λ hit. hit.reply) hits

-- These hits follow the ones before: each is of the point that the component asks for next, and its number counts the hits of that point from 1.
abbrev pub Follows : (List Reply → Move) → List Met → List Met → Type 0
Follows asks before [] = Unit {0}
Follows asks before (hit ∷ rest) =
    (asks (answers before) ≡ Ask hit.site.point) × (hit.site ≡ site_after before hit.site.point) × Follows asks (before ++ hit ∷ []) rest

-- No further hit comes after this many: the component is at its end, or it asks for a point and the limit is reached.
abbrev pub IsOverAt : ℕ → ℕ → Move → Type 0
IsOverAt limit hits (Ask point) = hits ≡ limit
IsOverAt limit hits (Done judgement) = hits ≤ limit
IsOverAt limit hits Unknown = hits ≤ limit

-- A behaviour: hits with their answers, from the first one to the last.
pub record IsBehaviour (t : Subject) (hits : List Met) : Type 0 where
  pub follows : Follows t.asks [] hits
  pub ends : IsOverAt t.limit (length hits) (t.asks (answers hits))

-- The verdict at the end of a behaviour: how it is judged there, or unresolved if the limit is reached or the end is unknown.
abbrev pub verdict_at_end : Subject → List Met → Verdict
verdict_at_end t hits = judged (t.asks (answers hits))

-- A behaviour in which each fault that acts is of a kind that is tried at its point.
pub record IsBehaviourOfKinds (t : Subject) (hits : List Met) : Type 0 where
  pub behaves : IsBehaviour t hits
  pub of_kinds : IsOfKinds t.kinds hits

-- The same, with exactly n faults that act in it.
abbrev pub HasActing : Subject → ℕ → List Met → Type 0
HasActing t n hits = IsBehaviourOfKinds t hits × (acting hits ≡ n)

-- There are exactly n lists of hits with this property: a list has all of them, each once.
pub record AreSoMany (n : ℕ) (P : List Met → Type 0) : Type 0 where
  pub each : List (List Met)
  pub many : length each ≡ n
  pub are : AllByRecursion P each
  pub once : EachTwo (λ hits others. hits ≢ others) each
  pub no_other : (hits : List Met) → P hits → Contains each hits

-- The hits at which a fault acts.
abbrev pub faults : List Met → List Met
faults hits = filter (λ hit. is_fault hit.reply) hits

-- How often a point is hit.
abbrev pub times_hit : ℕ → List Met → ℕ
times_hit point hits = count_by (λ hit. hit.site.point == point) hits

-- How a hit is answered by these faults: at the site of a fault as it says, and anywhere else to go on.
abbrev pub answer_by : List Met → Site → Reply
answer_by those site = option_map_or (λ fault. fault.reply) (find (is_at site) those) Go

-- Each hit is answered as by these faults without one of them.
abbrev pub AnsweredWithout : Met → List Met → List Met → Type 0
AnsweredWithout left those hits = AllByRecursion (λ hit. hit.reply ≡ (if is_at hit.site left then Go else answer_by those hit.site)) hits
