use Rattle.std.proofs.Common.{◌≡◌, ◌≢◌, ◌⊎◌, inl, inr, ℕ, suc, map, Option, Some, List, [], ◌∷◌, ◌++◌, ap, sym, ◌∙◌, refl, subst, arith}
use Rattle.std.specs.Prelude.{◌<◌, AllPairs, Contains, slice_get, sum}
use Rattle.std.specs.List.{range_with_len}
use Rattle.target_trait.specs.Play.{IsDone}
use Rattle.target_trait.specs.declared.judgement.Verdict.{Verdict}
use Rattle.target_trait.specs.declared.judgement.Verdict.TheVariants.{Fail, Pass}
use Rattle.grown_plans.specs.Runs.{Met, acting}
use Rattle.grown_plans.proofs.Members.{all_contains, contains_none}
use Rattle.campaign_core.specs.promises.Behaviours.{IsBehaviourOfKinds, times_hit}
use Rattle.campaign_core.specs.promises.Promises.{IsCause, IsFirst}
use Rattle.campaign_core.specs.promises.Further.{Further, IsLeastCause, IsReduction, verdict_of}
use Rattle.campaign_core.specs.promises.Told.{HasVerdict, Told, count_of_levels, level_at}
use Rattle.scenario_values.specs.Scenario.{Entries}
use Rattle.grown_plans.specs.GrownPlans.{Subject}
use Rattle.report.specs.Reports.{CauseFacts, FindingFacts}
use Rattle.campaign_core.specs.promises.WrongReports.{quiet}
use Rattle.campaign_core.proofs.Promised.{all_each}
use Rattle.campaign_core.proofs.PromisesLemmas.Numbers.{contains_at}
use Rattle.campaign_core.proofs.promises.laws.no_made_up_fact_is_told.Goals as goal

never_both : (v : Verdict) (code : ℕ) → v ≡ Pass → v ≡ Fail code → ⊥
never_both v code passes fails = let both : Pass ≡ Fail code = sym passes ∙ fails in absurd cc

some_same : (v w : Verdict) → (let o : Option Verdict = Some v in o) ≡ Some w → v ≡ w
some_same v w e = cc

-- a number's verdict is that of its scenario
not_passed : (t : Subject) (scenarios : List Entries) (told : Told) → Further t scenarios told → (number code : ℕ) (scenario : Entries) → slice_get scenarios number ≡ Some scenario
    → verdict_of t told number scenario ≡ Pass → HasVerdict told number (Fail code) → ⊥
not_passed t scenarios told further number code scenario at passes fails =
    never_both (verdict_of t told number scenario) code passes (some_same (verdict_of t told number scenario) (Fail code) (sym (further.judged number scenario at) ∙ fails))

-- a listed cause
least_of : (t : Subject) (scenarios : List Entries) (told : Told) (cause : CauseFacts) → Contains told.growth.causes cause → Further t scenarios told → IsLeastCause t scenarios told cause
least_of t scenarios told cause listed further =
    all_contains (IsLeastCause t scenarios told) told.growth.causes cause (all_each (IsLeastCause t scenarios told) told.growth.causes further.causes) listed

pub returns-clause-cause : goal.returns-clause-cause
returns-clause-cause c t d told cause listed passes sound scenarios further =
    let is : IsCause t told cause = all_contains (IsCause t told) told.growth.causes cause (all_each (IsCause t told) told.growth.causes sound.causes) listed in
    let least : IsLeastCause t scenarios told cause = least_of t scenarios told cause listed further in
    not_passed t scenarios told further cause.number cause.code cause.scenario least.scenario passes is.fails

pub returns-clause-finding : goal.returns-clause-finding
returns-clause-finding c t d told found listed passes sound scenarios further =
    let is : IsFirst told found = all_contains (IsFirst told) told.report.findings found (all_each (IsFirst told) told.report.findings sound.findings) listed in
    let named : IsReduction t scenarios told found =
    all_contains (IsReduction t scenarios told) told.report.findings found (all_each (IsReduction t scenarios told) told.report.findings further.findings) listed in
    not_passed t scenarios told further found.number found.code found.scenario named.scenario passes is.fails

pub returns-clause-depth : goal.returns-clause-depth
returns-clause-depth c t d told more sound = let depth = sound.depth in omega (arith, more, depth)

pub returns-clause-level : goal.returns-clause-level
returns-clause-level c t d told more sound = let levels = sound.levels in omega (arith, more, levels)

pub returns-clause-growth : goal.returns-clause-growth
returns-clause-growth c t d told none sound = let both = sym none ∙ sound.grew in absurd cc

pub returns-clause-unmet : goal.returns-clause-unmet
returns-clause-unmet c t d plans told some sound = let met = sound.met in omega (arith, some, met)

pub returns-clause-order : goal.returns-clause-order
returns-clause-order c t d told f g both less sound =
    let ordered : AllPairs (λ f g. (f.number < g.number) × (f.code ≢ g.code)) (g ∷ (f ∷ [])) =
    subst (AllPairs (λ (f g : FindingFacts). (f.number < g.number) × (f.code ≢ g.code))) both sound.in_order in
    let before = (ordered 0 1 f (omega arith) (omega arith)).0 in
    omega (arith, less, before)

-- the component that hits nothing
no_times : (hits : List Met) → IsBehaviourOfKinds quiet hits → times_hit 0 hits ≡ 0
no_times [] b = refl
no_times (hit ∷ hits) b = absurd (subst IsDone b.behaves.follows.0 tt)

pub returns-clause-reached : goal.returns-clause-reached
returns-clause-reached c d times told at sound =
    let by = sound.reached 0 (suc times) at (omega arith) in
    let none = no_times by.0 (all_contains (IsBehaviourOfKinds quiet) told.behaviours by.0 sound.behaves by.1) in
    let all = by.2 in
    omega (arith, none, all)

some_count : (m n : ℕ) → (let o : Option ℕ = Some m in o) ≡ Some n → m ≡ n
some_count m n e = cc

pub returns-clause-clean : goal.returns-clause-clean
returns-clause-clean c d told fails sound =
    let clean = sound.clean in
    let passes : told.report.clean ≡ Pass = some_same told.report.clean Pass (sym clean.3 ∙ sound.judged 0 clean.0 clean.1) in
    never_both told.report.clean 0 passes fails

pub returns-clause-census : goal.returns-clause-census
returns-clause-census c d times told at keeps =
    let clean = keeps.seen.sound.clean in
    let none = no_times clean.0 (all_contains (IsBehaviourOfKinds quiet) told.behaviours clean.0 keeps.seen.sound.behaves (contains_at told.behaviours 0 clean.0 clean.1)) in
    by_census clean.0 none (keeps.seen.complete.census clean.0 clean.1)
  where
    by_census : (hits : List Met) → times_hit 0 hits ≡ 0 → (told.report.census ≡ map (λ point. times_hit point hits) (range_with_len 0 1)) ⊎ ⊥ → ⊥
    by_census hits none (inl counted) =
        let same : suc times ≡ times_hit 0 hits = some_count (suc times) (times_hit 0 hits) (sym at ∙ ap (λ (l : List ℕ). slice_get l 0) counted) in
        omega (arith, none, same)
    by_census hits none (inr never) = never

pub returns-clause-no_fault : goal.returns-clause-no_fault
returns-clause-no_fault c d told empty sound =
    let clean = sound.clean in
    let some : 0 < count_of_levels told = subst (λ (sizes : List ℕ). 0 < sum sizes) (sym empty) (omega arith) in
    let acts : acting clean.0 ≡ 1 = sound.by_level 0 clean.0 some clean.1 ∙ ap (λ (sizes : List ℕ). level_at sizes 0) empty in
    let none : acting clean.0 ≡ 0 = clean.2 in
    omega (arith, acts, none)

none_behind : (before : List Met) (hit : Met) (after : List Met) → [] ≡ before ++ hit ∷ after → ⊥
none_behind [] hit after e = absurd cc
none_behind (first ∷ before) hit after e = absurd cc

pub returns-clause-sticky : goal.returns-clause-sticky
returns-clause-sticky c t d number told behind b sound =
    let s = sound.sticky number [] behind b in none_behind s.0 s.1 s.2 s.4

pub returns-clause-unseen : goal.returns-clause-unseen
returns-clause-unseen c t d told unseen none complete = complete.none_unseen none unseen refl

pub returns-clause-verdict : goal.returns-clause-verdict
returns-clause-verdict c t scenarios told number code scenario at passes fails further = not_passed t scenarios told further number code scenario at passes fails

pub returns-clause-tests : goal.returns-clause-tests
returns-clause-tests c t scenarios told found listed others further =
    let is : IsReduction t scenarios told found =
    all_contains (IsReduction t scenarios told) told.report.findings found (all_each (IsReduction t scenarios told) told.report.findings further.findings) listed in
    others is.tests

pub returns-clause-needless : goal.returns-clause-needless
returns-clause-needless c t scenarios told cause fault listed low fails further = (least_of t scenarios told cause listed further).minimal fault low fails

pub returns-clause-missing : goal.returns-clause-missing
returns-clause-missing c t scenarios told number code scenario none low at fails least further =
    let is : CauseFacts = record { number = number; code = code; scenario = scenario } in
    contains_none is (subst (λ (causes : List CauseFacts). Contains causes is) none (further.each_cause number code scenario low at fails least))

pub returns-clause-twice : goal.returns-clause-twice
returns-clause-twice c t scenarios told cause both further =
    let order : AllPairs (λ c d. c.number < d.number) (cause ∷ (cause ∷ [])) = subst (AllPairs (λ (c d : CauseFacts). c.number < d.number)) both further.in_order in
    let less = order 0 1 cause (omega arith) (omega arith) in
    omega (arith, less)
