-- Why there is no report of a campaign with a depth, and that nothing is still to be tried where there is one.
use Rattle.std.proofs.Common.{◌≡◌, ◌<◌, ◌++◌, ◌⊎◌, inl, inr, ℕ, zero, suc, Bool, true, false, cond, List, [], ◌∷◌, Some, None, Option, length, map, refl, ap, sym, ◌∙◌, subst, arith, is_none}
use Rattle.std.specs.Prelude.{Contains, filter, nat_le, option_map}
use Rattle.scenario_values.specs.Scenario.{Entries}
use Rattle.scenario_values.specs.Tidied.{tidied}
use Rattle.action_eval.specs.declared.rig.Rig.{Rig}
use Rattle.grown_plans.specs.numbered.GrownScenarios.{grown_scenario, grown_scenarios}
use Rattle.grown_plans.proofs.Members.{contains_cases, contains_head, contains_none, contains_tail}
use Rattle.grown_runs.specs.known.Known.{KnownRuns}
use Rattle.grown_runs.specs.known.KnownPart.{are_told}
use Rattle.action_eval.specs.declared.rig.Kind.{Kind}
use Rattle.grown_plans.specs.GrownPlans.{levels_to}
use Rattle.grown_runs.specs.known.ToldPart.{level_known, levels_known}
use Rattle.plan_gen.specs.PlanList.{Asked}
use Rattle.answer_text.specs.Known.{KnownVerdicts}
use Rattle.answer_text.specs.Runs.{told_in}
use Rattle.answer_text.specs.declared.runs.ToldRun.{ToldRun}
use Rattle.target_trait.specs.declared.judgement.Verdict.{Verdict}
use Rattle.answered_runs.specs.Answered.{Answered, known_plans, runs_in, told_of, kinds_over}
use Rattle.answered_runs.specs.Rigged.{rigs_of_scenario}
use Rattle.answered_runs.specs.Verdicts.{told_or, verdict_by, walked_by}
use Rattle.answered_runs.specs.WholeList.{AreAllTold}
use Rattle.campaign_core.specs.declared.ending.CampaignFault.TheVariants as campaign
use Rattle.outside_campaign.specs.Asked.{open_plans}
use Rattle.outside_campaign.specs.declared.refusal.OutsideFault.TheVariants as refusal
use Rattle.answered_runs.specs.grown.Asked.{to_try, undecided, unrun}
use Rattle.answered_runs.specs.grown.Further.{further_told}
use Rattle.outside_campaign.specs.with_depth.Grown.{candidates, known, listed, or_else, untried}
use Rattle.answered_runs.proofs.Known.{plan_certain}
use Rattle.outside_campaign.specs.with_depth.Questions.{RefusesBy}
use Rattle.outside_campaign.specs.declared.with_depth.fault.QuestionFault.{QuestionFault}
use Rattle.outside_campaign.specs.declared.with_depth.fault.QuestionFault.TheVariants as fault
use Rattle.outside_campaign.specs.with_depth.inside.Outcomes.{IsFirstOf, IsGapFault, IsOpenPlan}

-- ---- what is in a list

contains_left : (xs ys : List Entries) (t : Entries) → Contains xs t → Contains (xs ++ ys) t
contains_left [] ys t there = absurd (contains_none t there)
contains_left (x ∷ xs) ys t there = by_place (λ later. contains_left xs ys t later) (contains_cases x t xs there)
  where
    by_place : (Contains xs t → Contains (xs ++ ys) t) → (x ≡ t) ⊎ Contains xs t → Contains (x ∷ xs ++ ys) t
    by_place more (inl is) = subst (λ (y : Entries). Contains (x ∷ xs ++ ys) y) is (contains_head x (xs ++ ys))
    by_place more (inr later) = contains_tail x t (xs ++ ys) (more later)

tried_first : (xs others : List Entries) (t : Entries) → Contains xs t → Contains (or_else xs others) t
tried_first [] others t there = absurd (contains_none t there)
tried_first (x ∷ xs) others t there = there

-- ---- faults

-- nothing is told of a plan's run
by_gap : (a : Answered) (depth : ℕ) (asked : Asked) (why : QuestionFault) → IsGapFault a (known_plans a depth) why → RefusesBy a depth asked why
by_gap a depth asked (fault.Broken b) h = absurd h
by_gap a depth asked (fault.Outside (refusal.NotAnswered t)) h =
    tried_first (to_try a depth asked) (candidates a depth asked) t (contains_left (unrun a (known_plans a depth)) (undecided a depth (further_told a asked)) t h)
by_gap a depth asked (fault.Outside (refusal.Answers f)) h = absurd h
by_gap a depth asked (fault.Outside (refusal.Census line)) h = absurd h
by_gap a depth asked (fault.Scenario f) h = absurd h
by_gap a depth asked (fault.Unseen line) h = absurd h
by_gap a depth asked (fault.Outside (refusal.Campaign campaign.TooManyPlans)) h = absurd h
by_gap a depth asked (fault.Outside (refusal.Campaign campaign.Memory)) h = tt
by_gap a depth asked (fault.Outside (refusal.Campaign (campaign.Write n))) h = absurd h

pub gap_refused : (a : Answered) (depth : ℕ) (asked : Asked) (plans : List (List Rig)) (why : QuestionFault) → plans ≡ known_plans a depth → IsGapFault a plans why
    → RefusesBy a depth asked why
gap_refused a depth asked plans why is h = by_gap a depth asked why (subst (λ (ps : List (List Rig)). IsGapFault a ps why) is h)

-- ---- open plans are still to be tried

told_none : (walked : Option Verdict) (told : Option ToldRun) → is_none (told_or walked told) ≡ true → told ≡ None
told_none walked None e = refl
told_none walked (Some r) e = cc

run_none : (few : Bool) (told : Option ToldRun) → told ≡ None → is_none (cond few (option_map told_of told) None) ≡ true
run_none true None e = refl
run_none false None e = refl
run_none few (Some r) e = cc

unrun_if : (a : Answered) (depth : ℕ) (plan : List Rig) → is_none (known a depth (tidied (grown_scenario a.points plan))) ≡ true → is_none (runs_in a plan) ≡ true
unrun_if a depth plan e =
    let s : Entries = tidied (grown_scenario a.points plan) in
    run_none (nat_le (length plan) 64) (told_in a.book s)
    (told_none (walked_by (runs_in a) depth (rigs_of_scenario a.points s)) (told_in a.book s)
    (subst (λ (b : Bool). is_none (told_or (walked_by (runs_in a) depth (rigs_of_scenario a.points s)) (cond b (told_in a.book s) None)) ≡ true) (plan_certain a.points plan) e))

open_grown : (a : Answered) (depth : ℕ) (plans : List (List Rig)) (rest : List Entries) (t : Entries) → Contains (open_plans (known a depth) (grown_scenarios a.points plans ++ rest)) t
    → Contains (unrun a plans ++ open_plans (known a depth) rest) t
open_grown a depth [] rest t there = there
open_grown a depth (p ∷ ps) rest t there =
    at (λ found. open_grown a depth ps rest t found) (is_none (known a depth s)) (is_none (runs_in a p)) (unrun_if a depth p) there
  where
    s : Entries
    s = tidied (grown_scenario a.points p)

    later : List Entries
    later = unrun a ps ++ open_plans (known a depth) rest

    here : (b : Bool) → Contains later t → Contains (map (λ plan. tidied (grown_scenario a.points plan)) (cond b (p ∷ filter (λ plan. is_none (runs_in a plan)) ps) (filter (λ plan. is_none (runs_in a plan)) ps)) ++ open_plans (known a depth) rest) t
    here true in_later = contains_tail s t later in_later
    here false in_later = in_later

    at : (Contains (open_plans (known a depth) (grown_scenarios a.points ps ++ rest)) t → Contains (unrun a ps ++ open_plans (known a depth) rest) t)
        → (open_ : Bool) (b : Bool) → (open_ ≡ true → b ≡ true)
        → Contains (cond open_ (s ∷ open_plans (known a depth) (grown_scenarios a.points ps ++ rest)) (open_plans (known a depth) (grown_scenarios a.points ps ++ rest))) t
        → Contains (map (λ plan. tidied (grown_scenario a.points plan)) (cond b (p ∷ filter (λ plan. is_none (runs_in a plan)) ps) (filter (λ plan. is_none (runs_in a plan)) ps)) ++ open_plans (known a depth) rest) t
    at ih false b h found = here b (ih found)
    at ih true true h found = first (contains_cases s t (open_plans (known a depth) (grown_scenarios a.points ps ++ rest)) found)
      where
        first : (s ≡ t) ⊎ Contains (open_plans (known a depth) (grown_scenarios a.points ps ++ rest)) t → Contains (s ∷ later) t
        first (inl is) = subst (λ (y : Entries). Contains (s ∷ later) y) is (contains_head s later)
        first (inr more) = contains_tail s t later (ih more)
    at ih true false h found = let no : false ≡ true = h refl in cc

open_further : (a : Answered) (depth : ℕ) (ss : List Entries) → open_plans (known a depth) ss ≡ undecided a depth ss
open_further a depth [] = refl
open_further a depth (s ∷ ss) = at (is_none (known a depth (tidied s))) (open_further a depth ss)
  where
    at : (b : Bool) → open_plans (known a depth) ss ≡ undecided a depth ss
        → cond b (tidied s ∷ open_plans (known a depth) ss) (open_plans (known a depth) ss)
        ≡ map tidied (cond b (s ∷ filter (λ x. is_none (verdict_by a.points (told_in a.book) depth (tidied x))) ss) (filter (λ x. is_none (verdict_by a.points (told_in a.book) depth (tidied x))) ss))
    at true e = ap (λ (l : List Entries). tidied s ∷ l) e
    at false e = e

open_listed : (a : Answered) (depth : ℕ) (asked : Asked) (t : Entries) → Contains (open_plans (known a depth) (listed a depth asked)) t → Contains (to_try a depth asked) t
open_listed a depth asked t there =
    subst (λ (l : List Entries). Contains (unrun a (known_plans a depth) ++ l) t) (open_further a depth (further_told a asked))
    (open_grown a depth (known_plans a depth) (further_told a asked) t there)

by_open : (a : Answered) (depth : ℕ) (asked : Asked) (why : QuestionFault) → IsOpenPlan (known a depth) (listed a depth asked) why → RefusesBy a depth asked why
by_open a depth asked (fault.Broken b) h = absurd h
by_open a depth asked (fault.Outside (refusal.NotAnswered t)) h =
    tried_first (to_try a depth asked) (candidates a depth asked) t
    (open_listed a depth asked t (subst (λ (l : List Entries). Contains l t) (sym h.1) (contains_head t h.0)))
by_open a depth asked (fault.Outside (refusal.Answers f)) h = absurd h
by_open a depth asked (fault.Outside (refusal.Census line)) h = absurd h
by_open a depth asked (fault.Scenario f) h = absurd h
by_open a depth asked (fault.Unseen line) h = absurd h
by_open a depth asked (fault.Outside (refusal.Campaign campaign.TooManyPlans)) h = absurd h
by_open a depth asked (fault.Outside (refusal.Campaign campaign.Memory)) h = tt
by_open a depth asked (fault.Outside (refusal.Campaign (campaign.Write n))) h = absurd h

pub open_refused : (a : Answered) (depth : ℕ) (asked : Asked) (plans : List Entries) (why : QuestionFault) → plans ≡ listed a depth asked → IsOpenPlan (known a depth) plans why
    → RefusesBy a depth asked why
open_refused a depth asked plans why is h = by_open a depth asked why (subst (λ (ps : List Entries). IsOpenPlan (known a depth) ps why) is h)

-- ---- nothing is still to be tried

told_run : (runs : KnownRuns) (plan : List Rig) → are_told (runs plan) ≡ true → is_none (runs plan) ≡ false
told_run runs plan e = at (runs plan) e
  where
    at : {A : Type 0} (o : Option A) → are_told o ≡ true → is_none o ≡ false
    at None h = cc
    at (Some x) h = refl

none_unrun : (a : Answered) (plans : List (List Rig)) → AreAllTold (runs_in a) plans → unrun a plans ≡ []
none_unrun a [] told = refl
none_unrun a (p ∷ ps) told =
    ap (λ (b : Bool). map (λ plan. tidied (grown_scenario a.points plan)) (cond b (p ∷ filter (λ plan. is_none (runs_in a plan)) ps) (filter (λ plan. is_none (runs_in a plan)) ps)))
    (told_run (runs_in a) p told.0)
    ∙ none_unrun a ps told.1

right_none : (k : KnownVerdicts) (xs ys : List Entries) → open_plans k (xs ++ ys) ≡ [] → open_plans k ys ≡ []
right_none k [] ys e = e
right_none k (x ∷ xs) ys e = at (λ h. right_none k xs ys h) (is_none (k (tidied x))) e
  where
    at : (open_plans k (xs ++ ys) ≡ [] → open_plans k ys ≡ []) → (b : Bool) → cond b (tidied x ∷ open_plans k (xs ++ ys)) (open_plans k (xs ++ ys)) ≡ [] → open_plans k ys ≡ []
    at ih true h = cc
    at ih false h = ih h

pub none_to_try : (a : Answered) (depth : ℕ) (asked : Asked) (plans : List Entries) → AreAllTold (runs_in a) (known_plans a depth) → plans ≡ listed a depth asked
    → open_plans (known a depth) plans ≡ [] → to_try a depth asked ≡ []
none_to_try a depth asked plans told is none =
    let further : undecided a depth (further_told a asked) ≡ [] =
    sym (open_further a depth (further_told a asked))
    ∙ right_none (known a depth) (grown_scenarios a.points (known_plans a depth)) (further_told a asked) (ap (open_plans (known a depth)) (sym is) ∙ none) in
    ap (λ (l : List Entries). l ++ undecided a depth (further_told a asked)) (none_unrun a (known_plans a depth) told) ∙ further

-- ---- candidates

by_requests : (a : Answered) (depth : ℕ) (asked : Asked) (why : QuestionFault) (requests : List Entries) → requests ≡ candidates a depth asked → to_try a depth asked ≡ [] → IsFirstOf requests why
    → RefusesBy a depth asked why
by_requests a depth asked (fault.Broken b) requests is none h = absurd h
by_requests a depth asked (fault.Outside (refusal.NotAnswered t)) requests is none h =
    subst (λ (l : List Entries). Contains (or_else l (candidates a depth asked)) t) (sym none) (subst (λ (l : List Entries). Contains l t) is h)
by_requests a depth asked (fault.Outside (refusal.Answers f)) requests is none h = absurd h
by_requests a depth asked (fault.Outside (refusal.Census line)) requests is none h = absurd h
by_requests a depth asked (fault.Scenario f) requests is none h = absurd h
by_requests a depth asked (fault.Unseen line) requests is none h = absurd h
by_requests a depth asked (fault.Outside (refusal.Campaign campaign.TooManyPlans)) requests is none h = absurd h
by_requests a depth asked (fault.Outside (refusal.Campaign campaign.Memory)) requests is none h = tt
by_requests a depth asked (fault.Outside (refusal.Campaign (campaign.Write n))) requests is none h = absurd h

pub requests_refused : (a : Answered) (depth : ℕ) (asked : Asked) (why : QuestionFault) (requests : List Entries) → requests ≡ candidates a depth asked → to_try a depth asked ≡ []
    → IsFirstOf requests why → RefusesBy a depth asked why
requests_refused = by_requests

pub nothing_left : (a : Answered) (depth : ℕ) (asked : Asked) → to_try a depth asked ≡ [] → candidates a depth asked ≡ [] → untried a depth asked ≡ []
nothing_left a depth asked none no_requests = ap (λ (l : List Entries). or_else l (candidates a depth asked)) none ∙ no_requests

-- ---- the list has a plan

left_some : (xs ys : List (List Rig)) → 0 < length xs → 0 < length (xs ++ ys)
left_some [] ys some = absurd (omega (arith, some))
left_some (x ∷ xs) ys some = omega arith

levels_some : (kinds : ℕ → List Kind) (runs : KnownRuns) (d : ℕ) → 0 < length (levels_known kinds runs d)
unfolding levels_to level_known
levels_some kinds runs zero = omega arith
levels_some kinds runs (suc d) = left_some (levels_known kinds runs d) _ (levels_some kinds runs d)

pub some_known : (a : Answered) (depth : ℕ) → 0 < length (known_plans a depth)
some_known a depth = left_some (levels_known (kinds_over a.points a.listed) (runs_in a) depth) _ (levels_some (kinds_over a.points a.listed) (runs_in a) depth)
