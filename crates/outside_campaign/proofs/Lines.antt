-- Lines added one after another, and the verdicts of plans.
use Rattle.std.proofs.Common.{◌≡◌, ℕ, zero, suc, ◌+◌, ◌<◌, ◌≤◌, Option, Some, None, List, [], ◌∷◌, ◌++◌, Bool, true, false, cond, length, get_or, map, take, fold, refl, ap, sym, ◌∙◌, arith, subst}
use Rattle.std.specs.Prelude.{is_none}
use Rattle.std.specs.List.{AllByRecursion, list_any}
use Rattle.std.specs.Str.{bytes_eq}
use Rattle.std.proofs.lemmas.List.{take_more, take_all}
use Rattle.indexmap.specs.IndexSet.{insert_key}
use Rattle.scenario_values.specs.Scenario.{Entries, IsScenario}
use Rattle.scenario_values.proofs.Limits.{tidied_scenario}
use Rattle.scenario_values.specs.Tidied.{tidied}
use Rattle.target_trait.specs.declared.judgement.Verdict.{Verdict}
use Rattle.result_book.specs.Verdicts.{verdicts_from}
use Rattle.report.specs.ReportText.{scenario_text}
use Rattle.answered_runs.specs.asked.Lines.{lines_behind, lines_for}
use Rattle.answer_text.specs.Known.{KnownVerdicts}
use Rattle.outside_campaign.specs.Outside.{Components, say_each, EachAgrees}
use Rattle.outside_campaign.specs.Asked.{open_plans, plan_verdicts}

put_more : (lines : List (List ℕ)) (ts us : List Entries) → lines_behind lines (ts ++ us) ≡ lines_behind (lines_behind lines ts) us
put_more lines [] us = refl
put_more lines (t ∷ ts) us = put_more (insert_key bytes_eq lines (scenario_text t)) ts us

pub both_added : (requests opened : List Entries) (first second : List (List ℕ)) → first ≡ lines_behind [] requests → second ≡ lines_behind first opened → second ≡ lines_for (requests ++ opened)
both_added requests opened first second e f = f ∙ ap (λ (l : List (List ℕ)). lines_behind l opened) e ∙ sym (put_more [] requests opened)

pub from_nothing : (requests : List Entries) (none after : List (List ℕ)) → none ≡ [] → after ≡ lines_behind none requests → after ≡ lines_behind [] requests
from_nothing requests none after e f = f ∙ ap (λ (l : List (List ℕ)). lines_behind l requests) e

open_more : (known : KnownVerdicts) (ps qs : List Entries) → open_plans known (ps ++ qs) ≡ open_plans known ps ++ open_plans known qs
open_more known [] qs = refl
open_more known (p ∷ ps) qs = by_test (is_none (known (tidied p))) (open_more known ps qs)
  where
    by_test : (b : Bool) → open_plans known (ps ++ qs) ≡ open_plans known ps ++ open_plans known qs
        → cond b (tidied p ∷ open_plans known (ps ++ qs)) (open_plans known (ps ++ qs)) ≡ cond b (tidied p ∷ open_plans known ps) (open_plans known ps) ++ open_plans known qs
    by_test true e = ap (λ (r : List Entries). tidied p ∷ r) e
    by_test false e = e

pub plan_added : (known : KnownVerdicts) (first before after : List (List ℕ)) (plans : List Entries) (i : ℕ) (p : Entries) → i < length plans → p ≡ get_or plans i []
    → before ≡ lines_behind first (open_plans known (take i plans)) → after ≡ lines_behind before (open_plans known (p ∷ [])) → after ≡ lines_behind first (open_plans known (take (i + 1) plans))
plan_added known first before after plans i p less is so_far this =
    let more : take (i + 1) plans ≡ take i plans ++ p ∷ [] = take_more plans i [] less ∙ ap (λ (x : Entries). take i plans ++ x ∷ []) (sym is) in
    this ∙ ap (λ (x : List (List ℕ)). lines_behind x (open_plans known (p ∷ []))) so_far
    ∙ sym (put_more first (open_plans known (take i plans)) (open_plans known (p ∷ [])))
    ∙ ap (lines_behind first) (sym (open_more known (take i plans) (p ∷ [])))
    ∙ ap (λ (x : List Entries). lines_behind first (open_plans known x)) (sym more)

-- ---- nothing asked

more_stay : (k : List ℕ) (ks xs : List (List ℕ)) → fold (insert_key bytes_eq) (k ∷ ks) xs ≡ [] → ⊥
more_stay k ks [] h = cc
more_stay k ks (x ∷ xs) h = by_test (list_any (bytes_eq x) (k ∷ ks)) (more_stay k ks xs) (more_stay k (ks ++ x ∷ []) xs) h
  where
    by_test : (b : Bool) → (fold (insert_key bytes_eq) (k ∷ ks) xs ≡ [] → ⊥) → (fold (insert_key bytes_eq) (k ∷ (ks ++ x ∷ [])) xs ≡ [] → ⊥)
        → fold (insert_key bytes_eq) (cond b (k ∷ ks) (k ∷ (ks ++ x ∷ []))) xs ≡ [] → ⊥
    by_test true f g e = f e
    by_test false f g e = g e

pub none_once : (ts : List Entries) → lines_for ts ≡ [] → ts ≡ []
none_once [] h = refl
none_once (t ∷ ts) h = absurd (more_stay (scenario_text t) [] (map scenario_text ts) h)

-- ---- verdicts

lawful_push : (ps : List Entries) (p : Entries) → AllByRecursion (λ s. IsScenario s) ps → IsScenario p → AllByRecursion (λ s. IsScenario s) (ps ++ p ∷ [])
lawful_push [] p h ok = (ok, tt)
lawful_push (q ∷ ps) p h ok = (h.0, lawful_push ps p h.1 ok)

lawful_more : (plans : List Entries) (i : ℕ) (p : Entries) → i < length plans → p ≡ get_or plans i p → IsScenario p → AllByRecursion (λ s. IsScenario s) (take i plans) → AllByRecursion (λ s. IsScenario s) (take (i + 1) plans)
lawful_more plans i p less is ok h =
    let P : List Entries → Type 0 = λ ps. AllByRecursion (λ s. IsScenario s) ps in
    subst P (sym (take_more plans i p less ∙ ap (λ (x : Entries). take i plans ++ x ∷ []) (sym is))) (lawful_push (take i plans) p h ok)

verdicts_push : (known : KnownVerdicts) (ps : List Entries) (p : Entries) → plan_verdicts known (ps ++ p ∷ []) ≡ plan_verdicts known ps ++ known (tidied p) ∷ []
verdicts_push known [] p = refl
verdicts_push known (q ∷ ps) p = ap (λ (r : List (Option Verdict)). known (tidied q) ∷ r) (verdicts_push known ps p)

-- the verdicts of some plans are looked up
pub record LookedUp (known : KnownVerdicts) (plans : List Entries) (i : ℕ) (verdicts : List (Option Verdict)) : Type 0 where
  pub are : verdicts ≡ plan_verdicts known (take i plans)
  pub lawful : AllByRecursion (λ s. IsScenario s) (take i plans)

get_same : (xs : List Entries) (n : ℕ) (d e : Entries) → n < length xs → get_or xs n d ≡ get_or xs n e
get_same [] n d e h = absurd (omega arith)
get_same (x ∷ xs) zero d e h = refl
get_same (x ∷ xs) (suc n) d e h = get_same xs n d e (omega arith)

pub looked_up : (known : KnownVerdicts) (plans : List Entries) (i : ℕ) (p s : Entries) (v : Option Verdict) (before after : List (Option Verdict)) → i < length plans → p ≡ get_or plans i [] → s ≡ p → IsScenario s → v ≡ known (tidied s)
    → after ≡ before ++ v ∷ [] → LookedUp known plans i before → LookedUp known plans (i + 1) after
looked_up known plans i p s v before after less is plan ok told pushed r =
    let mine : s ≡ get_or plans i s = plan ∙ is ∙ get_same plans i [] s less in
    record {
      are = pushed ∙ ap (λ (x : List (Option Verdict)). x ++ v ∷ []) r.are ∙ ap (λ (x : Option Verdict). plan_verdicts known (take i plans) ++ x ∷ []) told ∙ sym (verdicts_push known (take i plans) s)
          ∙ ap (λ (x : Entries). plan_verdicts known (take i plans ++ x ∷ [])) mine ∙ ap (plan_verdicts known) (sym (take_more plans i s less));
      lawful = lawful_more plans i s less mine ok r.lawful;
    }

pub looked_up_all : (known : KnownVerdicts) (plans : List Entries) (i : ℕ) (verdicts : List (Option Verdict)) → length plans ≤ i → LookedUp known plans i verdicts
    → (verdicts ≡ plan_verdicts known plans) × AllByRecursion (λ s. IsScenario s) plans
looked_up_all known plans i verdicts end r =
    let whole : take i plans ≡ plans = take_all i plans end in
    let P : List Entries → Type 0 = λ ps. AllByRecursion (λ s. IsScenario s) ps in
    (r.are ∙ ap (plan_verdicts known) whole, subst P whole r.lawful)

-- each plan is answered
pub all_answered : (known : KnownVerdicts) (plans : List Entries) (all : List Verdict) (n : ℕ) → AllByRecursion (λ s. IsScenario s) plans → map (λ v. Some v) all ≡ plan_verdicts known plans
    → (open_plans known plans ≡ []) × ((components : Components) → EachAgrees components known → all ≡ verdicts_from (say_each components) n plans)
all_answered known [] [] n lawful e = (refl, λ components agrees. refl)
all_answered known [] (v ∷ all) n lawful e = absurd cc
all_answered known (p ∷ plans) [] n lawful e = absurd cc
all_answered known (p ∷ plans) (v ∷ all) n lawful e =
    let here : known (tidied p) ≡ Some v = cc in
    let later = all_answered known plans all (n + 1) lawful.1 (cc) in (
      ap (λ (o : Option Verdict). cond (is_none o) (tidied p ∷ open_plans known plans) (open_plans known plans)) here ∙ later.0,
      λ components agrees.
          let mine : components n (tidied p) ≡ v = agrees n (tidied p) v (tidied_scenario p lawful.0) here in
          ap (λ (w : Verdict). w ∷ all) (sym mine) ∙ ap (λ (vs : List Verdict). components n (tidied p) ∷ vs) (later.1 components agrees),
    )

pub verdicts_all : (known : KnownVerdicts) (plans : List Entries) (i : ℕ) (verdicts : List (Option Verdict)) (all : List Verdict) → length verdicts ≤ i → map (λ v. Some v) all ≡ take i verdicts → verdicts ≡ plan_verdicts known plans → AllByRecursion (λ s. IsScenario s) plans
    → (map (λ v. Some v) all ≡ plan_verdicts known plans) × (open_plans known plans ≡ []) × ((components : Components) → EachAgrees components known → all ≡ verdicts_from (say_each components) 0 plans)
verdicts_all known plans i verdicts all end e is lawful =
    let same : map (λ v. Some v) all ≡ plan_verdicts known plans = e ∙ take_all i verdicts end ∙ is in
    let a = all_answered known plans all 0 lawful same in
    (same, a.0, a.1)

-- Where no plan is open, what is known of the plans are the verdicts that a family of components which agrees with it gives them.
pub verdicts_known_are : (known : KnownVerdicts) (components : Components) (plans : List Entries) (n : ℕ) → AllByRecursion (λ s. IsScenario s) plans → EachAgrees components known → open_plans known plans ≡ []
    → plan_verdicts known plans ≡ map (λ v. Some v) (verdicts_from (say_each components) n plans)
verdicts_known_are known components [] n lawful agrees none = refl
verdicts_known_are known components (p ∷ plans) n lawful agrees none = at (known (tidied p)) refl (verdicts_known_are known components plans (n + 1) lawful.1 agrees) none
  where
    at : (o : Option Verdict) → known (tidied p) ≡ o
        → (open_plans known plans ≡ [] → plan_verdicts known plans ≡ map (λ v. Some v) (verdicts_from (say_each components) (n + 1) plans))
        → cond (is_none o) (tidied p ∷ open_plans known plans) (open_plans known plans) ≡ []
        → known (tidied p) ∷ plan_verdicts known plans ≡ Some (components n (tidied p)) ∷ map (λ v. Some v) (verdicts_from (say_each components) (n + 1) plans)
    at None e later h = absurd cc
    at (Some v) e later h =
        let mine : components n (tidied p) ≡ v = agrees n (tidied p) v (tidied_scenario p lawful.0) e in
        ap (λ (o : Option Verdict). o ∷ plan_verdicts known plans) (e ∙ ap (λ (w : Verdict). Some w) (sym mine))
        ∙ ap (λ (r : List (Option Verdict)). Some (components n (tidied p)) ∷ r) (later h)

map_push : (all : List Verdict) (v : Verdict) → map (λ w. Some w) (all ++ v ∷ []) ≡ map (λ w. Some w) all ++ Some v ∷ []
map_push [] v = refl
map_push (w ∷ all) v = ap (λ (r : List (Option Verdict)). Some w ∷ r) (map_push all v)

pub told_more : (verdicts : List (Option Verdict)) (i : ℕ) (d : Option Verdict) (all new : List Verdict) (v : Verdict) → i < length verdicts → new ≡ all ++ v ∷ [] → map (λ w. Some w) all ≡ take i verdicts → get_or verdicts i d ≡ Some v
    → map (λ w. Some w) new ≡ take (i + 1) verdicts
told_more verdicts i d all new v less pushed so_far is =
    ap (map (λ w. Some w)) pushed ∙ map_push all v ∙ ap (λ (r : List (Option Verdict)). r ++ Some v ∷ []) so_far ∙ ap (λ (o : Option Verdict). take i verdicts ++ o ∷ []) (sym is) ∙ sym (take_more verdicts i d less)

-- the plans before this one are answered, and it isn't
pub first_unanswered : (known : KnownVerdicts) (plans : List Entries) (all : List Verdict) (i : ℕ) (d : Option Verdict) (p : Entries) → i < length plans → map (λ v. Some v) all ≡ take i (plan_verdicts known plans) → get_or (plan_verdicts known plans) i d ≡ None
    → p ≡ get_or plans i p → (more : List Entries) × (open_plans known plans ≡ tidied p ∷ more)
first_unanswered known [] all i d p less e none is = absurd (omega arith)
first_unanswered known (q ∷ plans) all zero d p less e none is =
    (open_plans known plans, ap (λ (o : Option Verdict). cond (is_none o) (tidied q ∷ open_plans known plans) (open_plans known plans)) none ∙ ap (λ (x : Entries). tidied x ∷ open_plans known plans) (sym is))
first_unanswered known (q ∷ plans) [] (suc i) d p less e none is = absurd cc
first_unanswered known (q ∷ plans) (v ∷ all) (suc i) d p less e none is =
    let here : known (tidied q) ≡ Some v = cc in
    let later = first_unanswered known plans all i d p (omega arith) (cc) none is in
    (later.0, ap (λ (o : Option Verdict). cond (is_none o) (tidied q ∷ open_plans known plans) (open_plans known plans)) here ∙ later.1)

pub open_at : (known : KnownVerdicts) (plans : List Entries) (verdicts : List (Option Verdict)) (all : List Verdict) (i : ℕ) (d : Option Verdict) (p s t : Entries) → i < length verdicts → length verdicts ≡ length plans → verdicts ≡ plan_verdicts known plans
    → map (λ v. Some v) all ≡ take i verdicts → get_or verdicts i d ≡ None → p ≡ get_or plans i [] → s ≡ p → t ≡ tidied s → (more : List Entries) × (open_plans known plans ≡ t ∷ more)
open_at known plans verdicts all i d p s t less many is e none at same tidy =
    let first = first_unanswered known plans all i d p (omega arith) (e ∙ ap (take i) is) (ap (λ (vs : List (Option Verdict)). get_or vs i d) (sym is) ∙ none) (at ∙ get_same plans i [] p (omega arith)) in
    (first.0, first.1 ∙ ap (λ (x : Entries). x ∷ first.0) (sym (tidy ∙ ap tidied same)))
