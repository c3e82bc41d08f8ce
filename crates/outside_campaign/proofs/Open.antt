-- What is still to be tried is unanswered.
use Rattle.std.proofs.Common.{◌≡◌, ℕ, List, [], ◌∷◌, ◌++◌, Bool, true, false, cond, map, fold, Option, Some, None, refl}
use Rattle.std.specs.Prelude.{option_map, is_none}
use Rattle.std.specs.List.{AllByRecursion, list_any}
use Rattle.indexmap.specs.IndexSet.{insert_key}
use Rattle.scenario_values.specs.Scenario.{Entries, all_faults}
use Rattle.scenario_values.specs.Keep.{are_faults, kept}
use Rattle.scenario_values.specs.Tidied.{tidied}
use Rattle.target_trait.specs.declared.judgement.Verdict.{Verdict}
use Rattle.ddmin_parallel.specs.Rounds.{Candidate}
use Rattle.ddmin_parallel.specs.CoreEvents.{Answers, round_at, same_set}
use Rattle.answer_text.specs.Known.{KnownVerdicts}
use Rattle.answer_text.proofs.TidyAgain.{tidied_again}
use Rattle.campaign_core.specs.FaultTest.{fails_with}
use Rattle.campaign_core.specs.Findings.{plan_at}
use Rattle.outside_campaign.specs.Reached.{known_tests, place_of, unknown_sets, open_sets, open_candidates}
use Rattle.outside_campaign.specs.Asked.{open_plans, open_requests, known_failures, IsUntried}
use Rattle.outside_campaign.specs.Campaigns.{untried}

abbrev AreUnknown : Answers → List (List ℕ) → Type 0
AreUnknown all sets = AllByRecursion (λ set. all set ≡ None) sets

unknown_are : (all : Answers) (cs : List Candidate) → AreUnknown all (unknown_sets all cs)
unknown_are all [] = tt
unknown_are all (c ∷ cs) = at (all c.set) refl (unknown_are all cs)
  where
    at : (o : Option Bool) → all c.set ≡ o → AreUnknown all (unknown_sets all cs)
        → AreUnknown all (elim o as (λ _. List (List ℕ)) [ None ↦ c.set ∷ unknown_sets all cs | Some fails ↦ elim fails as (λ _. List (List ℕ)) [ true ↦ [] | false ↦ unknown_sets all cs ] ])
    at None e h = (e, h)
    at (Some true) e h = tt
    at (Some false) e h = h

pushed : (all : Answers) (out : List (List ℕ)) (s : List ℕ) → AreUnknown all out → all s ≡ None → AreUnknown all (out ++ s ∷ [])
pushed all [] s h n = (n, tt)
pushed all (t ∷ out) s h n = (h.0, pushed all out s h.1 n)

put_are : (all : Answers) (out xs : List (List ℕ)) → AreUnknown all out → AreUnknown all xs → AreUnknown all (fold (insert_key same_set) out xs)
put_are all out [] h k = h
put_are all out (x ∷ xs) h k = at (list_any (same_set x) out) (put_are all out xs h k.1) (put_are all (out ++ x ∷ []) xs (pushed all out x h k.0) k.1)
  where
    at : (b : Bool) → AreUnknown all (fold (insert_key same_set) out xs) → AreUnknown all (fold (insert_key same_set) (out ++ x ∷ []) xs) → AreUnknown all (fold (insert_key same_set) (cond b out (out ++ x ∷ [])) xs)
    at true f g = f
    at false f g = g

no_verdict : (code : ℕ) (o : Option Verdict) → option_map (fails_with code) o ≡ None → o ≡ None
no_verdict code None h = refl
no_verdict code (Some v) h = absurd cc

set_untried : (known : KnownVerdicts) (code : ℕ) (s : Entries) (set : List ℕ) → known_tests known code s set ≡ None → IsUntried known (tidied (kept set s))
set_untried known code s set h = (by_faults (are_faults (all_faults s) set) h, tidied_again (kept set s))
  where
    by_faults : (b : Bool) → cond b (option_map (fails_with code) (known (tidied (kept set s)))) (Some false) ≡ None → known (tidied (kept set s)) ≡ None
    by_faults true k = no_verdict code (known (tidied (kept set s))) k
    by_faults false k = absurd cc

sets_untried : (known : KnownVerdicts) (code : ℕ) (s : Entries) (sets : List (List ℕ)) → AreUnknown (known_tests known code s) sets → AllByRecursion (IsUntried known) (map (λ set. tidied (kept set s)) sets)
sets_untried known code s [] h = tt
sets_untried known code s (set ∷ sets) h = (set_untried known code s set h.0, sets_untried known code s sets h.1)

both : (known : KnownVerdicts) (xs ys : List Entries) → AllByRecursion (IsUntried known) xs → AllByRecursion (IsUntried known) ys → AllByRecursion (IsUntried known) (xs ++ ys)
both known [] ys h k = k
both known (x ∷ xs) ys h k = (h.0, both known xs ys h.1 k)

candidates_untried : (known : KnownVerdicts) (code : ℕ) (s : Entries) → AllByRecursion (IsUntried known) (open_candidates known code s)
candidates_untried known code s =
    let all = known_tests known code s in
    let cs = round_at (place_of known code s) in
    sets_untried known code s (open_sets all cs) (put_are all [] (unknown_sets all cs) tt (unknown_are all cs))

requests_untried : (known : KnownVerdicts) (plans : List Entries) (failures : List (ℕ × ℕ)) → AllByRecursion (IsUntried known) (open_requests known plans failures)
requests_untried known plans [] = tt
requests_untried known plans (f ∷ failures) = both known (open_candidates known f.1 (plan_at plans f.0)) (open_requests known plans failures) (candidates_untried known f.1 (plan_at plans f.0)) (requests_untried known plans failures)

plans_untried : (known : KnownVerdicts) (plans : List Entries) → AllByRecursion (IsUntried known) (open_plans known plans)
plans_untried known [] = tt
plans_untried known (p ∷ plans) = at (known (tidied p)) refl (plans_untried known plans)
  where
    at : (o : Option Verdict) → known (tidied p) ≡ o → AllByRecursion (IsUntried known) (open_plans known plans)
        → AllByRecursion (IsUntried known) (cond (is_none o) (tidied p ∷ open_plans known plans) (open_plans known plans))
    at None e h = ((e, tidied_again p), h)
    at (Some v) e h = h

pub all_untried : (known : KnownVerdicts) (plans : List Entries) → AllByRecursion (IsUntried known) (untried known plans)
all_untried known plans = both known (open_requests known plans (known_failures known plans)) (open_plans known plans) (requests_untried known plans (known_failures known plans)) (plans_untried known plans)
