-- What is gathered of failures.
use Rattle.std.proofs.Common.{◌≡◌, ℕ, ◌+◌, ◌<◌, ◌≤◌, List, [], ◌∷◌, ◌++◌, true, length, get_or, map, take, refl, ap, sym, ◌∙◌, arith, subst, append_assoc}
use Rattle.std.specs.Prelude.{unwrap_or, flat_map}
use Rattle.std.specs.List.{AllByRecursion}
use Rattle.std.proofs.lemmas.List.{take_more, append-nil}
use Rattle.scenario_values.specs.Scenario.{Entries, IsScenario, all_faults}
use Rattle.scenario_values.specs.Keep.{are_faults, ascend_from, kept}
use Rattle.scenario_values.specs.Tidied.{tidied}
use Rattle.scenario_values.proofs.Sets.{faults_from, weaker}
use Rattle.target_trait.specs.declared.judgement.Verdict.TheVariants as verdict
use Rattle.ddmin_parallel.specs.Ddmin.{Reduced}
use Rattle.ddmin_parallel.specs.CoreEvents.{Position, End, round_at}
use Rattle.ddmin_parallel.specs.Sublists.{Ascends}
use Rattle.ddmin_parallel.proofs.Kept.{kept_are_faults}
use Rattle.report.specs.Reports.{FindingFacts}
use Rattle.answer_text.specs.Known.{KnownVerdicts, Agrees}
use Rattle.campaign_core.specs.FaultTest.{fault_test}
use Rattle.campaign_core.specs.Findings.{reduction, plan_at, finding}
use Rattle.outside_campaign.specs.Outside.{Component, Components, say_each, EachAgrees}
use Rattle.outside_campaign.specs.Reached.{known_tests, place_of, open_sets, open_candidates}
use Rattle.outside_campaign.specs.Asked.{open_requests}
use Rattle.outside_campaign.specs.inside.Told.{told_of, IsLook, IsGathered}
use Rattle.outside_campaign.specs.declared.findings.Look.{Look}
use Rattle.outside_campaign.specs.declared.findings.Look.TheVariants as look
use Rattle.outside_campaign.proofs.Running.{reduced_is}

-- some component agrees with what is known
pub by_known : KnownVerdicts → Component
by_known known t = unwrap_or (known t) verdict.Unresolved

-- the same under each stream number
pub each_by_known : KnownVerdicts → Components
each_by_known known stream = by_known known

pub by_known_agrees : (known : KnownVerdicts) → Agrees (by_known known) known
unfolding by_known
by_known_agrees known s v ok is = rw is refl

pub each_by_known_agrees : (known : KnownVerdicts) → EachAgrees (each_by_known known) known
unfolding each_by_known
each_by_known_agrees known stream = by_known_agrees known

ascend : (low n : ℕ) (xs : List ℕ) → AllByRecursion (λ y. low ≤ y) xs → Ascends xs → AllByRecursion (λ y. y < n) xs → ascend_from low n xs ≡ true
ascend low n [] l a h = refl
ascend low n (x ∷ xs) l a h = faults_from low n x xs l.0 h.0 (ascend (x + 1) n xs (weaker (λ y. x < y) (λ y. x + 1 ≤ y) (λ y less. omega arith) xs a.0) a.1 h.1)

all_low : (xs : List ℕ) → AllByRecursion (λ y. 0 ≤ y) xs
all_low [] = tt
all_low (x ∷ xs) = (omega arith, all_low xs)

-- what a reduction keeps are faults
pub kept_faults : (known : KnownVerdicts) (code : ℕ) (s : Entries) (r : Reduced) → IsScenario s → place_of known code s ≡ End r → are_faults (all_faults s) r.kept ≡ true
kept_faults known code s r ok is =
    let test : List ℕ → _ = fault_test (say_each (each_by_known known) 0) code s in
    let a = kept_are_faults test (all_faults s) in
    let kept_of : List ℕ = (reduction (say_each (each_by_known known)) 0 code s).kept in
    let faults : are_faults (all_faults s) kept_of ≡ true = ascend 0 (all_faults s) kept_of (all_low kept_of) a.0 a.1 in
    let P : Reduced → Type 0 = λ x. are_faults (all_faults s) x.kept ≡ true in
    subst P (sym (reduced_is known code s r ok is (each_by_known known) (each_by_known_agrees known) 0)) faults

-- ---- the loop

pub record Gathering (known : KnownVerdicts) (plans : List Entries) (failures : List (ℕ × ℕ)) (i : ℕ) (findings : List FindingFacts) (requests : List Entries) : Type 0 where
  pub requests_are : requests ≡ open_requests known plans (take i failures)
  pub told : requests ≡ [] → (components : Components) → EachAgrees components known → findings ≡ map (finding (say_each components) plans) (take i failures)

map_push : (f : ℕ × ℕ → FindingFacts) (xs : List (ℕ × ℕ)) (x : ℕ × ℕ) → map f (xs ++ x ∷ []) ≡ map f xs ++ f x ∷ []
map_push f [] x = refl
map_push f (y ∷ ys) x = ap (λ (r : List FindingFacts). f y ∷ r) (map_push f ys x)

flat_push : (f : ℕ × ℕ → List Entries) (xs : List (ℕ × ℕ)) (x : ℕ × ℕ) → flat_map f (xs ++ x ∷ []) ≡ flat_map f xs ++ f x
flat_push f [] x = append-nil (f x)
flat_push f (y ∷ ys) x = ap (λ (r : List Entries). f y ++ r) (flat_push f ys x) ∙ sym (append_assoc (f y) (flat_map f ys) (f x))

not_empty : (xs ys : List Entries) → 0 < length ys → xs ++ ys ≡ [] → ⊥
not_empty [] [] some e = absurd (omega arith)
not_empty [] (y ∷ ys) some e = cc
not_empty (x ∷ xs) ys some e = cc

requests_more : (known : KnownVerdicts) (plans : List Entries) (failures : List (ℕ × ℕ)) (i : ℕ) (d : ℕ × ℕ) (s : Entries) → i < length failures → s ≡ plan_at plans (get_or failures i d).0
    → open_requests known plans (take (i + 1) failures) ≡ open_requests known plans (take i failures) ++ open_candidates known (get_or failures i d).1 s
requests_more known plans failures i d s less plan =
    let f : ℕ × ℕ = get_or failures i d in
    ap (open_requests known plans) (take_more failures i d less) ∙ flat_push (λ failure. open_candidates known failure.1 (plan_at plans failure.0)) (take i failures) f
    ∙ ap (λ (t : Entries). open_requests known plans (take i failures) ++ open_candidates known f.1 t) (sym plan)

pub gathers : (known : KnownVerdicts) (plans : List Entries) (failures : List (ℕ × ℕ)) (i : ℕ) (d : ℕ × ℕ) (s : Entries) (findings after : List FindingFacts) (requests requests' : List Entries) (l : Look) → i < length failures → s ≡ plan_at plans (get_or failures i d).0
    → Gathering known plans failures i findings requests → IsLook known (get_or failures i d).0 (get_or failures i d).1 s l → IsGathered findings after requests requests' l → Gathering known plans failures (i + 1) after requests'
gathers known plans failures i d s findings after requests requests' (look.Told x) less plan g told h = record {
  requests_are =
      h.1 ∙ g.requests_are ∙ sym (append-nil (open_requests known plans (take i failures))) ∙ ap (λ (r : List Entries). open_requests known plans (take i failures) ++ r) (sym told.0)
      ∙ sym (requests_more known plans failures i d s less plan);
  told = λ none components agrees.
      let f : ℕ × ℕ = get_or failures i d in
      let before = g.told (sym h.1 ∙ none) components agrees in
      let this : x ≡ finding (say_each components) plans f = told.1 components agrees ∙ ap (λ (t : Entries). told_of components f.0 f.1 t) plan in
      let more : take (i + 1) failures ≡ take i failures ++ f ∷ [] = take_more failures i d less in
      h.0 ∙ ap (λ (xs : List FindingFacts). xs ++ x ∷ []) before ∙ ap (λ (y : FindingFacts). map (finding (say_each components) plans) (take i failures) ++ y ∷ []) this
      ∙ sym (map_push (finding (say_each components) plans) (take i failures) f) ∙ ap (map (finding (say_each components) plans)) (sym more);
}
gathers known plans failures i d s findings after requests requests' (look.Open more) less plan g opens h = record {
  requests_are =
      h.1 ∙ ap (λ (r : List Entries). r ++ more.items) g.requests_are ∙ ap (λ (r : List Entries). open_requests known plans (take i failures) ++ r) opens.1
      ∙ sym (requests_more known plans failures i d s less plan);
  told = λ none. absurd (not_empty requests more.items opens.0 (sym h.1 ∙ none));
}

-- ---- one failure

abbrev facts : ℕ → ℕ → Entries → Entries → ℕ → FindingFacts
facts number code s t tests = record { number = number; code = code; scenario = s; reduced = t; tests = tests }

pub look_tells : (known : KnownVerdicts) (number code : ℕ) (s : Entries) (r : Reduced) (set : List ℕ) (k t : Entries) (tests : ℕ) → set ≡ r.kept → k ≡ kept set s → t ≡ tidied k → tests ≡ r.tests
    → IsScenario s → place_of known code s ≡ End r
    → (open_candidates known code s ≡ []) × ((components : Components) → EachAgrees components known → facts number code s t tests ≡ told_of components number code s)
look_tells known number code s r set k t tests set_is k_is t_is tests_is ok is =
    let open_at : Position → List Entries = λ p. map (λ x. tidied (kept x s)) (open_sets (known_tests known code s) (round_at p)) in (
      ap open_at is,
      λ components agrees.
          let e = reduced_is known code s r ok is components agrees number in
          let red : Reduced = reduction (say_each components) number code s in
          let first : t ≡ tidied (kept red.kept s) = t_is ∙ ap tidied k_is ∙ ap (λ (x : List ℕ). tidied (kept x s)) set_is ∙ ap (λ (x : Reduced). tidied (kept x.kept s)) e in
          let second : tests ≡ red.tests = tests_is ∙ ap (λ (x : Reduced). x.tests) e in
          ap (λ (x : Entries). facts number code s x tests) first ∙ ap (λ (x : ℕ). facts number code s (tidied (kept red.kept s)) x) second,
    )
