-- The causes by the verdicts that answers record are those of each component that agrees with them.
use Rattle.std.proofs.Common.{All, ◌≡◌, ℕ, zero, suc, ◌+◌, ◌<◌, ◌≤◌, Bool, true, false, cond, not, ◌&&◌, ◌||◌, ◌==◌, List, [], ◌∷◌, ◌++◌, length, map, get_or, refl, ap, sym, ◌∙◌, subst, arith}
use Rattle.std.specs.Prelude.{Option, Some, None, flat_map, is_none}
use Rattle.std.specs.List.{AllByRecursion, list_all}
use Rattle.std.proofs.lemmas.Bool.{eqb-true}
use Rattle.std.proofs.lemmas.List.Elements.{All-from_recursion}
use Rattle.scenario_values.specs.Scenario.{Entries, IsScenario}
use Rattle.scenario_values.specs.Tidied.{tidied}
use Rattle.scenario_values.proofs.Limits.{tidied_scenario}
use Rattle.action_eval.specs.Answers.{given_of}
use Rattle.action_eval.specs.Catalogue.{IsCatalogue}
use Rattle.action_eval.specs.RiggedScenario.{CanBeRigged, HasLawfulText, rigged_scenario}
use Rattle.action_eval.specs.SameMeaning.{MeansTheSame}
use Rattle.action_eval.specs.declared.rig.Rig.{Rig}
use Rattle.action_eval.proofs.Rigged.{rigged_scenario_keeps}
use Rattle.action_eval.proofs.RunLaws.{tidied_means}
use Rattle.target_trait.specs.Outcomes.{Told as Outcome, outcome}
use Rattle.target_trait.specs.declared.judgement.Verdict.{Verdict}
use Rattle.target_trait.specs.declared.judgement.Verdict.TheVariants.{Pass, Fail, Unresolved}
use Rattle.target_trait.proofs.Verdicts.{outcome_same}
use Rattle.grown_plans.specs.GrownPlans.{Subject, rigs_of}
use Rattle.grown_plans.specs.Promises.{lesser}
use Rattle.grown_plans.proofs.Members.{all_append, all_both, all_map, all_of, all_weaker}
use Rattle.grown_runs.specs.GrownRuns.{cause_at, cause_by, fails_with, over, told_of_rigs}
use Rattle.grown_runs.proofs.Lesser.{lesser_length}
use Rattle.answer_text.specs.Runs.{told_in}
use Rattle.answered_runs.specs.Answered.{Answered}
use Rattle.answered_runs.specs.Components.{AgreesWithRuns, IsComponent}
use Rattle.answered_runs.proofs.Known.{true_of}
use Rattle.answered_runs.specs.grown.Causes.{Verdicts, cause_known, is_failure, known_by, known_causes, one_fails, open_by, open_of, open_scenarios, rigged_in, unknown, verdicts_in}

-- ---- a verdict that is known

-- it is that of these runs
abbrev Tells : Verdicts → (List Rig → Verdict) → List Rig → Type 0
Tells known verdict rigs = (v : Verdict) → known rigs ≡ Some v → verdict rigs ≡ v

verdict_true : (t : Subject) (a : Answered) (depth : ℕ) → IsComponent a.points a.listed t → depth ≤ 64 → AgreesWithRuns t (told_in a.book) → (seed stream : ℕ) (rigs : List Rig) → CanBeRigged rigs
    → Tells (verdicts_in a depth) (λ rs. (told_of_rigs t seed stream rs).verdict) rigs
verdict_true t a depth is low agrees seed stream rigs can v e =
    ap (λ (names : List (List ℕ)). (outcome t.asks (given_of (rigged_scenario names rigs) t.names seed stream t.limit)).verdict) is.names
    ∙ ap (λ (x : Outcome). x.verdict) (sym (outcome_same t.asks t.names seed stream t.limit (tidied s) s (means.at t.names seed stream t.limit)))
    ∙ true_of t a.points a.listed (told_in a.book) depth is low agrees (tidied s) v (tidied_scenario s lawful) e seed stream
  where
    s : Entries
    s = rigged_scenario a.points rigs

    lawful : IsScenario s
    lawful = rigged_scenario_keeps a.points rigs (subst IsCatalogue is.names is.lawful.catalogue) can.0 can.1 can.2

    means : MeansTheSame (tidied s) s
    means = tidied_means s lawful.distinct_names

-- ---- with one rigged hit left out

lesser_small : (P : Rig → Type 0) (rs : List Rig) → AllByRecursion P rs → AllByRecursion (λ less. (length less ≤ length rs) × AllByRecursion P less) (lesser rs)
lesser_small P [] all = tt
lesser_small P (r ∷ rs) all = (
  (omega arith, all.1),
  all_map (λ (less : List Rig). (length less ≤ length (r ∷ rs)) × AllByRecursion P less) (λ less. r ∷ less) (lesser rs)
      (all_weaker (λ (less : List Rig). (length less ≤ length rs) × AllByRecursion P less) (λ (less : List Rig). (length (r ∷ less) ≤ length (r ∷ rs)) × AllByRecursion P (r ∷ less))
      (λ less h. (let le = h.0 in omega (arith, le), (all.0, h.1))) (lesser rs) (lesser_small P rs all.1)),
)

lesser_can : (rs : List Rig) → CanBeRigged rs → AllByRecursion (λ less. CanBeRigged less) (lesser rs)
lesser_can rs can =
    all_weaker (λ (less : List Rig). (length less ≤ length rs) × AllByRecursion IsSound less) (λ (less : List Rig). CanBeRigged less)
    (λ less h. (
      let le = h.0 in let few = can.0 in omega (arith, le, few),
      all_weaker IsSound (λ (r : Rig). r.site.hit < 4294967296) (λ r k. k.0) less h.1,
      all_weaker IsSound (λ (r : Rig). HasLawfulText r.kind) (λ r k. k.1) less h.1,
    )) (lesser rs) (lesser_small IsSound rs (all_both (λ (r : Rig). r.site.hit < 4294967296) (λ (r : Rig). HasLawfulText r.kind) rs can.1 can.2))
  where
    IsSound : Rig → Type 0
    IsSound r = (r.site.hit < 4294967296) × HasLawfulText r.kind

pub all_at : {A : Type 0} (P : A → Type 0) (xs : List A) (i : ℕ) (d : A) → i < length xs → AllByRecursion P xs → P (get_or xs i d)
all_at P [] i d lt all = absurd (omega (arith, lt))
all_at P (x ∷ xs) zero d lt all = all.0
all_at P (x ∷ xs) (suc i) d lt all = all_at P xs i d (omega (arith, lt)) all.1

pub left_few : (most : ℕ) (rs : List Rig) (i : ℕ) (less : List Rig) → i < length rs → less ≡ get_or (lesser rs) i [] → length rs ≤ most → length less ≤ most
left_few most rs i less lt is few =
    let many = lesser_length rs in
    let le : length (get_or (lesser rs) i []) ≤ length rs = all_at (λ (l : List Rig). length l ≤ length rs) (lesser rs) i [] (omega (arith, lt, many))
    (all_weaker (λ (l : List Rig). (length l ≤ length rs) × AllByRecursion (λ (r : Rig). Unit {0}) l) (λ (l : List Rig). length l ≤ length rs) (λ l h. h.0) (lesser rs)
    (lesser_small (λ (r : Rig). Unit {0}) rs (all_of (λ (r : Rig). Unit {0}) (λ r. tt) rs))) in
    let same = ap length is in
    omega (arith, le, same, few)

and_false : (a b : Bool) → b ≡ false → (a && b) ≡ false
and_false true b e = e
and_false false b e = refl

both : (a b : Bool) → a ≡ true → b ≡ true → (a && b) ≡ true
both true b e f = f
both false b e f = e

abbrev AreFine : ℕ → (List Rig → Verdict) → List (List Rig) → Bool
AreFine code verdict lists = list_all (λ rigs. not (fails_with code (verdict rigs))) lists

one_bad : (known : Verdicts) (code : ℕ) (verdict : List Rig → Verdict) (lists : List (List Rig)) → AllByRecursion (Tells known verdict) lists → one_fails known code lists ≡ true → AreFine code verdict lists ≡ false
one_bad known code verdict [] all e = absurd cc
one_bad known code verdict (l ∷ ls) all e = by_known (λ g. and_false (not (fails_with code (verdict l))) (AreFine code verdict ls) (one_bad known code verdict ls all.1 g)) (known l) refl e
  where
    Bad : Type 0
    Bad = (not (fails_with code (verdict l)) && AreFine code verdict ls) ≡ false

    by_test : (one_fails known code ls ≡ true → Bad) → (v : Verdict) → known l ≡ Some v → (b : Bool) → fails_with code v ≡ b → (b || one_fails known code ls) ≡ true → Bad
    by_test rest v f true h g = ap (λ (w : Verdict). not (fails_with code w) && AreFine code verdict ls) (all.0 v f) ∙ ap (λ (b : Bool). not b && AreFine code verdict ls) h
    by_test rest v f false h g = rest g

    by_known : (one_fails known code ls ≡ true → Bad) → (o : Option Verdict) → known l ≡ o → (is_failure code o || one_fails known code ls) ≡ true → Bad
    by_known rest None f g = rest g
    by_known rest (Some v) f g = by_test rest v f (fails_with code v) refl g

all_fine : (known : Verdicts) (code : ℕ) (verdict : List Rig → Verdict) (lists : List (List Rig)) → AllByRecursion (Tells known verdict) lists → unknown known lists ≡ [] → one_fails known code lists ≡ false → AreFine code verdict lists ≡ true
all_fine known code verdict [] all none e = refl
all_fine known code verdict (l ∷ ls) all none e = by_known (λ n g. all_fine known code verdict ls all.1 n g) (known l) refl none e
  where
    by_test : (unknown known ls ≡ [] → one_fails known code ls ≡ false → AreFine code verdict ls ≡ true) → (v : Verdict) → known l ≡ Some v → (b : Bool) → fails_with code v ≡ b → unknown known ls ≡ [] → (b || one_fails known code ls) ≡ false
        → (not (fails_with code (verdict l)) && AreFine code verdict ls) ≡ true
    by_test rest v f true h n g = absurd cc
    by_test rest v f false h n g = both (not (fails_with code (verdict l))) (AreFine code verdict ls) (ap (λ (w : Verdict). not (fails_with code w)) (all.0 v f) ∙ ap not h) (rest n g)

    by_known : (unknown known ls ≡ [] → one_fails known code ls ≡ false → AreFine code verdict ls ≡ true) → (o : Option Verdict) → known l ≡ o → cond (is_none o) (l ∷ unknown known ls) (unknown known ls) ≡ []
        → (is_failure code o || one_fails known code ls) ≡ false → (not (fails_with code (verdict l)) && AreFine code verdict ls) ≡ true
    by_known rest None f n g = absurd cc
    by_known rest (Some v) f n g = by_test rest v f (fails_with code v) refl n g

-- ---- a plan

cause_is : (t : Subject) (seed n : ℕ) (known : Verdicts) (rigs : List Rig) → Tells known (λ rs. (told_of_rigs t seed n rs).verdict) rigs → AllByRecursion (Tells known (λ rs. (told_of_rigs t seed n rs).verdict)) (lesser rigs)
    → open_by known rigs (known rigs) ≡ [] → known_by known n rigs (known rigs) ≡ cause_by t seed n rigs (told_of_rigs t seed n rigs).verdict
cause_is t seed n known rigs own all none = by_known (known rigs) refl none
  where
    by_fails : (code : ℕ) (b : Bool) → one_fails known code (lesser rigs) ≡ b → cond b [] (unknown known (lesser rigs)) ≡ [] → cond b [] ((n, code) ∷ []) ≡ cause_by t seed n rigs (Fail code)
    by_fails code true e f =
        sym (ap (λ (b : Bool). cond b ((n, code) ∷ []) []) (one_bad known code (λ (rs : List Rig). (told_of_rigs t seed n rs).verdict) (lesser rigs) all e))
    by_fails code false e f =
        sym (ap (λ (b : Bool). cond b ((n, code) ∷ []) []) (all_fine known code (λ (rs : List Rig). (told_of_rigs t seed n rs).verdict) (lesser rigs) all f e))

    by_known : (o : Option Verdict) → known rigs ≡ o → open_by known rigs o ≡ [] → known_by known n rigs o ≡ cause_by t seed n rigs (told_of_rigs t seed n rigs).verdict
    by_known None e f = absurd cc
    by_known (Some Pass) e f = sym (ap (cause_by t seed n rigs) (own Pass e))
    by_known (Some (Fail code)) e f = by_fails code (one_fails known code (lesser rigs)) refl f ∙ sym (ap (cause_by t seed n rigs) (own (Fail code) e))
    by_known (Some Unresolved) e f = sym (ap (cause_by t seed n rigs) (own Unresolved e))

-- ---- plans

over_is : {A : Type 0} (f g : ℕ → List Rig → List A) (plans : List (List Rig)) (first count : ℕ) → ((n : ℕ) → n < first + count → f n (get_or plans n []) ≡ g n (get_or plans n [])) → over f plans first count ≡ over g plans first count
over_is f g plans first zero h = refl
over_is {A} f g plans first (suc count) h =
    ap (λ (l : List A). l ++ over f plans (first + 1) count) (h first (omega arith))
    ∙ ap (λ (l : List A). g first (get_or plans first []) ++ l) (over_is f g plans (first + 1) count (λ n lt. h n (omega (arith, lt))))

map_none : {A B : Type 0} (f : A → B) (xs : List A) → map f xs ≡ [] → xs ≡ []
map_none f [] e = refl
map_none f (x ∷ xs) e = absurd cc

left_none : {A : Type 0} (xs ys : List A) → xs ++ ys ≡ [] → (xs ≡ []) × (ys ≡ [])
left_none [] ys e = (refl, e)
left_none (x ∷ xs) ys e = absurd cc

flat_none : {A B : Type 0} (f : A → List B) (xs : List A) → flat_map f xs ≡ [] → AllByRecursion (λ x. f x ≡ []) xs
flat_none f [] e = tt
flat_none f (x ∷ xs) e = let parts = left_none (f x) (flat_map f xs) e in (parts.0, flat_none f xs parts.1)

pub none_open : (a : Answered) (depth : ℕ) (plans : List (List Rig)) (waiting : List Entries) (n : ℕ) → (n == 0) ≡ true → n ≡ length waiting → waiting ≡ open_scenarios a depth plans → open_scenarios a depth plans ≡ []
none_open a depth plans waiting n zeroth many are = sym are ∙ none_of waiting (let e = eqb-true n 0 zeroth in omega (arith, e, many))
  where
    none_of : (xs : List Entries) → length xs ≡ 0 → xs ≡ []
    none_of [] e = refl
    none_of (x ∷ xs) e = absurd (omega (arith, e))

pub causes_true : (t : Subject) (a : Answered) (depth : ℕ) (plans : List (List Rig)) (causes : List (ℕ × ℕ)) → IsComponent a.points a.listed t → depth ≤ 64 → AgreesWithRuns t (told_in a.book)
    → AllByRecursion (λ plan. CanBeRigged (rigs_of plan)) plans → open_scenarios a depth plans ≡ [] → causes ≡ known_causes (verdicts_in a depth) plans
    → (seed : ℕ) → causes ≡ over (cause_at t seed) plans 0 (length plans)
causes_true t a depth plans causes is low agrees can none found seed =
    found ∙ over_is (cause_known known) (cause_at t seed) plans 0 (length plans) each
  where
    known : Verdicts
    known = verdicts_in a depth

    closed : AllByRecursion (λ plan. open_of known plan ≡ []) plans
    closed = flat_none (open_of known) plans (map_none (rigged_in a) (flat_map (open_of known) plans) none)

    at : (n : ℕ) (plan : List Rig) → CanBeRigged (rigs_of plan) → open_of known plan ≡ [] → cause_known known n plan ≡ cause_at t seed n plan
    at n plan able closed =
        cause_is t seed n known (rigs_of plan) (verdict_true t a depth is low agrees seed n (rigs_of plan) able)
        (all_weaker (λ (less : List Rig). CanBeRigged less) (Tells known (λ (rs : List Rig). (told_of_rigs t seed n rs).verdict)) (verdict_true t a depth is low agrees seed n) (lesser (rigs_of plan))
        (lesser_can (rigs_of plan) able))
        closed

    each : (n : ℕ) → n < 0 + length plans → cause_known known n (get_or plans n []) ≡ cause_at t seed n (get_or plans n [])
    each n lt =
        let less : n < length plans = omega (arith, lt) in
        at n (get_or plans n []) (all_at (λ (plan : List Rig). CanBeRigged (rigs_of plan)) plans n [] less can) (all_at (λ (plan : List Rig). open_of known plan ≡ []) plans n [] less closed)

-- ---- each is a plan of the list

own_below : (known : Verdicts) (n m : ℕ) → n < m → (rigs : List Rig) (o : Option Verdict) → AllByRecursion (λ c. c.0 < m) (known_by known n rigs o)
own_below known n m lt rigs None = tt
own_below known n m lt rigs (Some Pass) = tt
own_below known n m lt rigs (Some (Fail code)) = by_test (one_fails known code (lesser rigs))
  where
    by_test : (b : Bool) → AllByRecursion (λ (c : ℕ × ℕ). c.0 < m) (cond b [] ((n, code) ∷ []))
    by_test true = tt
    by_test false = (lt, tt)
own_below known n m lt rigs (Some Unresolved) = tt

causes_below : (known : Verdicts) (plans : List (List Rig)) (first count m : ℕ) → first + count ≤ m → AllByRecursion (λ c. c.0 < m) (over (cause_known known) plans first count)
causes_below known plans first zero m fit = tt
causes_below known plans first (suc count) m fit =
    all_append (λ (c : ℕ × ℕ). c.0 < m) (cause_known known first (get_or plans first [])) (over (cause_known known) plans (first + 1) count)
    (own_below known first m (omega (arith, fit)) (rigs_of (get_or plans first [])) (known (rigs_of (get_or plans first [])))) (causes_below known plans (first + 1) count m (omega (arith, fit)))

pub causes_listed : (known : Verdicts) (plans : List (List Rig)) (causes : List (ℕ × ℕ)) → causes ≡ known_causes known plans → All (λ c. c.0 < length plans) causes
causes_listed known plans causes are =
    subst (λ (cs : List (ℕ × ℕ)). All (λ c. c.0 < length plans) cs) (sym are)
    (All-from_recursion (λ (c : ℕ × ℕ). c.0 < length plans) (known_causes known plans) (causes_below known plans 0 (length plans) (length plans) (omega arith)))
