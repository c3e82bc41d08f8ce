-- Which lines a list has, by recursion, and the first that names a scenario.
use Rattle.std.proofs.Common.{◌≡◌, ℕ, zero, suc, ◌+◌, ◌<◌, List, [], ◌∷◌, ◌++◌, Bool, true, false, eqb, cond, length, get_or, Option, Some, None, refl, ap, sym, ◌∙◌, arith, subst, ◌⊎◌, inl, inr}
use Rattle.std.specs.Prelude.{Contains}
use Rattle.std.specs.List.{AllByRecursion}
use Rattle.std.specs.Str.{bytes_eq}
use Rattle.std.proofs.lemmas.Slice.Eq.{bytes_eq-Decides}
use Rattle.std.proofs.lemmas.Bool.Decides.{nat_tests}
use Rattle.scenario_values.specs.Printed.{printed}
use Rattle.scenario_values.specs.Scenario.{Entries, IsScenario}
use Rattle.scenario_grammar.proofs.CutLaws.{and_true, and_both}
use Rattle.scenario_grammar.proofs.RoundTrip.{printed_again}
use Rattle.scenario_grammar.proofs.TextSound.{yes_is}
use Rattle.scenario_grammar.specs.FirstFault.{reading}
use Rattle.target_trait.specs.declared.judgement.Verdict.{Verdict}
use Rattle.target_trait.specs.declared.judgement.Verdict.TheVariants as verdict
use Rattle.answer_text.specs.declared.hits.Stretch.{Stretch}
use Rattle.answer_text.specs.declared.runs.RunLine.{RunLine}
use Rattle.answer_text.specs.declared.runs.ToldRun.{ToldRun}
use Rattle.answer_text.specs.Answers.{AreConsistent}
use Rattle.answer_text.specs.Hits.{are_same, same_hits, stretch}
use Rattle.answer_text.specs.Runs.{first_told, is_repeated, run_line, same_verdict, told_run}

abbrev pub Has : List RunLine → RunLine → Type 0
Has [] x = ⊥
Has (a ∷ more) x = (a ≡ x) ⊎ Has more x

has_at : (xs : List RunLine) (x : RunLine) (k : ℕ) → k < length xs → get_or xs k x ≡ x → Has xs x
has_at [] x k less e = absurd (omega arith)
has_at (a ∷ more) x zero less e = inl e
has_at (a ∷ more) x (suc k) less e = inr (has_at more x k (omega arith) e)

pub has_of : (xs : List RunLine) (x : RunLine) → Contains xs x → Has xs x
has_of xs x h = has_at xs x h.0 h.1 h.2

pub contains_of : (xs : List RunLine) (x : RunLine) → Has xs x → Contains xs x
contains_of [] x h = absurd h
contains_of (a ∷ more) x (inl e) = (0, omega arith, e)
contains_of (a ∷ more) x (inr h) = let r = contains_of more x h in (suc r.0, (let less : r.0 < length more = r.1 in omega arith), r.2)

pub has_left : (xs ys : List RunLine) (x : RunLine) → Has xs x → Has (xs ++ ys) x
has_left [] ys x h = absurd h
has_left (a ∷ more) ys x (inl e) = inl e
has_left (a ∷ more) ys x (inr h) = inr (has_left more ys x h)

pub has_right : (xs ys : List RunLine) (x : RunLine) → Has ys x → Has (xs ++ ys) x
has_right [] ys x h = h
has_right (a ∷ more) ys x h = inr (has_right more ys x h)

pub has_either : (xs ys : List RunLine) (x : RunLine) → Has (xs ++ ys) x → Has xs x ⊎ Has ys x
has_either [] ys x h = inr h
has_either (a ∷ more) ys x (inl e) = inl (inl e)
has_either (a ∷ more) ys x (inr h) = elim (has_either more ys x h) [ inl k ↦ inl (inr k) | inr k ↦ inr k ]

-- ---- verdicts and hits

verdict_is : (v w : Verdict) → same_verdict v w ≡ true → v ≡ w
verdict_is verdict.Pass verdict.Pass h = refl
verdict_is verdict.Pass (verdict.Fail n) h = absurd cc
verdict_is verdict.Pass verdict.Unresolved h = absurd cc
verdict_is (verdict.Fail m) verdict.Pass h = absurd cc
verdict_is (verdict.Fail m) (verdict.Fail n) h = ap (λ (k : ℕ). verdict.Fail k) (grind (arith, nat_tests))
verdict_is (verdict.Fail m) verdict.Unresolved h = absurd cc
verdict_is verdict.Unresolved verdict.Pass h = absurd cc
verdict_is verdict.Unresolved (verdict.Fail n) h = absurd cc
verdict_is verdict.Unresolved verdict.Unresolved h = refl

same_number : (n : ℕ) → eqb n n ≡ true
same_number n = grind (arith, nat_tests)

number_is : (m n : ℕ) → eqb m n ≡ true → m ≡ n
number_is m n h = grind (arith, nat_tests)

verdict_itself : (v : Verdict) → same_verdict v v ≡ true
verdict_itself verdict.Pass = refl
verdict_itself (verdict.Fail n) = same_number n
verdict_itself verdict.Unresolved = refl

stretches_are : (a b : List Stretch) → are_same a b ≡ true → a ≡ b
stretches_are [] [] h = refl
stretches_are [] (t ∷ ts) h = absurd cc
stretches_are (s ∷ ss) [] h = absurd cc
stretches_are (s ∷ ss) (t ∷ ts) h =
    let both = and_true _ _ h in
    let numbers = and_true _ _ both.0 in
    let points : s.point ≡ t.point = number_is s.point t.point numbers.0 in
    let counts : s.count ≡ t.count = number_is s.count t.count numbers.1 in
    ap (λ (p : ℕ). stretch p s.count ∷ ss) points ∙ ap (λ (n : ℕ). stretch t.point n ∷ ss) counts ∙ ap (λ (more : List Stretch). t ∷ more) (stretches_are ss ts both.1)

stretches_themselves : (a : List Stretch) → are_same a a ≡ true
stretches_themselves [] = refl
stretches_themselves (s ∷ ss) = and_both _ _ (and_both _ _ (same_number s.point) (same_number s.count)) (stretches_themselves ss)

hits_are : (a b : Option (List Stretch)) → same_hits a b ≡ true → a ≡ b
hits_are None None h = refl
hits_are None (Some b) h = absurd cc
hits_are (Some a) None h = absurd cc
hits_are (Some a) (Some b) h = ap (λ (x : List Stretch). Some x) (stretches_are a b h)

hits_themselves : (a : Option (List Stretch)) → same_hits a a ≡ true
hits_themselves None = refl
hits_themselves (Some a) = stretches_themselves a

-- what is told is what a line tells
pub record IsOf (told : ToldRun) (r : RunLine) : Type 0 where
  pub verdict_is : told.verdict ≡ r.verdict
  pub hits_are : told.hits ≡ r.hits

pub repeated_is : (told : ToldRun) (r : RunLine) → is_repeated told r ≡ true → IsOf told r
repeated_is told r h = let both = and_true _ _ h in record { verdict_is = verdict_is told.verdict r.verdict both.0; hits_are = hits_are told.hits r.hits both.1 }

pub is_repeated_of : (told : ToldRun) (r : RunLine) → IsOf told r → is_repeated told r ≡ true
is_repeated_of told r h =
    and_both _ _ (ap (λ (v : Verdict). same_verdict v r.verdict) h.verdict_is ∙ verdict_itself r.verdict)
    (ap (λ (x : Option (List Stretch)). same_hits x r.hits) h.hits_are ∙ hits_themselves r.hits)

run_is : (r q : RunLine) → r.scenario ≡ q.scenario → r.verdict ≡ q.verdict → r.hits ≡ q.hits → r ≡ q
run_is r q s v h =
    ap (λ (x : Entries). run_line x r.verdict r.hits) s ∙ ap (λ (x : Verdict). run_line q.scenario x r.hits) v
    ∙ ap (λ (x : Option (List Stretch)). run_line q.scenario q.verdict x) h

-- ---- what is told first

pub record Gave (runs : List RunLine) (key : List ℕ) (told : ToldRun) : Type 0 where
  pub run : RunLine
  pub has : Has runs run
  pub key_is : key ≡ printed run.scenario
  pub told_is : IsOf told run

some_told : (t u : ToldRun) → Some t ≡ Some u → t ≡ u
some_told t u e = cc

pub told_gives : (n : ℕ) (runs : List RunLine) (key : List ℕ) (told : ToldRun) → first_told n runs key ≡ Some told → Gave runs key told
unfolding first_told
told_gives n [] key told h = absurd cc
told_gives n (a ∷ more) key told h = by_test (bytes_eq key (printed a.scenario)) refl (told_gives (n + 1) more key told) h
  where
    by_test : (t : Bool) → bytes_eq key (printed a.scenario) ≡ t → (first_told (n + 1) more key ≡ Some told → Gave more key told) → cond t (Some (told_run n a)) (first_told (n + 1) more key) ≡ Some told → Gave (a ∷ more) key told
    by_test true is later e =
        let same : told ≡ told_run n a = sym (some_told (told_run n a) told e) in
        record {
          run = a;
          has = inl refl;
          key_is = (bytes_eq-Decides key (printed a.scenario)).0 is;
          told_is = record { verdict_is = ap (λ (t : ToldRun). t.verdict) same; hits_are = ap (λ (t : ToldRun). t.hits) same };
        }
    by_test false is later e = let g = later e in record { run = g.run; has = inr g.has; key_is = g.key_is; told_is = g.told_is }

no_both : (t : Bool) → t ≡ false → t ≡ true → ⊥
no_both t e f = cc

pub told_has : (n : ℕ) (runs : List RunLine) (r : RunLine) → Has runs r → (told : ToldRun) × (first_told n runs (printed r.scenario) ≡ Some told)
unfolding first_told
told_has n [] r h = absurd h
told_has n (a ∷ more) r h = by_test (bytes_eq (printed r.scenario) (printed a.scenario)) refl (told_has (n + 1) more r) h
  where
    by_test : (t : Bool) → bytes_eq (printed r.scenario) (printed a.scenario) ≡ t → (Has more r → (told : ToldRun) × (first_told (n + 1) more (printed r.scenario) ≡ Some told)) → (a ≡ r) ⊎ Has more r
        → (told : ToldRun) × (cond t (Some (told_run n a)) (first_told (n + 1) more (printed r.scenario)) ≡ Some told)
    by_test true is later k = (told_run n a, refl)
    by_test false is later (inl e) =
        let same : printed r.scenario ≡ printed a.scenario = ap (λ (x : RunLine). printed x.scenario) (sym e) in
        absurd (no_both (bytes_eq (printed r.scenario) (printed a.scenario)) is ((bytes_eq-Decides (printed r.scenario) (printed a.scenario)).1 same))
    by_test false is later (inr k) = later k

-- each scenario has a printed form of its own
pub same_printed : (s t : Entries) → IsScenario s → IsScenario t → printed s ≡ printed t → s ≡ t
same_printed s t h k e = yes_is s t (sym (printed_again s h) ∙ ap reading e ∙ printed_again t k)

-- ---- lawful and consistent lists

abbrev pub AreLawful : List RunLine → Type 0
AreLawful runs = AllByRecursion (λ r. IsScenario r.scenario) runs

pub lawful_has : (runs : List RunLine) (x : RunLine) → AreLawful runs → Has runs x → IsScenario x.scenario
lawful_has [] x h k = absurd k
lawful_has (a ∷ more) x h (inl e) = let P : RunLine → Type 0 = λ y. IsScenario y.scenario in subst P e h.0
lawful_has (a ∷ more) x h (inr k) = lawful_has more x h.1 k

pub lawful_push : (runs : List RunLine) (a : RunLine) → AreLawful runs → IsScenario a.scenario → AreLawful (runs ++ a ∷ [])
lawful_push [] a h k = (k, tt)
lawful_push (b ∷ more) a h k = (h.0, lawful_push more a h.1 k)

-- no scenario is told in two ways
abbrev pub HasOne : List RunLine → Type 0
HasOne runs = (r q : RunLine) → Has runs r → Has runs q → r.scenario ≡ q.scenario → r ≡ q

pub consistent_of : (runs : List RunLine) → HasOne runs → AreConsistent runs
consistent_of runs h r q k l = h r q (has_of runs r k) (has_of runs q l)

pub one_of : (runs : List RunLine) → AreConsistent runs → HasOne runs
one_of runs h r q k l = h r q (contains_of runs r k) (contains_of runs q l)

-- what is told of a scenario is its one line
pub told_is : (runs : List RunLine) (n : ℕ) (r : RunLine) (told : ToldRun) → AreLawful runs → HasOne runs → IsScenario r.scenario → Has runs r → first_told n runs (printed r.scenario) ≡ Some told → IsOf told r
told_is runs n r told lawful one ok has e =
    let g = told_gives n runs (printed r.scenario) told e in
    let same : g.run.scenario ≡ r.scenario = sym (same_printed r.scenario g.run.scenario ok (lawful_has runs g.run lawful g.has) g.key_is) in
    subst (IsOf told) (one g.run r g.has has same) g.told_is

-- one more line that doesn't contradict
abbrev pub Allows : Option ToldRun → RunLine → Type 0
Allows None r = Unit {0}
Allows (Some told) r = IsOf told r

last_is : (a r : RunLine) → Has (a ∷ []) r → a ≡ r
last_is a r (inl e) = e
last_is a r (inr h) = absurd h

pub one_push : (runs : List RunLine) (n : ℕ) (a : RunLine) (o : Option ToldRun) → AreLawful runs → IsScenario a.scenario → HasOne runs → first_told n runs (printed a.scenario) ≡ o → Allows o a → HasOne (runs ++ a ∷ [])
one_push runs n a o lawful ok one is allows r q h k same = elim (has_either runs (a ∷ []) r h) [
  | inl hr ↦ elim (has_either runs (a ∷ []) q k) [
    | inl hq ↦ one r q hr hq same
    | inr hq ↦ let e = last_is a q hq in old_new r hr (same ∙ ap (λ (x : RunLine). x.scenario) (sym e)) ∙ e
  ]
  | inr hr ↦ elim (has_either runs (a ∷ []) q k) [
    | inl hq ↦ let e = last_is a r hr in sym (old_new q hq (sym same ∙ ap (λ (x : RunLine). x.scenario) (sym e)) ∙ e)
    | inr hq ↦ sym (last_is a r hr) ∙ last_is a q hq
  ]
]
  where
    by_told : (r : RunLine) → Has runs r → r.scenario ≡ a.scenario → (o : Option ToldRun) → first_told n runs (printed a.scenario) ≡ o → Allows o a → r ≡ a
    by_told r has same None is allows =
        let some = told_has n runs r has in
        absurd (cc (ap (λ (s : Entries). first_told n runs (printed s)) same, is, some.1))
    by_told r has same (Some told) is allows =
        let there : first_told n runs (printed r.scenario) ≡ Some told = ap (λ (s : Entries). first_told n runs (printed s)) same ∙ is in
        let mine = told_is runs n r told lawful one (lawful_has runs r lawful has) has there in
        run_is r a same (sym mine.verdict_is ∙ allows.verdict_is) (sym mine.hits_are ∙ allows.hits_are)

    old_new : (r : RunLine) → Has runs r → r.scenario ≡ a.scenario → r ≡ a
    old_new r has same = by_told r has same o is allows
