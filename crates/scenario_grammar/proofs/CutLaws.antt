-- Texts cut at their first c.
use Rattle.std.proofs.Common.{◌≡◌, ◌≢◌, ℕ, suc, ◌<◌, List, [], ◌∷◌, ◌++◌, Bool, true, false, ◌&&◌, not, eqb, length, get_or, Option, Some, None, Bor, refl, ap, sym, ◌∙◌, arith, subst, cond}
use Rattle.std.specs.Option.{unwrap_or}
use Rattle.std.specs.List.{list_all}
use Rattle.std.specs.Option.{option_map}
use Rattle.std.proofs.lemmas.Bool.Decides.{nat_tests}
use Rattle.std.proofs.lemmas.Str.Pattern.{IsSplitOnceResult, split_parts}
use Rattle.scenario_grammar.specs.Words.{cut}
use Rattle.scenario_values.specs.Words.{lacks}

pub and_true : (a b : Bool) → (a && b) ≡ true → (a ≡ true) × (b ≡ true)
and_true true b h = (refl, h)
and_true false b h = absurd (cc)

pub and_both : (a b : Bool) → a ≡ true → b ≡ true → (a && b) ≡ true
and_both a b p q = rw (p, q) refl

pub same_byte : (b : ℕ) → eqb b b ≡ true
same_byte b = grind (arith, nat_tests)

pub not_false : (b : Bool) → not b ≡ true → b ≡ false
not_false true h = absurd (cc)
not_false false h = refl

pub byte_is : (b c : ℕ) → eqb b c ≡ true → b ≡ c
byte_is b c h = grind (arith, nat_tests)

pub all_implies : (p q : ℕ → Bool) → ((b : ℕ) → p b ≡ true → q b ≡ true) → (xs : List ℕ) → list_all p xs ≡ true → list_all q xs ≡ true
all_implies p q f [] h = refl
all_implies p q f (b ∷ xs) h = let parts = and_true (p b) (list_all p xs) h in and_both (q b) (list_all q xs) (f b parts.0) (all_implies p q f xs parts.1)

pub all_append : (p : ℕ → Bool) (xs ys : List ℕ) → list_all p xs ≡ true → list_all p ys ≡ true → list_all p (xs ++ ys) ≡ true
all_append p [] ys h k = k
all_append p (b ∷ xs) ys h k = let parts = and_true (p b) (list_all p xs) h in and_both (p b) (list_all p (xs ++ ys)) parts.0 (all_append p xs ys parts.1 k)

pub lacks_by_index : (c : ℕ) (xs : List ℕ) → ((i : ℕ) → i < length xs → get_or xs i 0 ≢ c) → lacks c xs ≡ true
lacks_by_index c [] h = refl
lacks_by_index c (b ∷ xs) h = and_both (not (eqb b c)) (lacks c xs) (differs b c (h 0 (omega arith))) (lacks_by_index c xs (λ i less. h (suc i) (omega arith)))
  where
    differs : (b c : ℕ) → b ≢ c → not (eqb b c) ≡ true
    differs b c h = grind (arith, nat_tests)

pub cut_lacks : (c : ℕ) (text : List ℕ) → lacks c text ≡ true → cut c text ≡ None
cut_lacks c [] h = refl
cut_lacks c (b ∷ text) h =
    let parts = and_true (not (eqb b c)) (lacks c text) h in
    rw (not_false (eqb b c) parts.0, cut_lacks c text parts.1) refl

pub cut_at : (c : ℕ) (front rest : List ℕ) → lacks c front ≡ true → cut c (front ++ (c ∷ rest)) ≡ Some (front, rest)
cut_at c [] rest h = rw (same_byte c) refl
cut_at c (b ∷ front) rest h =
    let parts = and_true (not (eqb b c)) (lacks c front) h in
    rw (not_false (eqb b c) parts.0, cut_at c front rest parts.1) refl

-- the parts of equal pairs
pub front_of : {A B : Type 0} (p q : A × B) → Some p ≡ Some q → p.0 ≡ q.0
front_of p q h = ap (λ o. (unwrap_or o p).0) h

pub rest_of : {A B : Type 0} (p q : A × B) → Some p ≡ Some q → p.1 ≡ q.1
rest_of p q h = ap (λ o. (unwrap_or o p).1) h

pub cut_gives : (c : ℕ) (text front rest : List ℕ) → cut c text ≡ Some (front, rest) → text ≡ front ++ (c ∷ rest)
cut_gives c [] front rest h = absurd (cc)
cut_gives c (b ∷ text) front rest h = step b (eqb b c) (byte_is b c) (cut c text) (cut_gives c text) h
  where
    step : (b : ℕ) (t : Bool) → (t ≡ true → b ≡ c) → (r : Option (List ℕ × List ℕ)) → ((f k : List ℕ) → r ≡ Some (f, k) → text ≡ f ++ (c ∷ k)) → cond {A = Option (List ℕ × List ℕ)} t (Some ([], text)) (option_map (λ parts. (b ∷ parts.0, parts.1)) r) ≡ Some (front, rest) → (b ∷ text) ≡ front ++ (c ∷ rest)
    step b true is r ih h =
        let e : b ≡ c = is refl in
        let front_is : [] ≡ front = front_of ([], text) (front, rest) h in
        let rest_is : text ≡ rest = rest_of ([], text) (front, rest) h in
        ap (λ (x : ℕ). x ∷ text) e ∙ ap (λ (x : List ℕ). x ++ (c ∷ text)) front_is ∙ ap (λ (y : List ℕ). front ++ (c ∷ y)) rest_is
    step b false is None ih h = absurd (cc)
    step b false is (Some (f, k)) ih h =
        let front_is : (b ∷ f) ≡ front = front_of (b ∷ f, k) (front, rest) h in
        let rest_is : k ≡ rest = rest_of (b ∷ f, k) (front, rest) h in
        ap (λ (x : List ℕ). b ∷ x) (ih f k refl) ∙ ap (λ (x : List ℕ). x ++ (c ∷ k)) front_is ∙ ap (λ (y : List ℕ). front ++ (c ∷ y)) rest_is

-- what `split_once` says at a character
pub cut_by_split_once : (c : ℕ) (text : List ℕ) (r : Option (Bor (List ℕ) × Bor (List ℕ))) → c < 128 → IsSplitOnceResult c text r → option_map (λ x. (x.0.now, x.1.now)) r ≡ cut c text
cut_by_split_once c text None small h = sym (cut_lacks c text (lacks_by_index c text (split_parts c text None h small)))
cut_by_split_once c text (Some x) small h =
    let parts = split_parts c text (Some x) h small in
    sym (ap (cut c) parts.0 ∙ cut_at c x.0.now x.1.now (lacks_by_index c x.0.now parts.1))

pub cut_front_lacks : (c : ℕ) (text front rest : List ℕ) → cut c text ≡ Some (front, rest) → lacks c front ≡ true
cut_front_lacks c [] front rest h = absurd (cc)
cut_front_lacks c (b ∷ text) front rest h = step b (eqb b c) refl (cut c text) (cut_front_lacks c text) h
  where
    P : List ℕ → Type 0
    P x = lacks c x ≡ true

    step : (b : ℕ) (t : Bool) → eqb b c ≡ t → (r : Option (List ℕ × List ℕ)) → ((f k : List ℕ) → r ≡ Some (f, k) → lacks c f ≡ true) → cond {A = Option (List ℕ × List ℕ)} t (Some ([], text)) (option_map (λ parts. (b ∷ parts.0, parts.1)) r) ≡ Some (front, rest) → lacks c front ≡ true
    step b true is r ih h = subst P (front_of ([], text) (front, rest) h) refl
    step b false is None ih h = absurd (cc)
    step b false is (Some (f, k)) ih h = subst P (front_of (b ∷ f, k) (front, rest) h) (and_both (not (eqb b c)) (lacks c f) (rw is refl) (ih f k refl))
