-- Lines of texts, and lines that are put behind others.
use Rattle.std.proofs.Common.{◌≡◌, ◌≢◌, ◌∙◌, ℕ, suc, ◌+◌, ◌<◌, Bool, true, false, not, cond, eqb, ltb, List, [], ◌∷◌, ◌++◌, Option, Some, None, length, take, drop, refl, ap, sym, arith}
use Rattle.std.specs.List.{concat, list_any, position_or_len}
use Rattle.std.specs.Prelude.{position}
use Rattle.std.specs.Str.{bytes_eq}
use Rattle.std.proofs.lemmas.Bool.{false≢true}
use Rattle.std.proofs.lemmas.Bool.Decides.{nat_tests}
use Rattle.std.proofs.lemmas.List.{append-nil}
use Rattle.std.proofs.lemmas.List.Folds.{concat-append}
use Rattle.indexmap.specs.IndexSet.{insert_key}
use Rattle.campaign_main.specs.Following.{lines_in, put_first}

abbrev is_feed : ℕ → Bool
is_feed byte = eqb byte 10

less_more : (m n : ℕ) → ltb (suc m) (suc n) ≡ ltb m n
less_more m n = grind (arith, nat_tests)

zero_less : (n : ℕ) → ltb 0 (suc n) ≡ true
zero_less n = grind (arith, nat_tests)

one_more : (n : ℕ) → 1 + n ≡ suc n
one_more n = omega arith

longer : (byte : ℕ) (text : List ℕ) (n : ℕ) → take ((1 + n) + 1) (byte ∷ text) ≡ byte ∷ take (n + 1) text
longer byte text n = let e : (1 + n) + 1 ≡ suc (n + 1) = omega arith in ap (λ (k : ℕ). take k (byte ∷ text)) e

shorter : (byte : ℕ) (text : List ℕ) (n : ℕ) → drop ((1 + n) + 1) (byte ∷ text) ≡ drop (n + 1) text
shorter byte text n = let e : (1 + n) + 1 ≡ suc (n + 1) = omega arith in ap (λ (k : ℕ). drop k (byte ∷ text)) e

-- the lines of a text with a line feed
cut : (text : List ℕ) → ltb (position_or_len is_feed text) (length text) ≡ true
    → lines_in text ≡ take (position_or_len is_feed text + 1) text ∷ lines_in (drop (position_or_len is_feed text + 1) text)
cut [] there = absurd (false≢true there)
cut (byte ∷ text) there = by_test (eqb byte 10) there (λ h. cut text h)
  where
    n : ℕ
    n = position_or_len is_feed text

    by_test : (t : Bool) → ltb (cond (not t) (1 + position_or_len is_feed text) 0) (suc (length text)) ≡ true
        → (ltb (position_or_len is_feed text) (length text) ≡ true → lines_in text ≡ take (position_or_len is_feed text + 1) text ∷ lines_in (drop (position_or_len is_feed text + 1) text))
        → cond t ((byte ∷ []) ∷ lines_in text) (put_first byte (lines_in text))
        ≡ take (cond (not t) (1 + position_or_len is_feed text) 0 + 1) (byte ∷ text) ∷ lines_in (drop (cond (not t) (1 + position_or_len is_feed text) 0 + 1) (byte ∷ text))
    by_test true h later = refl
    by_test false h later =
        let n = position_or_len is_feed text in
        rw (longer byte text n, shorter byte text n, later (sym (less_more n (length text)) ∙ ap (λ (k : ℕ). ltb k (suc (length text))) (sym (one_more n)) ∙ h)) refl

-- and of one without
whole : (byte : ℕ) (text : List ℕ) → ltb (position_or_len is_feed (byte ∷ text)) (suc (length text)) ≡ false → lines_in (byte ∷ text) ≡ (byte ∷ text) ∷ []
whole byte [] none = by_test (eqb byte 10) none
  where
    by_test : (t : Bool) → ltb (cond (not t) (1 + 0) 0) 1 ≡ false → cond t ((byte ∷ []) ∷ []) (put_first byte []) ≡ (byte ∷ []) ∷ []
    by_test true h = refl
    by_test false h = refl
whole byte (b ∷ text) none = by_test (eqb byte 10) none (whole b text)
  where
    by_test : (t : Bool) → ltb (cond (not t) (1 + position_or_len is_feed (b ∷ text)) 0) (suc (suc (length text))) ≡ false
        → (ltb (position_or_len is_feed (b ∷ text)) (suc (length text)) ≡ false → lines_in (b ∷ text) ≡ (b ∷ text) ∷ [])
        → cond t ((byte ∷ []) ∷ lines_in (b ∷ text)) (put_first byte (lines_in (b ∷ text))) ≡ (byte ∷ (b ∷ text)) ∷ []
    by_test true h later = absurd (false≢true (sym h ∙ zero_less (suc (length text))))
    by_test false h later =
        let n = position_or_len is_feed (b ∷ text) in
        let less = sym (less_more n (suc (length text))) ∙ ap (λ (k : ℕ). ltb k (suc (suc (length text)))) (sym (one_more n)) ∙ h in
        ap (put_first byte) (later less)

some_is : (b : Bool) (m n : ℕ) → cond {A = Option ℕ} b (Some m) None ≡ Some n → (b ≡ true) × (m ≡ n)
some_is true m n e = (refl, ap (λ (o : Option ℕ). unwrap o) e)
  where
    unwrap : Option ℕ → ℕ
    unwrap (Some k) = k
    unwrap None = m
some_is false m n e = cc

none_is : (b : Bool) (m : ℕ) → cond {A = Option ℕ} b (Some m) None ≡ None → b ≡ false
none_is true m e = cc
none_is false m e = refl

pub cut-at : (text : List ℕ) (n : ℕ) → Some n ≡ position is_feed text → lines_in text ≡ take (n + 1) text ∷ lines_in (drop (n + 1) text)
cut-at text n e =
    let (there, is) = some_is (ltb (position_or_len is_feed text) (length text)) (position_or_len is_feed text) n (sym e) in
    cut text there ∙ ap (λ (k : ℕ). take (k + 1) text ∷ lines_in (drop (k + 1) text)) is

pub cut-none : (text : List ℕ) → 0 < length text → None ≡ position is_feed text → lines_in text ≡ text ∷ []
cut-none [] some e = let n : ⊥ = omega (arith, some) in absurd n
cut-none (byte ∷ text) some e = whole byte text (none_is (ltb (position_or_len is_feed (byte ∷ text)) (suc (length text))) (position_or_len is_feed (byte ∷ text)) (sym e))

pub not-true : (b : Bool) → true ≡ not b → b ≡ false
not-true true e = cc
not-true false e = refl

-- the text of lines, and of one more
pub added : (ks : List (List ℕ)) (k : List ℕ) → list_any (bytes_eq k) ks ≡ false → concat (insert_key bytes_eq ks k) ≡ concat ks ++ k
added ks k e =
    ap (λ (b : Bool). concat (cond b ks (ks ++ k ∷ []))) e ∙ concat-append ks (k ∷ []) ∙ ap (λ (l : List ℕ). concat ks ++ l) (append-nil k)
