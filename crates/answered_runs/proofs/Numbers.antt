-- Answers as numbers: no two have the same, and what was numbered keeps its number as texts are added.
use Rattle.std.proofs.Common.{◌≡◌, ℕ, suc, ◌+◌, ◌<◌, ◌≤◌, nat_lt, Bool, true, false, cond, List, [], ◌∷◌, ◌++◌, length, Option, Some, None, refl, ap, sym, ◌∙◌, arith, bytes_eq}
use Rattle.std.specs.Prelude.{option_map, position}
use Rattle.std.proofs.lemmas.List.Recursion.{is_position_or_len}
use Rattle.std.proofs.lemmas.Bool.Decides.{nat_tests}
use Rattle.std.proofs.lemmas.Slice.Eq.{bytes_eq-Decides}
use Rattle.action_eval.specs.Answers.{Reply, Go, Return, Halt}
use Rattle.answered_runs.specs.inside.Replies.{number_in}

-- ---- places of texts

-- the place of a text is that of the first one that is the same
abbrev place_of : List ℕ → List (List ℕ) → Option ℕ
place_of text [] = None
place_of text (x ∷ xs) = cond (bytes_eq text x) (Some 0) (option_map (λ n. 1 + n) (place_of text xs))

abbrev first_at : List ℕ → List (List ℕ) → ℕ
first_at text [] = 0
first_at text (x ∷ xs) = cond (bytes_eq text x) 0 (1 + first_at text xs)

abbrev within : ℕ → List (List ℕ) → Option ℕ
within n xs = cond (nat_lt n (length xs)) (Some n) None

first_is : (text : List ℕ) (xs : List (List ℕ)) → within (first_at text xs) xs ≡ place_of text xs
first_is text [] = ap (λ (b : Bool). cond b (Some 0) None) (let none : nat_lt 0 0 ≡ false = grind (arith, nat_tests) in none)
first_is text (x ∷ xs) = by_test (bytes_eq text x) (first_is text xs)
  where
    later : (n : ℕ) (b : Bool) → nat_lt n (length xs) ≡ b → within (1 + n) (x ∷ xs) ≡ option_map (λ m. 1 + m) (cond b (Some n) None)
    later n true e = ap (λ (b : Bool). cond b (Some (1 + n)) None) (let f : nat_lt (1 + n) (suc (length xs)) ≡ true = grind (arith, nat_tests, e) in f)
    later n false e = ap (λ (b : Bool). cond b (Some (1 + n)) None) (let f : nat_lt (1 + n) (suc (length xs)) ≡ false = grind (arith, nat_tests, e) in f)

    by_test : (b : Bool) → within (first_at text xs) xs ≡ place_of text xs → within (cond b 0 (1 + first_at text xs)) (x ∷ xs) ≡ cond b (Some 0) (option_map (λ n. 1 + n) (place_of text xs))
    by_test true e = ap (λ (b : Bool). cond b (Some 0) None) (let less : nat_lt 0 (suc (length xs)) ≡ true = grind (arith, nat_tests) in less)
    by_test false e = later (first_at text xs) (nat_lt (first_at text xs) (length xs)) refl ∙ ap (option_map (λ n. 1 + n)) e

place_is : (text : List ℕ) (xs : List (List ℕ)) → position (bytes_eq text) xs ≡ place_of text xs
place_is text xs = ap (λ (n : ℕ). within n xs) (sym (is_position_or_len (first_at text) (bytes_eq text) refl (λ y ys. refl) xs)) ∙ first_is text xs

-- it is there
place_low : (text : List ℕ) (xs : List (List ℕ)) (n : ℕ) → place_of text xs ≡ Some n → n < length xs
place_low text [] n e = absurd cc
place_low text (x ∷ xs) n e = by_test (place_low text xs) (bytes_eq text x) (place_of text xs) refl e
  where
    by_test : ((m : ℕ) → place_of text xs ≡ Some m → m < length xs) → (b : Bool) (o : Option ℕ) → place_of text xs ≡ o → cond b (Some 0) (option_map (λ n. 1 + n) o) ≡ Some n → n < suc (length xs)
    by_test later true o f h = let is : 0 ≡ n = cc in omega (arith, is)
    by_test later false None f h = absurd cc
    by_test later false (Some m) f h = let is : 1 + m ≡ n = cc in let low = later m f in omega (arith, is, low)

place_more : (text : List ℕ) (xs more : List (List ℕ)) (n : ℕ) → place_of text xs ≡ Some n → place_of text (xs ++ more) ≡ Some n
place_more text [] more n e = absurd cc
place_more text (x ∷ xs) more n e = by_test (place_more text xs more) (bytes_eq text x) (place_of text xs) refl e
  where
    by_test : ((m : ℕ) → place_of text xs ≡ Some m → place_of text (xs ++ more) ≡ Some m) → (b : Bool) (o : Option ℕ) → place_of text xs ≡ o → cond b (Some 0) (option_map (λ n. 1 + n) o) ≡ Some n
        → cond b (Some 0) (option_map (λ n. 1 + n) (place_of text (xs ++ more))) ≡ Some n
    by_test later true o f h = h
    by_test later false None f h = absurd cc
    by_test later false (Some m) f h = ap (option_map (λ n. 1 + n)) (later m f) ∙ h

place_new : (text : List ℕ) (xs more : List (List ℕ)) (n : ℕ) → place_of text xs ≡ None → place_of text (xs ++ more) ≡ Some n → length xs ≤ n
place_new text [] more n e f = omega arith
place_new text (x ∷ xs) more n e f = by_test (place_new text xs more) (bytes_eq text x) (place_of text xs) refl (place_of text (xs ++ more)) refl e f
  where
    by_test : ((m : ℕ) → place_of text xs ≡ None → place_of text (xs ++ more) ≡ Some m → length xs ≤ m) → (b : Bool) (o : Option ℕ) → place_of text xs ≡ o → (p : Option ℕ) → place_of text (xs ++ more) ≡ p
        → cond b (Some 0) (option_map (λ n. 1 + n) o) ≡ None → cond b (Some 0) (option_map (λ n. 1 + n) p) ≡ Some n → suc (length xs) ≤ n
    by_test later true o g p h e f = absurd cc
    by_test later false (Some m) g p h e f = absurd cc
    by_test later false None g None h e f = absurd cc
    by_test later false None g (Some m) h e f = let is : 1 + m ≡ n = cc in let up = later m g h in omega (arith, is, up)

place_same : (text other : List ℕ) (xs : List (List ℕ)) (n : ℕ) → place_of text xs ≡ Some n → place_of other xs ≡ Some n → text ≡ other
place_same text other [] n e f = absurd cc
place_same text other (x ∷ xs) n e f = by_test (place_same text other xs) (bytes_eq text x) refl (bytes_eq other x) refl (place_of text xs) refl (place_of other xs) refl e f
  where
    by_test : ((m : ℕ) → place_of text xs ≡ Some m → place_of other xs ≡ Some m → text ≡ other) → (b : Bool) → bytes_eq text x ≡ b → (c : Bool) → bytes_eq other x ≡ c
        → (o : Option ℕ) → place_of text xs ≡ o → (p : Option ℕ) → place_of other xs ≡ p
        → cond b (Some 0) (option_map (λ n. 1 + n) o) ≡ Some n → cond c (Some 0) (option_map (λ n. 1 + n) p) ≡ Some n → text ≡ other
    by_test later true g true h o i p j e f = (bytes_eq-Decides text x).0 g ∙ sym ((bytes_eq-Decides other x).0 h)
    by_test later true g false h o i None j e f = absurd cc
    by_test later true g false h o i (Some m) j e f = let is : 0 ≡ n = cc in let this : 1 + m ≡ n = cc in absurd (omega (arith, is, this))
    by_test later false g true h None i p j e f = absurd cc
    by_test later false g true h (Some m) i p j e f = let is : 0 ≡ n = cc in let this : 1 + m ≡ n = cc in absurd (omega (arith, is, this))
    by_test later false g false h None i p j e f = absurd cc
    by_test later false g false h (Some m) i None j e f = absurd cc
    by_test later false g false h (Some m) i (Some k) j e f =
        let is : 1 + m ≡ n = cc in
        let this : 1 + k ≡ n = cc in
        let same : k ≡ m = omega (arith, is, this) in
        later m i (j ∙ ap (λ (q : ℕ). Some q) same)

-- ---- numbers

-- the number of a return with a text, by the text's place
abbrev by_place : Option ℕ → Option ℕ
by_place o = option_map (λ place. 4 + place) o

text_number : (texts : List (List ℕ)) (text : List ℕ) → number_in texts (Return (Some text)) ≡ by_place (place_of text texts)
text_number texts text = ap by_place (place_is text texts)

placed : (o : Option ℕ) (n : ℕ) → by_place o ≡ Some n → (m : ℕ) × (o ≡ Some m) × (n ≡ 4 + m)
placed None n e = absurd cc
placed (Some m) n e = (m, refl, (let is : 4 + m ≡ n = cc in sym is))

pub positive : (texts : List (List ℕ)) (r : Reply) (n : ℕ) → number_in texts r ≡ Some n → 0 < n
positive texts Go n e = let is : 1 ≡ n = cc in omega (arith, is)
positive texts Halt n e = let is : 2 ≡ n = cc in omega (arith, is)
positive texts (Return None) n e = let is : 3 ≡ n = cc in omega (arith, is)
positive texts (Return (Some text)) n e = let p = placed (place_of text texts) n (sym (text_number texts text) ∙ e) in omega (arith, p.2)

pub number_low : (texts : List (List ℕ)) (r : Reply) (n : ℕ) → number_in texts r ≡ Some n → n < 4 + length texts
number_low texts Go n e = let is : 1 ≡ n = cc in omega (arith, is)
number_low texts Halt n e = let is : 2 ≡ n = cc in omega (arith, is)
number_low texts (Return None) n e = let is : 3 ≡ n = cc in omega (arith, is)
number_low texts (Return (Some text)) n e =
    let p = placed (place_of text texts) n (sym (text_number texts text) ∙ e) in
    let low = place_low text texts p.0 p.1 in
    omega (arith, p.2, low)

pub number_more : (texts more : List (List ℕ)) (r : Reply) (n : ℕ) → number_in texts r ≡ Some n → number_in (texts ++ more) r ≡ Some n
number_more texts more Go n e = e
number_more texts more Halt n e = e
number_more texts more (Return None) n e = e
number_more texts more (Return (Some text)) n e =
    let p = placed (place_of text texts) n (sym (text_number texts text) ∙ e) in
    text_number (texts ++ more) text ∙ ap by_place (place_more text texts more p.0 p.1) ∙ ap (λ (m : ℕ). Some m) (sym p.2)

pub number_new : (texts more : List (List ℕ)) (r : Reply) (n : ℕ) → number_in texts r ≡ None → number_in (texts ++ more) r ≡ Some n → 4 + length texts ≤ n
number_new texts more Go n e f = absurd cc
number_new texts more Halt n e f = absurd cc
number_new texts more (Return None) n e f = absurd cc
number_new texts more (Return (Some text)) n e f = by_old (place_of text texts) refl (sym (text_number texts text) ∙ e)
  where
    by_old : (o : Option ℕ) → place_of text texts ≡ o → by_place o ≡ None → 4 + length texts ≤ n
    by_old (Some m) g h = absurd cc
    by_old None g h =
        let p = placed (place_of text (texts ++ more)) n (sym (text_number (texts ++ more) text) ∙ f) in
        let up = place_new text texts more p.0 g p.1 in
        omega (arith, p.2, up)

pub number_same : (texts : List (List ℕ)) (q r : Reply) (n : ℕ) → number_in texts q ≡ Some n → number_in texts r ≡ Some n → q ≡ r
number_same texts Go Go n e f = refl
number_same texts Go Halt n e f = absurd cc
number_same texts Go (Return None) n e f = absurd cc
number_same texts Go (Return (Some text)) n e f = let is : 1 ≡ n = cc in let p = placed (place_of text texts) n (sym (text_number texts text) ∙ f) in absurd (omega (arith, is, p.2))
number_same texts Halt Go n e f = absurd cc
number_same texts Halt Halt n e f = refl
number_same texts Halt (Return None) n e f = absurd cc
number_same texts Halt (Return (Some text)) n e f = let is : 2 ≡ n = cc in let p = placed (place_of text texts) n (sym (text_number texts text) ∙ f) in absurd (omega (arith, is, p.2))
number_same texts (Return None) Go n e f = absurd cc
number_same texts (Return None) Halt n e f = absurd cc
number_same texts (Return None) (Return None) n e f = refl
number_same texts (Return None) (Return (Some text)) n e f = let is : 3 ≡ n = cc in let p = placed (place_of text texts) n (sym (text_number texts text) ∙ f) in absurd (omega (arith, is, p.2))
number_same texts (Return (Some text)) Go n e f = let is : 1 ≡ n = cc in let p = placed (place_of text texts) n (sym (text_number texts text) ∙ e) in absurd (omega (arith, is, p.2))
number_same texts (Return (Some text)) Halt n e f = let is : 2 ≡ n = cc in let p = placed (place_of text texts) n (sym (text_number texts text) ∙ e) in absurd (omega (arith, is, p.2))
number_same texts (Return (Some text)) (Return None) n e f = let is : 3 ≡ n = cc in let p = placed (place_of text texts) n (sym (text_number texts text) ∙ e) in absurd (omega (arith, is, p.2))
number_same texts (Return (Some text)) (Return (Some other)) n e f =
    let p = placed (place_of text texts) n (sym (text_number texts text) ∙ e) in
    let q = placed (place_of other texts) n (sym (text_number texts other) ∙ f) in
    let same : p.0 ≡ q.0 = omega (arith, p.2, q.2) in
    ap (λ (x : List ℕ). Return (Some x)) (place_same text other texts p.0 p.1 (q.1 ∙ ap (λ (m : ℕ). Some m) (sym same)))
