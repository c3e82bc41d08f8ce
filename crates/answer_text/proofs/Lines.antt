-- Texts cut at the first of some byte.
use Rattle.std.proofs.Common.{◌≡◌, ℕ, suc, ◌+◌, ◌-◌, ◌<◌, List, [], ◌∷◌, Bool, true, false, not, eqb, ltb, cond, length, get_or, take, drop, length-append, length-drop, Option, Some, None, refl, ap, sym, subst, ◌∙◌, arith}
use Rattle.std.specs.List.{slice_split, position_or_len}
use Rattle.std.specs.Prelude.{position}
use Rattle.std.specs.Option.{option_map}
use Rattle.std.proofs.lemmas.List.{take_all}
use Rattle.std.proofs.lemmas.List.Sums.{position_or_len_is}
use Rattle.std.proofs.lemmas.Bool.Decides.{Decides-eqb, nat_tests}
use Rattle.std.proofs.lemmas.List.Quantifiers.{position-Some}
use Rattle.std.proofs.lemmas.Str.{IsCharBoundary-after_ascii}
use Rattle.std.specs.Str.{IsCharBoundary, IsUtf8}
use Rattle.memchr.specs.Find.{IsFirstByte, is_byte}
use Rattle.scenario_values.specs.Words.{lacks}
use Rattle.scenario_grammar.specs.Words.{cut}
use Rattle.scenario_grammar.proofs.CutLaws.{and_both, same_byte, cut_gives, cut_front_lacks}
use Rattle.scenario_grammar.proofs.JoinLaws.{byte_cut, byte_none}

abbrev at_place : List ℕ → ℕ → Option (List ℕ × List ℕ)
at_place text n = cond (ltb n (length text)) (Some (take n text, drop (n + 1) text)) None

less_more : (m n : ℕ) → ltb (suc m) (suc n) ≡ ltb m n
less_more m n = grind (arith, nat_tests)

zero_less : (n : ℕ) → ltb 0 (suc n) ≡ true
zero_less n = grind (arith, nat_tests)

one_more : (b : ℕ) (text : List ℕ) (n m : ℕ) → m ≡ suc n → option_map (λ parts. (b ∷ parts.0, parts.1)) (at_place text n) ≡ at_place (b ∷ text) m
one_more b text n m e = rw (e, less_more n (length text)) (by_test (ltb n (length text)))
  where
    by_test : (t : Bool) → option_map (λ parts. (b ∷ parts.0, parts.1)) (cond {A = Option (List ℕ × List ℕ)} t (Some (take n text, drop (n + 1) text)) None) ≡ cond {A = Option (List ℕ × List ℕ)} t (Some (b ∷ take n text, drop (suc n + 1) (b ∷ text))) None
    by_test true =
        let e : suc n + 1 ≡ suc (n + 1) = omega arith in
        ap (λ (r : List ℕ). Some (b ∷ take n text, r)) (sym (ap (λ (k : ℕ). drop k (b ∷ text)) e))
    by_test false = refl

cut_is : (c : ℕ) (text : List ℕ) → cut c text ≡ at_place text (position_or_len (λ b. eqb b c) text)
cut_is c [] = refl
cut_is c (b ∷ text) = by_test (eqb b c) (cut_is c text)
  where
    by_test : (t : Bool) → cut c text ≡ at_place text (position_or_len (λ b. eqb b c) text)
        → cond {A = Option (List ℕ × List ℕ)} t (Some ([], text)) (option_map (λ parts. (b ∷ parts.0, parts.1)) (cut c text)) ≡ at_place (b ∷ text) (cond (not t) (1 + position_or_len (λ b. eqb b c) text) 0)
    by_test true ih = rw (zero_less (length text)) refl
    by_test false ih = rw ih (one_more b text (position_or_len (λ b. eqb b c) text) (1 + position_or_len (λ b. eqb b c) text) (omega arith))

some_is : (m n : ℕ) → Some m ≡ Some n → m ≡ n
some_is m n e = cc

pub cut_none : (c : ℕ) (text : List ℕ) → None ≡ position (λ b. eqb b c) text → None ≡ cut c text
cut_none c text h = sym (cut_is c text ∙ by_test (ltb (position_or_len (λ b. eqb b c) text) (length text)) h)
  where
    by_test : (t : Bool) → None ≡ cond t (Some (position_or_len (λ b. eqb b c) text)) None → cond {A = Option (List ℕ × List ℕ)} t (Some (take (position_or_len (λ b. eqb b c) text) text, drop (position_or_len (λ b. eqb b c) text + 1) text)) None ≡ None
    by_test true e = absurd cc
    by_test false e = refl

cut_some : (c : ℕ) (text : List ℕ) (n : ℕ) → Some n ≡ position (λ b. eqb b c) text → Some (take n text, drop (n + 1) text) ≡ cut c text
cut_some c text n h = sym (cut_is c text ∙ by_test (ltb (position_or_len (λ b. eqb b c) text) (length text)) h)
  where
    by_test : (t : Bool) → Some n ≡ cond t (Some (position_or_len (λ b. eqb b c) text)) None → cond {A = Option (List ℕ × List ℕ)} t (Some (take (position_or_len (λ b. eqb b c) text) text, drop (position_or_len (λ b. eqb b c) text + 1) text)) None ≡ Some (take n text, drop (n + 1) text)
    by_test true e = ap (λ (k : ℕ). Some (take k text, drop (k + 1) text)) (sym (some_is n (position_or_len (λ b. eqb b c) text) e))
    by_test false e = absurd cc

pub cut_range : (c : ℕ) (text : List ℕ) (n : ℕ) → Some n ≡ position (λ b. eqb b c) text → Some (take n text, take (length text - (n + 1)) (drop (n + 1) text)) ≡ cut c text
cut_range c text n h =
    let rest : take (length text - (n + 1)) (drop (n + 1) text) ≡ drop (n + 1) text = take_all (length text - (n + 1)) (drop (n + 1) text) (omega (arith, length-drop (n + 1) text)) in
    ap (λ (r : List ℕ). Some (take n text, r)) rest ∙ cut_some c text n h

lacks_if_none : (c : ℕ) (text : List ℕ) → cut c text ≡ None → lacks c text ≡ true
lacks_if_none c [] h = refl
lacks_if_none c (b ∷ text) h = by_test (eqb b c) (cut c text) refl (lacks_if_none c text) h
  where
    by_test : (t : Bool) (r : Option (List ℕ × List ℕ)) → eqb b c ≡ t → (r ≡ None → lacks c text ≡ true) → cond {A = Option (List ℕ × List ℕ)} t (Some ([], text)) (option_map (λ parts. (b ∷ parts.0, parts.1)) r) ≡ None → lacks c (b ∷ text) ≡ true
    by_test true r is ih k = absurd cc
    by_test false None is ih k = and_both (not (eqb b c)) (lacks c text) (rw is refl) (ih refl)
    by_test false (Some p) is ih k = absurd cc

pub split_none_at : (c : ℕ) (text : List ℕ) → cut c text ≡ None → slice_split (λ b. eqb b c) text ≡ text ∷ []
split_none_at c text h = byte_none c text (lacks_if_none c text h)

pub split_first_at : (c : ℕ) (text front rest : List ℕ) → cut c text ≡ Some (front, rest) → slice_split (λ b. eqb b c) text ≡ front ∷ slice_split (λ b. eqb b c) rest
split_first_at c text front rest h =
    ap (slice_split (λ b. eqb b c)) (cut_gives c text front rest h)
    ∙ byte_cut c front rest (same_byte c) (cut_front_lacks c text front rest h)

pub split_one : (text : List ℕ) → cut 10 text ≡ None → slice_split (λ b. eqb b 10) text ≡ text ∷ []
split_one text h = split_none_at 10 text h

pub split_first : (text front rest : List ℕ) → cut 10 text ≡ Some (front, rest) → slice_split (λ b. eqb b 10) text ≡ front ∷ slice_split (λ b. eqb b 10) rest
split_first text front rest h = split_first_at 10 text front rest h

pub shorter_at : (c : ℕ) (text front rest : List ℕ) → cut c text ≡ Some (front, rest) → length rest < length text
shorter_at c text front rest h = let e = cut_gives c text front rest h in rw e (simp length-append (omega arith))

pub shorter : (text front rest : List ℕ) → cut 10 text ≡ Some (front, rest) → length rest < length text
shorter text front rest h = shorter_at 10 text front rest h

-- ---- the first such byte, as a search finds it

fails : (b : Bool) → (b ≡ true → ⊥) → b ≡ false
fails true h = absurd (h refl)
fails false h = refl

none_left : (n : ℕ) → ltb n n ≡ false
none_left n = grind (arith, nat_tests)

less_is : (m n : ℕ) → m < n → ltb m n ≡ true
less_is m n h = grind (arith, nat_tests)

pub found_is : (c : ℕ) (text : List ℕ) (found : Option ℕ) → IsFirstByte (is_byte c) text found → found ≡ position (λ b. eqb b c) text
found_is c text None none =
    let end : position_or_len (λ b. eqb b c) text ≡ length text =
    position_or_len_is (λ b. eqb b c) text (length text) 0 (omega arith) (λ k less. fails (eqb (get_or text k 0) c) (none k (omega arith) less)) (λ less. absurd (omega (arith, less)))
    in
    sym (ap (λ (n : ℕ). cond (ltb n (length text)) (Some n) None) end ∙ ap (λ (b : Bool). cond b (Some (length text)) None) (none_left (length text)))
found_is c text (Some k) found =
    let first = found.0 in
    let high = first.high in
    let here : position_or_len (λ b. eqb b c) text ≡ k =
    position_or_len_is (λ b. eqb b c) text k 0 (omega (arith, high)) (λ i less. fails (eqb (get_or text i 0) c) (first.before i (omega arith) less)) (λ less. found.1)
    in
    sym (ap (λ (n : ℕ). cond (ltb n (length text)) (Some n) None) here ∙ ap (λ (b : Bool). cond b (Some k) None) (less_is k (length text) high))

pub cut_parts : (c : ℕ) (text : List ℕ) (n : ℕ) (front rest : List ℕ) → front ≡ take (n - 0) text → rest ≡ drop (n + 1) text → Some n ≡ position (λ b. eqb b c) text → Some (front, rest) ≡ cut c text
cut_parts c text n front rest e f h =
    let whole : n - 0 ≡ n = omega arith in
    rw (e, f) (ap (λ (k : ℕ). Some (take k text, drop (n + 1) text)) whole ∙ cut_some c text n h)

-- ---- a text may be cut at such a byte, if it is ASCII, and behind it

found_here : (c : ℕ) (text : List ℕ) (n : ℕ) → Some n ≡ position (λ b. eqb b c) text → (n < length text) × (get_or text n 0 ≡ c)
found_here c text n h = let here = position-Some (λ (b : ℕ). eqb b c) text n 0 (sym h) in (here.0, (Decides-eqb (get_or text n 0) c).0 here.1)

pub boundary_here : (c : ℕ) (text : List ℕ) (n : ℕ) → c < 128 → Some n ≡ position (λ b. eqb b c) text → IsCharBoundary text n
boundary_here c text n small h = let here = found_here c text n h in (let less = here.0 in omega (arith, less), λ inside high. absurd (let is = here.1 in omega (arith, is, small, high)))

pub boundary_behind : (c : ℕ) (text : List ℕ) (n : ℕ) → IsUtf8 text → c < 128 → Some n ≡ position (λ b. eqb b c) text → IsCharBoundary text (n + 1)
boundary_behind c text n utf8 small h =
    let here = found_here c text n h in
    IsCharBoundary-after_ascii text n utf8 here.0 (subst (λ (b : ℕ). b < 128) (sym here.1) small)
