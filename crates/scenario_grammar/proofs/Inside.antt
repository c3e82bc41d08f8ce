-- Texts that stand inside others, and what they lack with them.
use Rattle.std.proofs.Common.{◌≡◌, ℕ, ◌-◌, ◌≤◌, List, [], ◌∷◌, ◌++◌, Bool, true, false, ◌&&◌, not, eqb, cond, length, take, drop, refl, ap, sym, ◌∙◌, arith, subst, ◌⊎◌, inl, inr, take-append-drop, length-append}
use Rattle.std.specs.List.{list_all, slice_split, onto_first, prefix_len, suffix_len, AllByRecursion}
use Rattle.scenario_values.specs.Words.{is_blank, lacks, lacks_arrow, trimmed}
use Rattle.scenario_grammar.specs.Words.{cut_at_arrows}
use Rattle.scenario_grammar.proofs.CutLaws.{and_true, and_both}

-- the text is the part with something before it and something after it
pub record Inside (part text : List ℕ) : Type 0 where
  pub front : List ℕ
  pub back : List ℕ
  pub parts : text ≡ front ++ (part ++ back)

pub all_parts : (p : ℕ → Bool) (xs ys : List ℕ) → list_all p (xs ++ ys) ≡ true → (list_all p xs ≡ true) × (list_all p ys ≡ true)
all_parts p [] ys h = (refl, h)
all_parts p (x ∷ xs) ys h =
    let here = and_true (p x) (list_all p (xs ++ ys)) h in
    let rest = all_parts p xs ys here.1 in
    (and_both (p x) (list_all p xs) here.0 rest.0, rest.1)

pub lacks_inside : (c : ℕ) (part text : List ℕ) → Inside part text → lacks c text ≡ true → lacks c part ≡ true
lacks_inside c part text at h =
    let whole : lacks c (at.front ++ (part ++ at.back)) ≡ true = rw (← at.parts) h in
    (all_parts (λ b. not (eqb b c)) part at.back (all_parts (λ b. not (eqb b c)) at.front (part ++ at.back) whole).1).0

pub arrow_back : (xs ys : List ℕ) → lacks_arrow (xs ++ ys) ≡ true → lacks_arrow ys ≡ true
arrow_back [] ys h = h
arrow_back (b ∷ []) [] h = refl
arrow_back (b ∷ []) (c ∷ ys) h = (and_true (not (eqb b 45 && eqb c 62)) (lacks_arrow (c ∷ ys)) h).1
arrow_back (b ∷ c ∷ xs) ys h = arrow_back (c ∷ xs) ys (and_true (not (eqb b 45 && eqb c 62)) (lacks_arrow (c ∷ (xs ++ ys))) h).1

pub arrow_front : (xs ys : List ℕ) → lacks_arrow (xs ++ ys) ≡ true → lacks_arrow xs ≡ true
arrow_front [] ys h = refl
arrow_front (b ∷ []) ys h = refl
arrow_front (b ∷ c ∷ xs) ys h =
    let here = and_true (not (eqb b 45 && eqb c 62)) (lacks_arrow (c ∷ (xs ++ ys))) h in
    and_both (not (eqb b 45 && eqb c 62)) (lacks_arrow (c ∷ xs)) here.0 (arrow_front (c ∷ xs) ys here.1)

pub arrow_inside : (part text : List ℕ) → Inside part text → lacks_arrow text ≡ true → lacks_arrow part ≡ true
arrow_inside part text at h =
    let whole : lacks_arrow (at.front ++ (part ++ at.back)) ≡ true = rw (← at.parts) h in
    arrow_front part at.back (arrow_back at.front (part ++ at.back) whole)

pub trimmed_inside : (text : List ℕ) → Inside (trimmed text) text
trimmed_inside text =
    let n : ℕ = prefix_len is_blank text in
    let rest : List ℕ = drop n text in
    let m : ℕ = length rest - suffix_len is_blank rest in
    record { front = take n text; back = drop m rest; parts = sym (take-append-drop n text) ∙ ap (λ (x : List ℕ). take n text ++ x) (sym (take-append-drop m rest)) }

pub inside_shorter : (part text : List ℕ) → Inside part text → length part ≤ length text
inside_shorter part text at =
    let e : length text ≡ length (at.front ++ (part ++ at.back)) = ap length at.parts in
    let a = length-append at.front (part ++ at.back) in
    let b = length-append part at.back in
    omega arith

-- ---- the pieces of a cut text

pub pieces_lack : (c : ℕ) (text : List ℕ) → AllByRecursion (λ piece. lacks c piece ≡ true) (slice_split (λ b. eqb b c) text)
pieces_lack c [] = (refl, tt)
pieces_lack c (b ∷ text) = by_test (eqb b c) refl (slice_split (λ x. eqb x c) text) (pieces_lack c text)
  where
    by_test : (t : Bool) → eqb b c ≡ t → (pieces : List (List ℕ)) → AllByRecursion (λ piece. lacks c piece ≡ true) pieces → AllByRecursion (λ piece. lacks c piece ≡ true) (cond t ([] ∷ pieces) (onto_first b pieces))
    by_test true is pieces h = (refl, h)
    by_test false is [] h = (rw is refl, tt)
    by_test false is (p ∷ ps) h = (and_both (not (eqb b c)) (lacks c p) (rw is refl) h.0, h.1)

-- the first part is empty, or begins where the text does
record First (c : ℕ) (rest : List ℕ) : Type 0 where
  pub part : List ℕ
  pub others : List (List ℕ)
  pub cut : cut_at_arrows (c ∷ rest) ≡ part ∷ others
  pub begins : (part ≡ []) ⊎ ((more : List ℕ) × (part ≡ c ∷ more))

first_part : (c : ℕ) (rest : List ℕ) → First c rest
unfolding cut_at_arrows
first_part c [] = record { part = c ∷ []; others = []; cut = refl; begins = inr ([], refl) }
first_part c (d ∷ more) = by_test (eqb c 45 && eqb d 62) refl (first_part d more)
  where
    by_test : (t : Bool) → (eqb c 45 && eqb d 62) ≡ t → First d more → First c (d ∷ more)
    by_test true is f = record { part = []; others = cut_at_arrows more; cut = rw is refl; begins = inl refl }
    by_test false is f = record { part = c ∷ f.part; others = f.others; cut = rw (is, f.cut) refl; begins = inr (f.part, refl) }

pub parts_lack_arrows : (text : List ℕ) → AllByRecursion (λ part. lacks_arrow part ≡ true) (cut_at_arrows text)
unfolding cut_at_arrows
parts_lack_arrows [] = (refl, tt)
parts_lack_arrows (b ∷ []) = (refl, tt)
parts_lack_arrows (b ∷ c ∷ rest) = by_test (eqb b 45 && eqb c 62) refl (first_part c rest) (parts_lack_arrows rest) (parts_lack_arrows (c ∷ rest))
  where
    Plain : List ℕ → Type 0
    Plain x = lacks_arrow x ≡ true

    joined : (p : List ℕ) → not (eqb b 45 && eqb c 62) ≡ true → (p ≡ []) ⊎ ((more : List ℕ) × (p ≡ c ∷ more)) → lacks_arrow p ≡ true → lacks_arrow (b ∷ p) ≡ true
    joined p is (inl e) h = rw e refl
    joined p is (inr (more, e)) h =
        let lack : lacks_arrow (c ∷ more) ≡ true = subst Plain e h in
        rw e (and_both (not (eqb b 45 && eqb c 62)) (lacks_arrow (c ∷ more)) is lack)

    by_test : (t : Bool) → (eqb b 45 && eqb c 62) ≡ t → First c rest → AllByRecursion (λ part. lacks_arrow part ≡ true) (cut_at_arrows rest) → AllByRecursion (λ part. lacks_arrow part ≡ true) (cut_at_arrows (c ∷ rest))
        → AllByRecursion (λ part. lacks_arrow part ≡ true) (cond t ([] ∷ cut_at_arrows rest) (onto_first b (cut_at_arrows (c ∷ rest))))
    by_test true is f k h = (refl, k)
    by_test false is f k h =
        let Lacking : List (List ℕ) → Type 0 = λ parts. AllByRecursion (λ part. lacks_arrow part ≡ true) parts in
        let g : AllByRecursion (λ part. lacks_arrow part ≡ true) (f.part ∷ f.others) = subst Lacking f.cut h in
        rw f.cut (joined f.part (rw is refl) f.begins g.0, g.1)

pub parts_lack : (c : ℕ) (text : List ℕ) → lacks c text ≡ true → AllByRecursion (λ part. lacks c part ≡ true) (cut_at_arrows text)
unfolding cut_at_arrows
parts_lack c [] h = (refl, tt)
parts_lack c (b ∷ []) h = (h, tt)
parts_lack c (b ∷ d ∷ rest) h =
    let here = and_true (not (eqb b c)) (lacks c (d ∷ rest)) h in
    let next = and_true (not (eqb d c)) (lacks c rest) here.1 in
    by_test (eqb b 45 && eqb d 62) (cut_at_arrows (d ∷ rest)) here.0 (parts_lack c rest next.1) (parts_lack c (d ∷ rest) here.1)
  where
    by_test : (t : Bool) (parts : List (List ℕ)) → not (eqb b c) ≡ true → AllByRecursion (λ part. lacks c part ≡ true) (cut_at_arrows rest) → AllByRecursion (λ part. lacks c part ≡ true) parts
        → AllByRecursion (λ part. lacks c part ≡ true) (cond t ([] ∷ cut_at_arrows rest) (onto_first b parts))
    by_test true parts is k h = (refl, k)
    by_test false [] is k h = (and_both (not (eqb b c)) true is refl, tt)
    by_test false (p ∷ ps) is k h = (and_both (not (eqb b c)) (lacks c p) is h.0, h.1)
