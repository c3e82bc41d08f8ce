-- Texts cut at the arrows.
use Rattle.std.proofs.Common.{◌≡◌, ◌≢◌, ℕ, suc, ◌<◌, List, [], ◌∷◌, ◌++◌, Bool, true, false, ◌&&◌, eqb, length, take, drop, arith, refl, ap, ◌∙◌, sym, not, take-append-drop}
use Rattle.std.specs.List.{onto_first}
use Rattle.std.specs.Str.Pattern.{LacksTextAt, FindsText, SplitsAroundMatch}
use Rattle.std.proofs.Common.{◌⊎◌, inl, inr, Option, Some, None, Bor}
use Rattle.std.specs.Option.{MatchOption}
use Rattle.std.proofs.Common.{subst}
use Rattle.std.proofs.lemmas.Str.Pattern.{split_text_parts}
use Rattle.std.proofs.lemmas.Bool.Decides.{nat_tests}
use Rattle.std.specs.Bool.{MatchBool}
use Rattle.std.specs.Str.Pattern.{HasMatch}
use Rattle.scenario_values.specs.Words.{lacks_arrow}
use Rattle.scenario_grammar.specs.Words.{cut_at_arrows}
use Rattle.scenario_grammar.proofs.CutLaws.{and_both}
use Rattle.scenario_grammar.proofs.Inside.{arrow_back}

abbrev pub arrow : List ℕ
arrow = 45 ∷ 62 ∷ []

-- no arrow begins in the text before place n
abbrev pub NoArrowBelow : ℕ → List ℕ → Type 0
NoArrowBelow n text = (i : ℕ) → i < n → LacksTextAt arrow text i

not_both : (b c : ℕ) → (b ≡ 45 → c ≡ 62 → ⊥) → (eqb b 45 && eqb c 62) ≡ false
not_both b c never = elim (decide b) [ inl p ↦ rw p (elim (decide62 c) [ inl q ↦ absurd (never p q) | inr q ↦ rw q refl ]) | inr p ↦ rw p refl ]
  where
    decide : (b : ℕ) → (b ≡ 45) ⊎ (eqb b 45 ≡ false)
    decide b = grind (arith, nat_tests)

    decide62 : (b : ℕ) → (b ≡ 62) ⊎ (eqb b 62 ≡ false)
    decide62 b = grind (arith, nat_tests)

is_arrow : (b c : ℕ) (rest : List ℕ) → ((b ∷ c ∷ rest) ≢ arrow ++ rest) → (eqb b 45 && eqb c 62) ≡ false
is_arrow b c rest lacks = not_both b c (λ p q. lacks (cc))

pub tail_lacks : (n b : ℕ) (text : List ℕ) → NoArrowBelow (suc n) (b ∷ text) → NoArrowBelow n text
tail_lacks n b text none = λ i less. none (suc i) (omega arith)

pub cut_first_arrow : (front rest : List ℕ) → NoArrowBelow (length front) (front ++ (arrow ++ rest)) → cut_at_arrows (front ++ (arrow ++ rest)) ≡ front ∷ cut_at_arrows rest
unfolding cut_at_arrows
cut_first_arrow [] rest none = refl
cut_first_arrow (b ∷ []) rest none = rw (is_arrow b 45 (62 ∷ rest) (none 0 (omega arith) (62 ∷ rest))) refl
cut_first_arrow (b ∷ c ∷ front) rest none =
    rw (is_arrow b c (front ++ (arrow ++ rest)) (none 0 (omega arith) (front ++ (arrow ++ rest)))) (ap (onto_first b) (cut_first_arrow (c ∷ front) rest (tail_lacks (length (c ∷ front)) b (c ∷ (front ++ (arrow ++ rest))) none)))

pub cut_no_arrow : (text : List ℕ) → NoArrowBelow (length text) text → cut_at_arrows text ≡ text ∷ []
unfolding cut_at_arrows
cut_no_arrow [] none = refl
cut_no_arrow (b ∷ []) none = refl
cut_no_arrow (b ∷ c ∷ text) none =
    rw (is_arrow b c text (none 0 (omega arith) text)) (ap (onto_first b) (cut_no_arrow (c ∷ text) (tail_lacks (length (c ∷ text)) b (c ∷ text) none)))

-- what `split_once` says at an arrow
pub cut_by_split : (text : List ℕ) (r : Option (Bor (List ℕ) × Bor (List ℕ))) → MatchOption r (FindsText arrow text None) (λ x. SplitsAroundMatch (FindsText arrow) text x.0.now x.1.now)
    → MatchOption r (cut_at_arrows text ≡ text ∷ []) (λ x. (cut_at_arrows text ≡ x.0.now ∷ cut_at_arrows x.1.now) × (length x.1.now < length text))
cut_by_split text None h = cut_no_arrow text (λ i less. h i (omega arith))
cut_by_split text (Some (front, back)) h =
    let e : text ≡ front.now ++ (arrow ++ back.now) = split_text_parts arrow text (Some (front, back)) h in
    let first : NoArrowBelow (length front.now) text = λ i less. h.2.0 i (omega (arith, h.6)) in
    let P : List ℕ → Type 0 = λ t. NoArrowBelow (length front.now) t in
    (ap cut_at_arrows e ∙ cut_first_arrow front.now back.now (subst P e first), omega (arith, h.7, h.2.1.ends))

no_arrow : (text : List ℕ) → NoArrowBelow (length text) text → lacks_arrow text ≡ true
no_arrow [] none = refl
no_arrow (b ∷ []) none = refl
no_arrow (b ∷ c ∷ text) none =
    and_both (not (eqb b 45 && eqb c 62)) (lacks_arrow (c ∷ text)) (rw (is_arrow b c text (none 0 (omega arith) text)) refl) (no_arrow (c ∷ text) (tail_lacks (length (c ∷ text)) b (c ∷ text) none))

has_arrow : (text rest : List ℕ) (i : ℕ) → drop i text ≡ arrow ++ rest → lacks_arrow text ≡ false
has_arrow text rest i at = by_test (lacks_arrow text) refl
  where
    P : List ℕ → Type 0
    P x = lacks_arrow x ≡ true

    by_test : (t : Bool) → lacks_arrow text ≡ t → t ≡ false
    by_test true is =
        let whole : lacks_arrow (take i text ++ drop i text) ≡ true = subst P (sym (take-append-drop i text)) is in
        let back : lacks_arrow (arrow ++ rest) ≡ true = subst P at (arrow_back (take i text) (drop i text) whole) in
        absurd cc
    by_test false is = refl

-- what `contains` says of an arrow
pub contains_arrow : (text : List ℕ) (found : Bool) → MatchBool found (HasMatch (FindsText arrow) text) (FindsText arrow text None) → not found ≡ lacks_arrow text
contains_arrow text true h = sym (has_arrow text (drop h.1 text) h.0 h.2.1.split)
contains_arrow text false h = sym (no_arrow text (λ i less. h i (omega arith)))
