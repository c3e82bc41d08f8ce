-- What is noted of a campaign with a depth, by the runs that answers tell: the places of counts that are 0, and what notes come to.
use Rattle.std.proofs.Common.{◌≡◌, ◌∙◌, ◌++◌, ◌+◌, ◌<◌, ◌≤◌, ℕ, zero, suc, Bool, true, false, List, Some, [], ◌∷◌, All, ap, arith, refl, sym, filter, if◌then◌else◌, subst}
use Rattle.std.proofs.lemmas.List.Elements.{All-filter}
use Rattle.std.proofs.lemmas.List.FromFn.{get_or-range_with_len, length-range_with_len}
use Rattle.std.specs.List.{range_with_len}
use Rattle.action_eval.specs.declared.rig.Kind.{Kind}
use Rattle.answer_text.specs.Runs.{KnownRuns, known_runs, told_in}
use Rattle.answered_runs.specs.Answered.{Answered}
use Rattle.campaign_given.specs.Description.{Description}
use Rattle.campaign_given.specs.Given.{Given}
use Rattle.outside_campaign.specs.with_depth.Kinds.{listed_kinds}
use Rattle.campaign_main.specs.QuestionNotes.{run_doubts, strict_doubts}

abbrev kept : Bool → ℕ → List ℕ → List ℕ
kept b p more = if b then p ∷ more else more

-- one more number
filter_more : (t : ℕ → Bool) (a n : ℕ) → filter t (range_with_len a (suc n)) ≡ filter t (range_with_len a n) ++ kept (t (a + n)) (a + n) []
filter_more t a zero = ap (λ p. kept (t p) p []) (let e : a ≡ a + 0 = omega arith in e)
filter_more t a (suc n) =
    let place : a + 1 + n ≡ a + suc n = omega arith in
    let rest : List ℕ = filter t (range_with_len (a + 1) n) in
    let last : ℕ → List ℕ = λ p. kept (t p) p [] in
    ap (kept (t a) a) (filter_more t (a + 1) n ∙ ap (λ p. rest ++ last p) place)
    ∙ sym (kept_append (t a) a rest (last (a + suc n)))
  where
    kept_append : (b : Bool) (p : ℕ) (xs ys : List ℕ) → kept b p xs ++ ys ≡ kept b p (xs ++ ys)
    kept_append true p xs ys = refl
    kept_append false p xs ys = refl

from_zero : (t : ℕ → Bool) (n : ℕ) → filter t (range_with_len 0 (suc n)) ≡ filter t (range_with_len 0 n) ++ kept (t n) n []
from_zero t n = filter_more t 0 n ∙ ap (λ k. filter t (range_with_len 0 n) ++ kept (t k) k []) (let e : 0 + n ≡ n = omega arith in e)

pub place_kept : (t : ℕ → Bool) (n : ℕ) (old new : List ℕ) → old ≡ filter t (range_with_len 0 n) → t n ≡ true → new ≡ old ++ n ∷ [] → new ≡ filter t (range_with_len 0 (n + 1))
place_kept t n old new is holds added =
    let one : suc n ≡ n + 1 = omega arith in
    added ∙ ap (λ (xs : List ℕ). xs ++ n ∷ []) is ∙ ap (λ b. filter t (range_with_len 0 n) ++ kept b n []) (sym holds) ∙ sym (from_zero t n)
    ∙ ap (λ m. filter t (range_with_len 0 m)) one

pub place_left : (t : ℕ → Bool) (n : ℕ) (old : List ℕ) → old ≡ filter t (range_with_len 0 n) → t n ≡ false → old ≡ filter t (range_with_len 0 (n + 1))
place_left t n old is fails =
    let one : suc n ≡ n + 1 = omega arith in
    is ∙ sym (append_none (filter t (range_with_len 0 n))) ∙ ap (λ b. filter t (range_with_len 0 n) ++ kept b n []) (sym fails) ∙ sym (from_zero t n)
    ∙ ap (λ m. filter t (range_with_len 0 m)) one
  where
    append_none : (xs : List ℕ) → xs ++ [] ≡ xs
    append_none [] = refl
    append_none (x ∷ xs) = ap (λ (l : List ℕ). x ∷ l) (append_none xs)

-- tests that agree within a range keep the same numbers
same_from : (t u : ℕ → Bool) (a n : ℕ) → ((p : ℕ) → p < a + n → t p ≡ u p) → filter t (range_with_len a n) ≡ filter u (range_with_len a n)
same_from t u a zero same = refl
same_from t u a (suc n) same =
    let less : a < a + suc n = omega arith in
    ap (λ b. kept b a (filter t (range_with_len (a + 1) n))) (same a less)
    ∙ ap (kept (u a) a) (same_from t u (a + 1) n (λ p lt. same p (omega (arith, lt))))

pub same_places : (t u : ℕ → Bool) (n m : ℕ) → n ≡ m → ((p : ℕ) → p < n → t p ≡ u p) → filter t (range_with_len 0 n) ≡ filter u (range_with_len 0 m)
same_places t u n m many same = same_from t u 0 n (λ p lt. same p (omega (arith, lt))) ∙ ap (λ k. filter u (range_with_len 0 k)) many

-- what a filter keeps of a range lies within it
below : (a n m : ℕ) → a + n ≤ m → All (λ p. p < m) (range_with_len a n)
below a n m h =
    λ k d less.
    let small : k < n = subst (λ len. k < len) (length-range_with_len a n) less in
    subst (λ x. x < m) (sym (get_or-range_with_len a n k d small)) (omega (arith, h, small))

pub places_below : (t : ℕ → Bool) (n m : ℕ) (places : List ℕ) → n ≡ m → places ≡ filter t (range_with_len 0 n) → All (λ p. p < m) places
places_below t n m places many is = subst (λ (xs : List ℕ). All (λ p. p < m) xs) (sym is) (All-filter t (λ p. p < m) (range_with_len 0 n) (below 0 n m (omega (arith, many))))

-- ---- by the text of answers

module _ (d : Description) (given : Given) (depth : ℕ) (text : List ℕ) where
  -- what is noted by what a text tells
  pub told_doubts : (lines : List ℕ) (a : Answered) → a.points ≡ d.points → a.listed ≡ listed_kinds d → told_in a.book ≡ known_runs d.codes d.points text
      → lines ≡ run_doubts a.points a.listed (told_in a.book) depth given → lines ≡ strict_doubts (Some depth) given d text
  told_doubts lines a points listed told is =
      is ∙ ap (λ (names : List (List ℕ)). run_doubts names a.listed (told_in a.book) depth given) points
      ∙ ap (λ (kinds : List (List Kind)). run_doubts d.points kinds (told_in a.book) depth given) listed
      ∙ ap (λ (runs : KnownRuns). run_doubts d.points (listed_kinds d) runs depth given) told
