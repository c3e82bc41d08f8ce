-- The numbers of the first participants, and those whose yes arrived if they are the first ones.
use Rattle.std.proofs.Common.{◌≡◌, ℕ, zero, suc, ◌+◌, ◌<◌, List, [], ◌∷◌, ◌++◌, length, get_or, refl, ap, sym, ◌∙◌, arith, inl, inr}
use Rattle.std.proofs.lemmas.Bool.{cases_eq}
use Rattle.std.proofs.lemmas.List.{length-append, get_or_append_left}
use Rattle.std.proofs.Math.Seq.{get_or-append_seam}
use Rattle.commit_target.specs.Steps.{Tally, with_yes}
use Rattle.commit_target.specs.inside.Batches.{first_ones, with_all_yes}

pub one_first : (n : ℕ) → first_ones (n + 1) ≡ first_ones n ++ n ∷ []
one_first n = ap first_ones (the_next n)
  where
    the_next : (n : ℕ) → n + 1 ≡ suc n
    the_next n = omega arith

pub length-first : (n : ℕ) → length (first_ones n) ≡ n
length-first zero = refl
length-first (suc n) = length-append (first_ones n) (n ∷ []) ∙ ap (λ (m : ℕ). m + 1) (length-first n) ∙ omega arith

pub first_at : (n i : ℕ) → i < n → get_or (first_ones n) i 0 ≡ i
first_at zero i h = absurd (omega arith)
first_at (suc n) i h = elim (cases_eq i n) [
  | inl e ↦
      let all : i ≡ length (first_ones n) = e ∙ sym (length-first n) in
      ap (λ (m : ℕ). get_or (first_ones n ++ n ∷ []) m 0) all ∙ get_or-append_seam (first_ones n) n [] 0 ∙ sym e
  | inr apart ↦
      let size : length (first_ones n) ≡ n = length-first n in
      get_or_append_left (first_ones n) (n ∷ []) 0 i (omega arith) ∙ first_at n i (omega arith)
]

abbrev pub with_them : Tally → List ℕ → Tally
with_them t them = record { step = t.step; begun = t.begun; yes = them; acknowledged = t.acknowledged; told = t.told }

-- a yes of each of so many, after those of all before them
pub all_yes : (t : Tally) (i n : ℕ) → t.yes ≡ first_ones i → with_all_yes t i n ≡ with_them t (first_ones (i + n))
all_yes t i zero e = ap (with_them t) (e ∙ ap first_ones (none i))
  where
    none : (i : ℕ) → i ≡ i + 0
    none i = omega arith
all_yes t i (suc n) e =
    all_yes (with_yes t i) (i + 1) n (ap (λ (them : List ℕ). them ++ i ∷ []) e ∙ sym (one_first i))
    ∙ ap (λ (m : ℕ). with_them t (first_ones m)) (one i n)
  where
    one : (i n : ℕ) → i + 1 + n ≡ i + suc n
    one i n = omega arith
