-- Names that are looked up.
use Rattle.std.proofs.Common.{◌≡◌, ℕ, suc, ◌+◌, ◌<◌, ◌≤◌, List, [], ◌∷◌, Bool, true, false, cond, length, drop, get_or, Option, Some, refl, ap, sym, ◌∙◌, arith}
use Rattle.std.specs.Borrow.{Bor}
use Rattle.std.specs.List.{position_from}
use Rattle.std.specs.Map.{lookup, update}
use Rattle.std.specs.Str.{bytes_eq}
use Rattle.std.proofs.Math.Seq.{drop-cons}
use Rattle.std.proofs.lemmas.Slice.Eq.{bytes_eq-Decides}
use Rattle.std.proofs.lemmas.Iterator.Adapters.{position_from-zero}
use Rattle.answer_text.specs.inside.Names.{IsIndexOf}

-- the entries have the first place of each name from this number on
pub record Places (names : List (List ℕ)) (entries : List (Bor (List ℕ) × ℕ)) (number : ℕ) : Type 0 where
  pub within : number ≤ length names
  pub found : (name : List ℕ) → lookup (λ k. bytes_eq name k.now) entries ≡ position_from (bytes_eq name) number (drop number names)

same_test : (a b : List ℕ) → bytes_eq a b ≡ bytes_eq b a
same_test a b = by_tests (bytes_eq a b) (bytes_eq b a) refl refl
  where
    by_tests : (t u : Bool) → bytes_eq a b ≡ t → bytes_eq b a ≡ u → t ≡ u
    by_tests true true e f = refl
    by_tests false false e f = refl
    by_tests true false e f = absurd (cc (f, (bytes_eq-Decides b a).1 (sym ((bytes_eq-Decides a b).0 e))))
    by_tests false true e f = absurd (cc (e, (bytes_eq-Decides a b).1 (sym ((bytes_eq-Decides b a).0 f))))

pub put_before : (names : List (List ℕ)) (entries after : List (Bor (List ℕ) × ℕ)) (number n : ℕ) (name : List ℕ) → Places names entries number → number ≡ n + 1 → name ≡ get_or names n []
    → ((key : List ℕ) → lookup (λ k. bytes_eq key k.now) after ≡ update bytes_eq (λ key. lookup (λ k. bytes_eq key k.now) entries) name (Some n) key) → Places names after n
put_before names entries after number n name h e is updates =
    let in_names : n < length names = let w = h.within in omega arith in
    record {
      within = omega arith;
      found = λ key.
          let cons : drop n names ≡ get_or names n [] ∷ drop number names = drop-cons names n [] in_names ∙ ap (λ (k : ℕ). get_or names n [] ∷ drop k names) (let s : suc n ≡ number = omega arith in s) in
          updates key
          ∙ ap (λ (o : Option ℕ). cond (bytes_eq name key) (Some n) o) (h.found key)
          ∙ ap (λ (t : Bool). cond t (Some n) (position_from (bytes_eq key) number (drop number names))) (same_test name key ∙ ap (bytes_eq key) is)
          ∙ ap (λ (k : ℕ). cond (bytes_eq key (get_or names n [])) (Some n) (position_from (bytes_eq key) k (drop number names))) e
          ∙ ap (position_from (bytes_eq key) n) (sym cons);
    }

pub all_put : (names : List (List ℕ)) (entries : List (Bor (List ℕ) × ℕ)) → Places names entries 0 → IsIndexOf entries names
all_put names entries h name = h.found name ∙ sym (position_from-zero (bytes_eq name) names)
