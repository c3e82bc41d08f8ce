-- Blank characters are ASCII, so a text may be cut beside them.
use Rattle.std.proofs.Common.{◌≡◌, ℕ, ◌+◌, ◌-◌, ◌<◌, ◌≤◌, List, true, get_or, length, arith, subst, refl, ap, ◌∙◌, sym}
use Rattle.std.specs.List.{prefix_len}
use Rattle.std.specs.Str.{IsUtf8, IsCharBoundary}
use Rattle.std.proofs.lemmas.Grind.{common_steps}
use Rattle.std.proofs.lemmas.Bool.Decides.{nat_tests}
use Rattle.std.proofs.lemmas.Str.{IsCharBoundary-after_ascii}
use Rattle.std.proofs.lemmas.List.Sums.{prefix_len_passes, prefix_len-le-length}
use Rattle.std.proofs.Common.{Option, Some, None, ◌++◌, ◌∷◌, [], Bor, ◌≢◌}
use Rattle.std.specs.Option.{MatchOption, option_map}
use Rattle.scenario_values.specs.Words.{is_blank}
use Rattle.scenario_grammar.specs.Words.{without_last}

pub blank_is_ascii : (b : ℕ) → is_blank b ≡ true → b < 128
blank_is_ascii b h = grind (arith, nat_tests)

pub boundary_after_blanks : (text : List ℕ) → IsUtf8 text → 0 < prefix_len is_blank text → IsCharBoundary text (prefix_len is_blank text)
boundary_after_blanks text utf8 some =
    let n : ℕ = prefix_len is_blank text in
    let small : get_or text (n - 1) 0 < 128 = blank_is_ascii _ (prefix_len_passes is_blank text (n - 1) 0 (omega arith)) in
    let at : IsCharBoundary text (n - 1 + 1) = IsCharBoundary-after_ascii text (n - 1) utf8 (omega (arith, prefix_len-le-length is_blank text)) small in
    let P : ℕ → Type 0 = λ k. IsCharBoundary text k in
    subst P (omega arith) at

pub boundary_at_blank : (text : List ℕ) (n : ℕ) → n ≤ length text → (n < length text → is_blank (get_or text n 0) ≡ true) → IsCharBoundary text n
boundary_at_blank text n le blank = (le, λ inside high. absurd (omega (arith, blank_is_ascii (get_or text n 0) (blank inside))))

-- the character taken off the end, put back
pub without_last_gives : (c : ℕ) (text front : List ℕ) → without_last c text ≡ Some front → text ≡ front ++ (c ∷ [])
without_last_gives c [] front h = cc
without_last_gives c (b ∷ []) front h = grind (arith, nat_tests, common_steps)
without_last_gives c (b ∷ d ∷ rest) front h = last_step c b (d ∷ rest) front (without_last c (d ∷ rest)) (without_last_gives c (d ∷ rest)) h
  where
    last_step : (c b : ℕ) (rest front : List ℕ) (r : Option (List ℕ)) → ((f : List ℕ) → r ≡ Some f → rest ≡ f ++ (c ∷ [])) → option_map (λ f. b ∷ f) r ≡ Some front → (b ∷ rest) ≡ front ++ (c ∷ [])
    last_step c b rest front None ih h = cc
    last_step c b rest front (Some f) ih h = let e = ih f refl in cc

pub without_last_push : (c : ℕ) (front : List ℕ) → without_last c (front ++ (c ∷ [])) ≡ Some front
without_last_push c [] = grind (arith, nat_tests, common_steps)
without_last_push c (b ∷ []) = let e = without_last_push c [] in ap (option_map (λ f. b ∷ f)) e
without_last_push c (b ∷ d ∷ front) = ap (option_map (λ f. b ∷ f)) (without_last_push c (d ∷ front))

-- `strip_suffix` is `without_last`
pub strip_last_is : (c : ℕ) (text : List ℕ) (r : Option (Bor (List ℕ))) → MatchOption r ((front : List ℕ) → text ≢ front ++ (c ∷ [])) (λ x. text ≡ x.now ++ (c ∷ [])) → option_map (λ x. x.now) r ≡ without_last c text
strip_last_is c text None h = none_or c text (without_last c text) (without_last_gives c text) h
  where
    none_or : (c : ℕ) (text : List ℕ) (r : Option (List ℕ)) → ((f : List ℕ) → r ≡ Some f → text ≡ f ++ (c ∷ [])) → ((front : List ℕ) → text ≢ front ++ (c ∷ [])) → None ≡ r
    none_or c text None gives lacks = refl
    none_or c text (Some f) gives lacks = absurd (lacks f (gives f refl))
strip_last_is c text (Some x) h = sym (ap (without_last c) h ∙ without_last_push c x.now)
