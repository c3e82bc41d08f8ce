-- Runs that are shown, one after the other.
use Rattle.std.proofs.Common.{◌≡◌, ℕ, ◌+◌, ◌<◌, List, [], ◌∷◌, ◌++◌, map, take, get_or, length, ap, sym, ◌∙◌}
use Rattle.std.proofs.lemmas.List.{map-append, take_more}

-- one more run is shown
pub one_more : {A B : Type 0} (f : A → B) (xs : List A) (i : ℕ) (all new : List B) (x : A) (y : B) → i < length xs → new ≡ all ++ y ∷ []
    → all ≡ map f (take i xs) → x ≡ get_or xs i x → y ≡ f x → new ≡ map f (take (i + 1) xs)
one_more {A} {B} f xs i all new x y lt added so_far is shown =
    added ∙ ap (λ (l : List B). l ++ y ∷ []) so_far ∙ ap (λ (z : B). map f (take i xs) ++ z ∷ []) (shown ∙ ap f is)
    ∙ sym (ap (map f) (take_more xs i x lt) ∙ map-append f (take i xs) (get_or xs i x ∷ []))
