use Rattle.std.proofs.Common.{◌≡◌, ℕ, zero, suc, ◌<◌, Bool, true, false, ◌||◌, List, [], ◌∷◌, length, get_or, refl, sym, ◌∙◌, ap, subst, arith}
use Rattle.std.proofs.Common.{Option, None, Some}
use Rattle.std.specs.Prelude.{remove, is_some}
use Rattle.std.specs.List.{list_any}
use Rattle.ddmin_parallel.specs.CoreEvents.{same_set, without}
use Rattle.ddmin_parallel.specs.inside.CoreStates.{IsPlaceOf}

pub place_found : (s : List ℕ) (out : List (List ℕ)) (k : ℕ) (x : List ℕ) → k < length out
    → ((j : ℕ) (d : List ℕ) → j < k → same_set s (get_or out j d) ≡ false) → x ≡ get_or out k x → same_set s x ≡ true
    → IsPlaceOf s out (Some k)
place_found s [] k x lt before is so = absurd (omega arith)
place_found s (y ∷ out) zero x lt before is so =
    let here : same_set s y ≡ true = ap (same_set s) (sym is) ∙ so in
    (omega arith, rw here refl, rw (here, without) refl)
place_found s (y ∷ out) (suc k) x lt before is so =
    let no : same_set s y ≡ false = before zero y (omega arith) in
    let rest = place_found s out k x (omega arith) (λ j d h. before (suc j) d (omega arith)) is so in
    (let b = rest.0 in omega arith, rw no rest.1, rw (no, without) (ap (λ ts. y ∷ ts) rest.2))

pub place_none : (s : List ℕ) (out : List (List ℕ)) → ((j : ℕ) (d : List ℕ) → j < length out → same_set s (get_or out j d) ≡ false)
    → IsPlaceOf s out None
place_none s [] before = refl
place_none s (y ∷ out) before =
    let no : same_set s y ≡ false = before zero y (omega arith) in
    rw no (place_none s out (λ j d h. before (suc j) d (omega arith)))

pub without_none : (s : List ℕ) (out : List (List ℕ)) → list_any (same_set s) out ≡ false → without s out ≡ out
without_none s [] is = refl
without_none s (t ∷ out) is = at (same_set s t) refl (without_none s out) is
  where
    at : (b : Bool) → same_set s t ≡ b → (list_any (same_set s) out ≡ false → without s out ≡ out) → (b || list_any (same_set s) out) ≡ false
        → ◌≡◌ {A = List (List ℕ)} (elim b [ true ↦ out | false ↦ t ∷ without s out ]) (t ∷ out)
    at true e rest is = cc
    at false e rest is = ap (λ ts. t ∷ ts) (rest is)

pub some_taken : (s : List ℕ) (xs ys : List (List ℕ)) (k : ℕ) → xs ≡ ys → IsPlaceOf s xs (Some k) → remove ys k ≡ without s ys
some_taken s xs ys k same h = sym (subst (λ zs. without s zs ≡ remove zs k) same h.2)

pub none_taken : (s : List ℕ) (xs ys : List (List ℕ)) → xs ≡ ys → IsPlaceOf s xs None → ys ≡ without s ys
none_taken s xs ys same h = sym (without_none s ys (subst (λ zs. list_any (same_set s) zs ≡ false) same h))

pub placed : (s : List ℕ) (out : List (List ℕ)) (o : Option ℕ) → IsPlaceOf s out o → is_some o ≡ true → list_any (same_set s) out ≡ true
placed s out None h e = cc
placed s out (Some k) h e = h.1
