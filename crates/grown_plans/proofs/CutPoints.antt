-- The place of the point of a power cut, and how many faults are tried at hits of points.
use Rattle.std.proofs.Common.{◌≡◌, ℕ, ◌+◌, ◌-◌, ◌*◌, ◌==◌, nat_lt, not, Bool, true, false, cond, None, Some, List, [], ◌∷◌, map, length, count_by, refl, ap, sym, ◌∙◌, arith}
use Rattle.std.specs.List.{flat_map, position, prefix_len}
use Rattle.std.proofs.lemmas.List.{length-append, length-map}
use Rattle.std.proofs.lemmas.List.Sums.{sum_by-cons}
use Rattle.action_eval.specs.declared.rig.Kind.TheVariants.{OnceReturn, OncePanic}
use Rattle.grown_plans.specs.GrownPlans.{usual_at}

prefix_map : {X Y : Type 0} (p : Y → Bool) (f : X → Y) (xs : List X) → prefix_len (λ x. p (f x)) xs ≡ prefix_len p (map f xs)
prefix_map p f [] = refl
prefix_map p f (x ∷ xs) = ap (λ n. cond (p (f x)) (1 + n) 0) (prefix_map p f xs)

pub position_map : {X Y : Type 0} (p : Y → Bool) (f : X → Y) (xs : List X) → position (λ x. p (f x)) xs ≡ position p (map f xs)
position_map p f xs =
    ap (λ n. cond (nat_lt n (length xs)) (Some n) None) (prefix_map (λ y. not (p y)) f xs)
    ∙ ap (λ n. cond (nat_lt (prefix_len (λ y. not (p y)) (map f xs)) n) (Some (prefix_len (λ y. not (p y)) (map f xs))) None) (sym (length-map xs f))

pub none_cut : (points : List ℕ) → 2 * length points ≡ length (flat_map (usual_at None) points)
none_cut [] = refl
none_cut (p ∷ ps) = let rest = none_cut ps in omega (arith, rest)

one_less : (cut p : ℕ) (b : Bool) → (p == cut) ≡ b → length (usual_at (Some cut) p) + cond b 1 0 ≡ 2
one_less cut p true e = ap (λ (b : Bool). length (cond b (OnceReturn None ∷ []) (OnceReturn None ∷ OncePanic ∷ [])) + 1) e
one_less cut p false e = ap (λ (b : Bool). length (cond b (OnceReturn None ∷ []) (OnceReturn None ∷ OncePanic ∷ [])) + 0) e

some_both : (cut : ℕ) (points : List ℕ) → length (flat_map (usual_at (Some cut)) points) + count_by (λ p. p == cut) points ≡ 2 * length points
some_both cut [] = refl
some_both cut (p ∷ ps) =
    let here = one_less cut p (p == cut) refl in
    let rest = some_both cut ps in
    let whole = length-append (usual_at (Some cut) p) (flat_map (usual_at (Some cut)) ps) in
    let count = sum_by-cons (λ q. cond {A = ℕ} (q == cut) 1 0) p ps in
    omega (arith, here, rest, whole, count)

pub some_cut : (cut : ℕ) (points : List ℕ) → 2 * length points - count_by (λ p. p == cut) points ≡ length (flat_map (usual_at (Some cut)) points)
some_cut cut points = let both = some_both cut points in omega (arith, both)
