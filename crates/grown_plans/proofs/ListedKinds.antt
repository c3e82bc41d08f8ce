-- The kinds that are listed for a point, and how many faults are tried.
use Rattle.std.proofs.Common.{◌≡◌, ℕ, zero, suc, ◌<◌, ◌≤◌, List, [], ◌∷◌, map, length, get_or, refl, arith}
use Rattle.std.specs.List.{AllByRecursion}
use Rattle.action_eval.specs.declared.rig.Kind.{Kind}
use Rattle.grown_plans.specs.GrownPlans.{cut_point, kinds_at, listed_at, or_usual, tried_over, usual_at}
use Rattle.grown_plans.specs.Promises.{CanBeTried}
use Rattle.grown_plans.proofs.KeptChildren.{usual_apart, usual_once, usual_texts}

pub listed_there : {V : Type 0} (f : V → List Kind) (vs : List V) (p : ℕ) (d : V) → p < length vs → listed_at (map f vs) p ≡ f (get_or vs p d)
listed_there f [] p d h = absurd (omega (arith, h))
listed_there f (v ∷ vs) zero d h = refl
listed_there f (v ∷ vs) (suc p) d h = listed_there f vs p d (omega (arith, h))

pub listed_past : {V : Type 0} (f : V → List Kind) (vs : List V) (p : ℕ) → length vs ≤ p → listed_at (map f vs) p ≡ []
listed_past f [] p h = refl
listed_past f (v ∷ vs) zero h = absurd (omega (arith, h))
listed_past f (v ∷ vs) (suc p) h = listed_past f vs p (omega (arith, h))

-- ---- what holds of each list

can_at : (listed : List (List Kind)) (point : ℕ) → AllByRecursion CanBeTried listed → CanBeTried (listed_at listed point)
can_at [] point all = record { once = tt; apart = tt; texts = tt }
can_at (kinds ∷ rest) zero all = all.0
can_at (kinds ∷ rest) (suc point) all = can_at rest point all.1

pub listed_can : (names : List (List ℕ)) (listed : List (List Kind)) → AllByRecursion CanBeTried listed → (point : ℕ) → CanBeTried (kinds_at (tried_over names listed) point)
listed_can names listed all point = either (listed_at listed point) (can_at listed point all)
  where
    either : (kinds : List Kind) → CanBeTried kinds → CanBeTried (or_usual kinds (usual_at (cut_point names) point))
    either [] can = record { once = usual_once (cut_point names) point; apart = usual_apart (cut_point names) point; texts = usual_texts (cut_point names) point }
    either (kind ∷ kinds) can = can
