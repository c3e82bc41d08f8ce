-- The children of a plan as they are kept, over any kinds of faults.
use Rattle.std.proofs.Common.{◌≡◌, ℕ, ◌<◌, ◌≤◌, ◌*◌, Bool, true, false, cond, Option, None, List, [], ◌∷◌, ◌++◌, map, length, get_or, refl, ap, ◌∙◌, arith}
use Rattle.std.specs.List.{flat_map, AllByRecursion}
use Rattle.std.proofs.lemmas.List.{map-append, length-append, length-map}
use Rattle.action_eval.specs.declared.rig.Site.{Site}
use Rattle.action_eval.specs.declared.rig.Rig.{Rig}
use Rattle.action_eval.specs.declared.rig.Kind.{Kind}
use Rattle.action_eval.specs.declared.rig.Kind.TheVariants.{OnceReturn, OncePanic}
use Rattle.action_eval.specs.RiggedScenario.{rig, HasLawfulText}
use Rattle.plan_gen.specs.RiggedAnswers.{is_onward}
use Rattle.grown_plans.specs.GrownPlans.{is_cut, usual_at}
use Rattle.grown_plans.specs.Promises.{EachTwo}
use Rattle.grown_plans.specs.Kept.{Grew, GrewFrom, grew, plan_of, kept_at}
use Rattle.grown_plans.proofs.Members.{all_append}

-- ---- the kinds, if no others are given

differ : OnceReturn None ≡ OncePanic → ⊥
differ e = cc

abbrev chosen : Bool → List Kind
chosen b = cond b (OnceReturn None ∷ []) (OnceReturn None ∷ OncePanic ∷ [])

pub usual_once : (cut : Option ℕ) (point : ℕ) → AllByRecursion (λ kind. is_onward kind ≡ false) (usual_at cut point)
usual_once cut point = by_choice (is_cut cut point)
  where
    by_choice : (b : Bool) → AllByRecursion (λ kind. is_onward kind ≡ false) (chosen b)
    by_choice true = (refl, tt)
    by_choice false = (refl, (refl, tt))

pub usual_apart : (cut : Option ℕ) (point : ℕ) → EachTwo (λ (j k : Kind). j ≡ k → ⊥) (usual_at cut point)
usual_apart cut point = by_choice (is_cut cut point)
  where
    by_choice : (b : Bool) → EachTwo (λ (j k : Kind). j ≡ k → ⊥) (chosen b)
    by_choice true = (tt, tt)
    by_choice false = ((differ, tt), (tt, tt))

pub usual_texts : (cut : Option ℕ) (point : ℕ) → AllByRecursion HasLawfulText (usual_at cut point)
usual_texts cut point = by_choice (is_cut cut point)
  where
    by_choice : (b : Bool) → AllByRecursion HasLawfulText (chosen b)
    by_choice true = (tt, tt)
    by_choice false = (tt, (tt, tt))

usual_two : (cut : Option ℕ) (point : ℕ) → length (usual_at cut point) ≤ 2
usual_two cut point = by_choice (is_cut cut point)
  where
    by_choice : (b : Bool) → length (chosen b) ≤ 2
    by_choice true = omega arith
    by_choice false = omega arith

pub at_most_two : (cut : Option ℕ) (n : ℕ) (sites : List Site) → length (flat_map (kept_at (usual_at cut) n) sites) ≤ 2 * length sites
at_most_two cut n [] = omega arith
at_most_two cut n (s ∷ ss) =
    let here = length-map (usual_at cut s.point) (λ kind. grew n (rig s kind)) in
    let two = usual_two cut s.point in
    let rest = at_most_two cut n ss in
    let whole = length-append (kept_at (usual_at cut) n s) (flat_map (kept_at (usual_at cut) n) ss) in
    omega (arith, here, two, rest, whole)

-- ---- any kinds

low : (n m : ℕ) (s : Site) (ks : List Kind) → n < m → GrewFrom m (map (λ kind. grew n (rig s kind)) ks)
low n m s [] lt = tt
low n m s (k ∷ ks) lt = (lt, low n m s ks lt)

-- their parent is one of the plans that are there
pub kept_low : (kinds : ℕ → List Kind) (n m : ℕ) (sites : List Site) → n < m → GrewFrom m (flat_map (kept_at kinds n) sites)
kept_low kinds n m [] lt = tt
kept_low kinds n m (s ∷ ss) lt =
    all_append (λ (g : Grew). g.parent < m) (kept_at kinds n s) (flat_map (kept_at kinds n) ss) (low n m s (kinds s.point) lt) (kept_low kinds n m ss lt)

each_grown : (plans : List (List Rig)) (n : ℕ) (s : Site) (ks : List Kind)
    → map (plan_of plans) (map (λ kind. grew n (rig s kind)) ks) ≡ map (λ kind. rig s kind ∷ get_or plans n []) ks
each_grown plans n s [] = refl
each_grown plans n s (k ∷ ks) = ap (λ l. (rig s k ∷ get_or plans n []) ∷ l) (each_grown plans n s ks)

-- the plans themselves
pub kept_plans : (kinds : ℕ → List Kind) (plans : List (List Rig)) (n : ℕ) (sites : List Site)
    → map (plan_of plans) (flat_map (kept_at kinds n) sites) ≡ flat_map (λ (s : Site). map (λ kind. rig s kind ∷ get_or plans n []) (kinds s.point)) sites
kept_plans kinds plans n [] = refl
kept_plans kinds plans n (s ∷ ss) =
    map-append (plan_of plans) (kept_at kinds n s) (flat_map (kept_at kinds n) ss)
    ∙ ap (λ l. l ++ map (plan_of plans) (flat_map (kept_at kinds n) ss)) (each_grown plans n s (kinds s.point))
    ∙ ap (λ l. map (λ kind. rig s kind ∷ get_or plans n []) (kinds s.point) ++ l) (kept_plans kinds plans n ss)
