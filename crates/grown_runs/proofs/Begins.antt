-- First hits that were counted of a plan's run serve its children's.
use Rattle.std.proofs.Common.{◌≡◌, inl, inr, ℕ, ◌<◌, List, [], ◌∷◌, Some, None, get_or, take, ap, refl, sym, ◌∙◌, subst, arith}
use Rattle.std.specs.List.{AllByRecursion}
use Rattle.action_eval.specs.declared.rig.Rig.{Rig}
use Rattle.grown_plans.specs.GrownPlans.{Subject}
use Rattle.grown_plans.specs.AskedPoints.{AreCounts, AskAlike, AsksLikeParent}
use Rattle.grown_plans.specs.Begun.{AreOrdinals, CountsFirst, IsBegun, Serves}
use Rattle.grown_plans.specs.declared.begun.Begun.{Begun}
use Rattle.grown_plans.proofs.FirstHits.{serves_child, tells_parent}
use Rattle.grown_runs.specs.GrownRuns.{told}
use Rattle.grown_runs.specs.inside.Beginnings.{MovesOn, TellsParent}

-- a plan that stands here grew from the one there
abbrev pub IsChildOf : List (List Rig) → ℕ → List Rig → Type 0
IsChildOf plans parent plan = (r : Rig) (rs : List Rig) → plan ≡ r ∷ rs → get_or plans parent [] ≡ rs

parents_run : (t : Subject) (seed n parent : ℕ) (plans : List (List Rig)) (r : Rig) (rs : List Rig) (own : List ℕ) → AsksLikeParent t (r ∷ rs) → IsChildOf plans parent (r ∷ rs)
    → own ≡ (told t seed n (r ∷ rs)).asked → AskAlike r.site own (told t seed parent (get_or plans parent [])).asked
parents_run t seed n parent plans r rs own alike child is =
    subst (λ (l : List ℕ). AskAlike r.site l (told t seed parent (get_or plans parent [])).asked) (sym is)
    (subst (λ (p : List Rig). AskAlike r.site (told t seed n (r ∷ rs)).asked (told t seed parent p).asked) (sym (child r rs refl)) (alike r rs refl seed n parent))

pub ordinals : (t : Subject) (plan : List Rig) → AsksLikeParent t plan → AreOrdinals plan
ordinals t [] alike = tt
ordinals t (r ∷ rs) alike = (alike r rs refl 0 0 0).0

pub serves_next : (t : Subject) (seed n parent : ℕ) (plans : List (List Rig)) (b : Begun) (plan : List Rig) (own : List ℕ)
    → AllByRecursion (λ p. p < 64) (told t seed parent (get_or plans parent [])).asked → AsksLikeParent t plan → IsChildOf plans parent plan
    → own ≡ (told t seed n plan).asked → TellsParent t seed plans b → Serves b parent plan own
serves_next t seed n parent plans b [] own all alike child is tells = tt
serves_next t seed n parent plans b (r ∷ rs) own all alike child is tells =
    serves_child b parent r rs own (told t seed parent (get_or plans parent [])).asked all (parents_run t seed n parent plans r rs own alike child is) (tells parent)

is_some : (b : Begun) (p q : ℕ) → b.parent ≡ Some p → b.parent ≡ Some q → p ≡ q
is_some b p q e f = let same : Some p ≡ Some q = sym e ∙ f in cc

tells_own : (t : Subject) (seed n parent : ℕ) (plans : List (List Rig)) (b : Begun) (plan : List Rig) (own : List ℕ) → AsksLikeParent t plan → IsChildOf plans parent plan
    → own ≡ (told t seed n plan).asked → IsBegun b parent plan own → TellsParent t seed plans b
tells_own t seed n parent plans b [] own alike child is begun = λ other of. absurd (let no : None ≡ Some other = sym begun ∙ of in cc)
tells_own t seed n parent plans b (r ∷ rs) own alike child is begun = λ other of.
    subst (λ (q : ℕ). CountsFirst b (told t seed q (get_or plans q [])).asked) (is_some b parent other begun.0 of)
    (tells_parent b parent r rs own (told t seed parent (get_or plans parent [])).asked (parents_run t seed n parent plans r rs own alike child is) begun)

pub tells_next : (t : Subject) (seed n parent : ℕ) (plans : List (List Rig)) (old new : Begun) (plan : List Rig) (own : List ℕ) → AsksLikeParent t plan
    → IsChildOf plans parent plan → own ≡ (told t seed n plan).asked → TellsParent t seed plans old → MovesOn old new parent plan own → TellsParent t seed plans new
tells_next t seed n parent plans old new plan own alike child is tells moves = elim moves [
  | inl same ↦ λ other of. kept (told t seed other (get_or plans other [])).asked same.1 same.2 (tells other (sym same.0 ∙ of))
  | inr begun ↦ tells_own t seed n parent plans new plan own alike child is begun
]
  where
    kept : (asked : List ℕ) → new.hits ≡ old.hits → new.counts ≡ old.counts → CountsFirst old asked → CountsFirst new asked
    kept asked hits counts first =
        let le = first.0 in (
          omega (arith, hits, le),
          subst (λ (h : ℕ). AreCounts new.counts.items (take h asked)) (sym hits) (subst (λ (l : List ℕ). AreCounts l (take old.hits asked)) (sym (ap (λ v. v.items) counts)) first.1),
        )
