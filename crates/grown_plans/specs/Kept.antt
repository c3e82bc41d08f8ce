-- Plans as a list stores them: each as the number of its parent and the fault that was added to it.
use Rattle.std.specs.Prelude.{ℕ, ◌<◌, List, [], ◌∷◌, ◌++◌, map, slice_index_or}
use Rattle.std.specs.List.{flat_map, AllByRecursion}
use Rattle.action_eval.specs.declared.rig.Site.{Site}
use Rattle.action_eval.specs.declared.rig.Rig.{Rig}
use Rattle.action_eval.specs.declared.rig.Kind.{Kind}
use Rattle.action_eval.specs.RiggedScenario.{rig}
use Rattle.grown_plans.specs.AskedPoints.{sites_from, sites_past}

-- A plan that grew: its parent's number, and the fault that was added.
pub record Grew : Type 0 where
  pub parent : ℕ
  pub fault : Rig

abbrev pub grew : ℕ → Rig → Grew
grew parent fault = record { parent = parent; fault = fault }

-- The plan itself, given the plans among which its parent is.
abbrev pub plan_of : List (List Rig) → Grew → List Rig
plan_of plans g = g.fault ∷ slice_index_or plans g.parent []

-- Plans, followed by those that grew, each from one before it.
abbrev pub plans_from : List (List Rig) → List Grew → List (List Rig)
plans_from plans [] = plans
plans_from plans (g ∷ gs) = plans_from (plans ++ plan_of plans g ∷ []) gs

-- Each parent is one of the first n plans.
abbrev pub GrewFrom : ℕ → List Grew → Type 0
GrewFrom n gs = AllByRecursion (λ g. g.parent < n) gs

-- A plan's children, by the points that its run asked, in stored form.
abbrev pub kept_of : ℕ → Site → List Kind → List Grew
kept_of number s kinds = map (λ kind. grew number (rig s kind)) kinds

abbrev pub kept_at : (ℕ → List Kind) → ℕ → Site → List Grew
kept_at kinds number s = kept_of number s (kinds s.point)

abbrev pub kept_children : (ℕ → List Kind) → ℕ → List Rig → List ℕ → List Grew
kept_children kinds number plan asked = flat_map (kept_at kinds number) (sites_past plan (sites_from [] asked))
