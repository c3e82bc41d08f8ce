-- How a list of plans is kept: what all plans share, for each plan its rigged hits or its storm's number, and the listed scenarios.
use Rattle.std.specs.Prelude.{ℕ, if◌then◌else◌, None, List, [], ◌∷◌, ◌++◌, map, flat_map}
use Rattle.std.specs.List.{range_with_len}
use Rattle.scenario_values.specs.Scenario.{Entries}
use Rattle.action_eval.specs.declared.rig.Site.{Site}
use Rattle.action_eval.specs.declared.rig.Kind.{Kind}
use Rattle.action_eval.specs.declared.rig.Kind.TheVariants as kind
use Rattle.action_eval.specs.RiggedScenario.{rig, rigged_scenario}
use Rattle.plan_gen.specs.declared.drawing.PlainKind.{PlainKind}
use Rattle.plan_gen.specs.declared.drawing.PlainKind.TheVariants.{OnceReturn, OnwardReturn, OncePanic}
use Rattle.plan_gen.specs.declared.drawing.Source.{Source}
use Rattle.plan_gen.specs.declared.drawing.Source.TheVariants.{Empty, One, Two, Storm}
use Rattle.plan_gen.specs.PlanList.{Asked, pairs_of, storm}

-- What all plans share: the points' names, their sites, and the seed and the rate of storms.
pub record Shared : Type 0 where
  pub names : List (List ℕ)
  pub sites : List Site
  pub seed : ℕ
  pub rate : ℕ

-- A kind of fault without a text.
abbrev pub kind_of : PlainKind → Kind
kind_of OnceReturn = kind.OnceReturn None
kind_of OnwardReturn = kind.OnwardReturn None
kind_of OncePanic = kind.OncePanic

-- The scenario of a plan.
abbrev pub drawn : Shared → Source → Entries
drawn shared Empty = []
drawn shared (One site plain) = rigged_scenario shared.names (rig site (kind_of plain) ∷ [])
drawn shared (Two first second plain) = rigged_scenario shared.names (rig first (kind.OnceReturn None) ∷ rig second (kind_of plain) ∷ [])
drawn shared (Storm number) = rigged_scenario shared.names (storm shared.seed shared.rate shared.sites number)

-- The plans of a list.
abbrev pub plans_of : Shared → List Source → List Entries → List Entries
plans_of shared sources listed = map (drawn shared) sources ++ listed

-- What is kept of the plans of a site, and of two sites.
abbrev pub site_sources : Site → List Source
site_sources s = map (λ plain. One s plain) (OnceReturn ∷ OnwardReturn ∷ OncePanic ∷ [])

abbrev pub pair_sources : Site × Site → List Source
pair_sources p = map (λ plain. Two p.0 p.1 plain) (OnceReturn ∷ OncePanic ∷ [])

-- What is kept of all plans that aren't listed scenarios.
abbrev pub sources_of : Asked → List Site → List Source
sources_of asked sites =
    (Empty ∷ []) ++ flat_map site_sources sites ++ (if asked.pairs then flat_map pair_sources (pairs_of sites) else [])
    ++ map Storm (range_with_len 0 asked.storms)
