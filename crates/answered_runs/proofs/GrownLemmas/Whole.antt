-- The list of each component that agrees with answers.
use Rattle.std.proofs.Common.{◌≡◌, ℕ, true, List, [], ◌++◌, map, refl, ap, sym, ◌∙◌, arith, append_assoc}
use Rattle.std.specs.Prelude.{Option, Some, None, Contains}
use Rattle.std.proofs.lemmas.List.Elements.{Contains-append_left}
use Rattle.scenario_values.specs.Scenario.{Entries}
use Rattle.action_eval.specs.declared.rig.Rig.{Rig}
use Rattle.plan_gen.specs.Census.{census_of, sites_of}
use Rattle.plan_gen.specs.PlanList.{Asked, storm_part}
use Rattle.grown_plans.specs.numbered.GrownScenarios.{grown_scenarios}
use Rattle.grown_plans.specs.GrownPlans.{Subject, grown, grown_list, level, levels, onward, scenario_of}
use Rattle.grown_plans.proofs.Apart.{level_in_levels}
use Rattle.grown_plans.proofs.Members.{contains_head}
use Rattle.grown_runs.specs.known.Known.{KnownRuns, Told, hits_of, hits_told}
use Rattle.grown_runs.specs.known.KnownPart.{are_told, known_part}
use Rattle.grown_runs.specs.known.KnownPlans.{AreKnown}
use Rattle.grown_runs.specs.known.Promises.{IsWholeList}
use Rattle.answered_runs.specs.Answered.{Answered, runs_in}
use Rattle.answered_runs.specs.Components.{IsComponent}
use Rattle.answered_runs.specs.grown.Further.{clean_run, further_known, further_of, further_seen}
use Rattle.answered_runs.specs.grown.Lists.{IsListOf, list_known}
use Rattle.grown_plans.specs.declared.grown_list.GrownList.{GrownList}

pub list_of : (t : Subject) (d : ℕ) (asked : Asked) (a : Answered) (list : GrownList) (further : List Entries) → IsComponent a.points a.listed t → AreKnown t d (runs_in a) list
    → further ≡ further_known t asked (clean_run a) → IsListOf t d asked a list further
list_of t d asked a list further is known same = record {
  grown = known;
  whole =
      ap (λ (ps : List (List Rig)). grown_scenarios a.points ps ++ further) known.plans
      ∙ ap (λ (l : List Entries). grown_scenarios a.points (known_part t d (runs_in a)) ++ l) same
      ∙ ap (λ (names : List (List ℕ)). grown_scenarios names (known_part t d (runs_in a)) ++ further_known t asked (clean_run a)) (sym is.names);
}

-- ---- if the hits of each run are recorded

pub empty_first : (t : Subject) (d : ℕ) → Contains (grown t d) []
unfolding level
empty_first t d = Contains-append_left (levels t d) (onward t d) [] (level_in_levels t d 0 [] (omega arith) (contains_head [] []))

further_all : (t : Subject) (asked : Asked) (o : Option Told) → are_told (hits_told o) ≡ true → further_known t asked o ≡ further_of t asked
further_all t asked None e = absurd cc
further_all t asked (Some told) e = by_hits told.hits e
  where
    by_hits : (o : Option (List ℕ)) → are_told o ≡ true → further_seen t asked o ≡ further_of t asked
    by_hits None h = absurd cc
    by_hits (Some hits) h = refl

-- the list is the whole one
pub list_whole : (t : Subject) (d : ℕ) (asked : Asked) (known : KnownRuns) → IsWholeList t d known → are_told (hits_of known []) ≡ true
    → list_known t d asked known ≡ grown_list t d asked (sites_of (census_of t.asks t.names asked.seed t.limit))
list_whole t d asked known whole clean =
    ap (λ (ps : List (List Rig)). map (scenario_of t) ps ++ further_known t asked (known [])) whole.list
    ∙ ap (λ (l : List Entries). map (scenario_of t) (grown t d) ++ l) (further_all t asked (known []) clean)
    ∙ sym (append_assoc (map (scenario_of t) (grown t d)) (storm_part t.names asked.seed asked.rate asked.storms (sites_of (census_of t.asks t.names asked.seed t.limit))) asked.listed)
