-- Chains and scenarios of which it is easily seen that tidying changes nothing. Private contracts cite it.
use Rattle.std.specs.Prelude.{◌&&◌, Bool, false, List, [], ◌∷◌, not}
use Rattle.std.specs.List.{list_all}
use Rattle.scenario_values.specs.declared.term.Term.{Term}
use Rattle.scenario_values.specs.Scenario.{Entries}
use Rattle.scenario_values.specs.Tidied.{is_endless, is_idle, is_live}

-- A term with another one behind it, if both stay and aren't joined.
abbrev pub leads_to : Term → Term → Bool
leads_to t next = is_live t && not (is_endless t) && not (is_idle t && is_idle next)

-- The last term, if it stays.
abbrev pub ends_chain : Term → Bool
ends_chain t = is_live t && not (is_idle t)

abbrev pub is_tidy_from : Term → List Term → Bool
is_tidy_from t [] = ends_chain t
is_tidy_from t (next ∷ more) = leads_to t next && is_tidy_from next more

abbrev pub is_tidy_chain : List Term → Bool
is_tidy_chain [] = false
is_tidy_chain (t ∷ more) = is_tidy_from t more

abbrev pub is_tidy : Entries → Bool
is_tidy s = list_all (λ e. is_tidy_chain e.1) s
