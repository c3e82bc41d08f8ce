-- Rigged hits, found term by term and point by point.
use Rattle.std.proofs.Common.{◌≡◌, ℕ, ◌+◌, Bool, true, false, List, [], ◌∷◌, Option, Some, None, ap, sym, ◌∙◌}
use Rattle.std.specs.Prelude.{option_and_then}
use Rattle.scenario_values.specs.Scenario.{Entries}
use Rattle.scenario_values.specs.declared.term.Term.{Term}
use Rattle.action_eval.specs.declared.rig.Rig.{Rig}
use Rattle.answered_runs.specs.Rigged.{chain_into, chain_named, points_into, term_into}
use Rattle.answered_runs.specs.inside.Steps.{Took, TookTo}

-- ---- a chain

pub chain_goes : (point done : ℕ) (ts rest : List Term) (t : Term) (rigs more : List Rig) (hit : ℕ) (whole : Option (List Rig)) → ts ≡ t ∷ rest → term_into point done t rigs ≡ Some (hit, more) → chain_into point done ts rigs ≡ whole → chain_into point hit rest more ≡ whole
unfolding chain_into
chain_goes point done ts rest t rigs more hit whole is here e =
    sym (ap (λ (l : List Term). chain_into point done l rigs) is ∙ ap (option_and_then (λ (next : ℕ × List Rig). chain_into point next.0 rest next.1)) here) ∙ e

pub chain_stops : (point done : ℕ) (ts rest : List Term) (t : Term) (rigs : List Rig) (whole : Option (List Rig)) → ts ≡ t ∷ rest → term_into point done t rigs ≡ None → chain_into point done ts rigs ≡ whole → whole ≡ None
unfolding chain_into
chain_stops point done ts rest t rigs whole is here e =
    sym e ∙ ap (λ (l : List Term). chain_into point done l rigs) is ∙ ap (option_and_then (λ (next : ℕ × List Rig). chain_into point next.0 rest next.1)) here

pub chain_ends : (point done : ℕ) (ts : List Term) (rigs : List Rig) (whole : Option (List Rig)) → ts ≡ [] → chain_into point done ts rigs ≡ whole → whole ≡ Some rigs
unfolding chain_into
chain_ends point done ts rigs whole is e = sym e ∙ ap (λ (l : List Term). chain_into point done l rigs) is

-- ---- points

pub points_go : (s : Entries) (point : ℕ) (names rest : List (List ℕ)) (name : List ℕ) (rigs more : List Rig) (whole : Option (List Rig)) → names ≡ name ∷ rest → chain_into point 0 (chain_named s name) rigs ≡ Some more → points_into s point names rigs ≡ whole
    → points_into s (point + 1) rest more ≡ whole
unfolding points_into
points_go s point names rest name rigs more whole is here e =
    sym (ap (λ (l : List (List ℕ)). points_into s point l rigs) is ∙ ap (option_and_then (points_into s (point + 1) rest)) here) ∙ e

pub points_stop : (s : Entries) (point : ℕ) (names rest : List (List ℕ)) (name : List ℕ) (rigs : List Rig) (whole : Option (List Rig)) → names ≡ name ∷ rest → chain_into point 0 (chain_named s name) rigs ≡ None → points_into s point names rigs ≡ whole → whole ≡ None
unfolding points_into
points_stop s point names rest name rigs whole is here e =
    sym e ∙ ap (λ (l : List (List ℕ)). points_into s point l rigs) is ∙ ap (option_and_then (points_into s (point + 1) rest)) here

pub points_end : (s : Entries) (point : ℕ) (names : List (List ℕ)) (rigs : List Rig) (whole : Option (List Rig)) → names ≡ [] → points_into s point names rigs ≡ whole → whole ≡ Some rigs
unfolding points_into
points_end s point names rigs whole is e = sym e ∙ ap (λ (l : List (List ℕ)). points_into s point l rigs) is

-- ---- what a call took

pub took_all : (o : Option (List Rig)) (rigs : List Rig) (b : Bool) → Took o rigs b → b ≡ true → o ≡ Some rigs
took_all o rigs true t e = t
took_all o rigs false t e = absurd cc

pub took_none : (o : Option (List Rig)) (rigs : List Rig) (b : Bool) → Took o rigs b → b ≡ false → o ≡ None
took_none o rigs true t e = absurd cc
took_none o rigs false t e = t

pub took_to : (o : Option (ℕ × List Rig)) (rigs : List Rig) (n : Option ℕ) (hit : ℕ) → TookTo o rigs n → n ≡ Some hit → o ≡ Some (hit, rigs)
took_to o rigs None hit t e = absurd cc
took_to o rigs (Some k) hit t e = t ∙ ap (λ (x : ℕ). Some (x, rigs)) (let same : k ≡ hit = cc in same)

pub took_to_none : (o : Option (ℕ × List Rig)) (rigs : List Rig) (n : Option ℕ) → TookTo o rigs n → n ≡ None → o ≡ None
took_to_none o rigs None t e = t
took_to_none o rigs (Some k) t e = absurd cc
