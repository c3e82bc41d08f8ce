-- The plan that a plan grew from.
use Rattle.std.proofs.Common.{◌≡◌, ℕ, ◌<◌, ◌≤◌, List, [], ◌∷◌, take, get_or, length, Some, ap, sym, ◌∙◌, arith}
use Rattle.std.proofs.lemmas.List.{get_or-map, get_or-take, length-map, length-take}
use Rattle.scenario_values.specs.Scenario.{Entries}
use Rattle.action_eval.specs.declared.rig.Rig.{Rig}
use Rattle.grown_plans.specs.numbered.GrownScenarios.{grown_scenario, grown_scenarios}
use Rattle.report.specs.forms.Runs.{parent_at, parent_of}

-- each plan that grew is one of the list
pub grown_within : (grown : List (List Rig)) (plans : List Entries) (points : List (List ℕ)) (n : ℕ) → take (length grown) plans ≡ grown_scenarios points grown
    → n < length grown → n < length plans
grown_within grown plans points n first within =
    let taken = length-take (length grown) plans in
    let same : length (take (length grown) plans) ≡ length grown = ap length first ∙ length-map grown (grown_scenario points) in
    omega (arith, within, taken, same)

-- The parent of a plan with two faults or more has the scenario of its faults except the last.
pub parent_is : (grown : List (List Rig)) (plans : List Entries) (points : List (List ℕ)) (n parent : ℕ) (faults : List Rig) → parent < length grown → take (length grown) plans ≡ grown_scenarios points grown
    → faults ≡ get_or grown n [] → 2 ≤ length faults → ((r : Rig) (rs : List Rig) → get_or grown n [] ≡ r ∷ rs → get_or grown parent [] ≡ rs)
    → Some (get_or plans parent []) ≡ parent_at points grown n
parent_is grown plans points n parent [] within first is many up = absurd (omega (arith, many))
parent_is grown plans points n parent (last ∷ []) within first is many up = absurd (omega (arith, many))
parent_is grown plans points n parent (last ∷ (r ∷ rs)) within first is many up =
    let grew = up last (r ∷ rs) (sym is) in
    ap (λ (s : Entries). Some s)
    (sym (get_or-take (length grown) plans parent [] within) ∙ ap (λ (l : List Entries). get_or l parent []) first
    ∙ get_or-map (grown_scenario points) grown parent [] [] within ∙ ap (grown_scenario points) grew)
    ∙ ap (parent_of points) is
