-- How often a point is asked, and what holds of the runs by which a loop takes the census. Private contracts cite the latter.
use Rattle.std.specs.Prelude.{◌≡◌, ℕ, ◌<◌, ◌==◌, nat_le, if◌then◌else◌, Bool, None, List, [], ◌∷◌, count_by, length}
use Rattle.scenario_values.specs.Scenario.{Entries}
use Rattle.action_eval.specs.Answers.{Reply, given_of}
use Rattle.target_trait.specs.Play.{Move}
use Rattle.target_trait.specs.Outcomes.{outcome}
use Rattle.action_eval.specs.declared.rig.Kind.{Kind}
use Rattle.action_eval.specs.declared.rig.Kind.TheVariants.{OnceReturn, OnwardReturn}
use Rattle.action_eval.specs.RiggedScenario.{rig, rigged_scenario}

-- How often a point is among those asked.
abbrev pub times : ℕ → List ℕ → ℕ
times p asked = count_by (λ q. q == p) asked

-- How often a play of a scenario asks a point.
unfoldable pub times_of : (List Reply → Move) → List (List ℕ) → ℕ → ℕ → Entries → ℕ → ℕ
times_of asks names seed limit s p = times p (outcome asks (given_of s names seed 0 limit)).asked

abbrev pub loop_kind : Bool → Kind
loop_kind onward = if onward then OnwardReturn None else OnceReturn None

-- A rigged hit is met exactly if the run without faults has that hit.
abbrev pub IsMetAlike : (List Reply → Move) → List (List ℕ) → ℕ → ℕ → Kind → Type 0
IsMetAlike asks names seed limit kind =
    (p k : ℕ) → p < length names → 0 < k →
    nat_le k (times_of asks names seed limit (rigged_scenario names (rig (record { point = p; hit = k }) kind ∷ [])) p)
    ≡ nat_le k (times_of asks names seed limit [] p)
