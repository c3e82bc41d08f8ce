-- The runs of a list of plans, and which points none of them asks.
use Rattle.std.specs.Prelude.{ℕ, ◌+◌, ◌==◌, Bool, not, List, [], ◌∷◌, filter}
use Rattle.std.specs.List.{list_any, range_with_len}
use Rattle.scenario_values.specs.Scenario.{Entries}
use Rattle.action_eval.specs.Answers.{Reply, given_of}
use Rattle.target_trait.specs.Outcomes.{Told, outcome}
use Rattle.target_trait.specs.Play.{Move}
use Rattle.target_trait.specs.declared.target.Target.{Ghosts}
use Rattle.campaign_given.specs.Given.{Given}
use Rattle.result_book.specs.declared.input.RunInput.{RunInput}

-- The run of a scenario under a stream number, with the seed and the limit of these settings.
abbrev pub run_on : (List Reply → Move) → List (List ℕ) → Given → ℕ → Entries → Told
run_on asks names given stream scenario = outcome asks (given_of scenario names given.plans.seed stream given.max_hits)

-- The same on an input.
abbrev pub input_runs : {T W : Type 0} → Ghosts T W → T → RunInput T W → ℕ → Entries → Told
input_runs target setup input = run_on (target.asks setup input.workload.now) target.names input.settings.now

-- The runs of plans that are numbered from n on. Each is run with its number as the stream number.
abbrev pub runs_from : (ℕ → Entries → Told) → ℕ → List Entries → List Told
runs_from run n [] = []
runs_from run n (plan ∷ plans) = run n plan ∷ runs_from run (n + 1) plans

-- Whether a run asks the point of this number.
abbrev pub is_asked : ℕ → List ℕ → Bool
is_asked p asked = list_any (λ q. q == p) asked

-- Whether one of these runs asks the point of this number.
abbrev pub is_reached : List Told → ℕ → Bool
is_reached runs p = list_any (λ r. is_asked p r.asked) runs

-- The ones of these points that no run asks.
abbrev pub unreached_of : List ℕ → List Told → List ℕ
unreached_of points runs = filter (λ p. not (is_reached runs p)) points

-- The numbers of the points that no run asks, in the order of the catalogue.
abbrev pub unreached_in : ℕ → List Told → List ℕ
unreached_in points runs = unreached_of (range_with_len 0 points) runs
