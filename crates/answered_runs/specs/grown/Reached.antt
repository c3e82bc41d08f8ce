-- The most hits of each point that a run has, by answers.
use Rattle.std.specs.Prelude.{◌≡◌, ℕ, ◌<◌, ◌==◌, List, Option, None, Some, count_by, length, map, slice_index_or}
use Rattle.std.specs.List.{filter, range_with_len}
use Rattle.action_eval.specs.declared.rig.Rig.{Rig}
use Rattle.plan_gen.specs.LoopRuns.{times}
use Rattle.grown_plans.specs.GrownPlans.{Subject, most, run_of_plan}
use Rattle.grown_runs.specs.known.Known.{KnownRuns, hits_of}
use Rattle.grown_runs.specs.known.KnownPart.{are_told, known_part}

-- How often a run hits a point, if its hits are recorded.
abbrev pub times_told : ℕ → Option (List ℕ) → ℕ
times_told point None = 0
times_told point (Some hits) = times point hits

-- The most hits of a point that a run of one of these plans has.
abbrev pub reached_told : KnownRuns → List (List Rig) → ℕ → ℕ
reached_told runs plans point = most (map (λ plan. times_told point (hits_of runs plan)) plans)

-- Each of these counts is that of the point whose number is the count's place.
abbrev pub AreMostTold : KnownRuns → List (List Rig) → List ℕ → Type 0
AreMostTold runs plans counts = (point : ℕ) → point < length counts → slice_index_or counts point 0 ≡ reached_told runs plans point

-- The most hits of a point that a run of a component's known plans has, among those whose hits are recorded.
abbrev pub reached_known : Subject → ℕ → KnownRuns → ℕ → ℕ
reached_known t d known point =
    most (map (λ plan. count_by (λ m. m.site.point == point) (run_of_plan t plan)) (filter (λ plan. are_told (hits_of known plan)) (known_part t d known)))

-- The same for each point.
abbrev pub reached_seen : Subject → ℕ → KnownRuns → List ℕ
reached_seen t d known = map (reached_known t d known) (range_with_len 0 (length t.names))
