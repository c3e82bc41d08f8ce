-- The storms and listed scenarios that follow the plans that grow, by answers.
use Rattle.std.specs.Prelude.{ℕ, ◌+◌, ◌<◌, ◌≤◌, ◌⊎◌, List, [], Option, None, Some, length, option_map, replicate}
use Rattle.std.specs.Option.{option_map_or}
use Rattle.scenario_values.specs.Scenario.{Entries}
use Rattle.plan_gen.specs.Census.{census_of, counts_of}
use Rattle.plan_gen.specs.PlanList.{Asked, further_list, most_plans}
use Rattle.grown_plans.specs.GrownPlans.{Subject}
use Rattle.grown_runs.specs.known.Known.{Told, hits_of}
use Rattle.answered_runs.specs.Answered.{Answered, runs_in}

-- Those over the census of these hits. If the hits aren't recorded, no storm is drawn.
abbrev pub further_over : List (List ℕ) → Asked → Option (List ℕ) → List Entries
further_over points asked None = asked.listed
further_over points asked (Some hits) = further_list points (counts_of (length points) hits) asked

-- Those by the recorded run without faults. Before that run is recorded none are known.
abbrev pub further_by : List (List ℕ) → Asked → Option Told → List Entries
further_by points asked None = []
further_by points asked (Some told) = further_over points asked told.hits

-- The recorded run without faults, and its hits.
abbrev pub clean_run : Answered → Option Told
clean_run a = runs_in a []

abbrev pub clean_hits : Answered → Option (List ℕ)
clean_hits a = hits_of (runs_in a) []

-- The census of the run without faults, if its hits are recorded.
abbrev pub census_told : Answered → Option (List ℕ)
census_told a = option_map (counts_of (length a.points)) (clean_hits a)

abbrev pub further_told : Answered → Asked → List Entries
further_told a asked = further_by a.points asked (clean_run a)

-- If the hits of the run without faults are recorded, they are fewer than the plans that a list may have.
abbrev pub HasFewHits : Answered → Type 0
HasFewHits a = option_map_or length (clean_hits a) 0 < most_plans

-- These after `before` plans would be more than a list may have. Or the run without faults has as many hits as a list may have plans, so that there
-- is no census.
abbrev pub AreTooMany : Answered → Asked → ℕ → Type 0
AreTooMany a asked before =
    (most_plans < before + length (further_told a asked)) ⊎ (most_plans ≤ option_map_or length (clean_hits a) 0)

-- The storms and listed scenarios of a component, over its census.
abbrev pub further_of : Subject → Asked → List Entries
further_of t asked = further_list t.names (census_of t.asks t.names asked.seed t.limit) asked

-- The same, as far as the hits of its run without faults are recorded.
abbrev pub further_seen : Subject → Asked → Option (List ℕ) → List Entries
further_seen t asked None = asked.listed
further_seen t asked (Some hits) = further_of t asked

-- The same, as far as its run without faults is recorded at all.
abbrev pub further_known : Subject → Asked → Option Told → List Entries
further_known t asked None = []
further_known t asked (Some told) = further_seen t asked told.hits

-- The census of a component, if the hits of its run without faults are recorded. Otherwise no point is hit.
abbrev pub census_seen : Subject → ℕ → Option (List ℕ) → List ℕ
census_seen t seed None = replicate (length t.names) 0
census_seen t seed (Some hits) = census_of t.asks t.names seed t.limit
