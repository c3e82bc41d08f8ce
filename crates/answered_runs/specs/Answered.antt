-- What answers record of the runs of plans that grow.
use Rattle.std.specs.Prelude.{ℕ, ◌≤◌, ◌&&◌, Bool, List, Option, None, Some, length, nat_le, nat_lt, option_map, option_and_then, if◌then◌else◌}
use Rattle.std.specs.List.{list_all}
use Rattle.scenario_values.specs.Tidied.{tidied}
use Rattle.answer_text.specs.Hits.{most_hits, points_of}
use Rattle.answer_text.specs.Runs.{KnownRuns, RunBook, told_in}
use Rattle.answer_text.specs.declared.hits.Stretch.{Stretch}
use Rattle.answer_text.specs.declared.runs.ToldRun.{ToldRun}
use Rattle.action_eval.specs.declared.rig.Kind.{Kind}
use Rattle.action_eval.specs.declared.rig.Rig.{Rig}
use Rattle.grown_plans.specs.numbered.GrownScenarios.{grown_scenario}
use Rattle.grown_plans.specs.GrownPlans.{kinds_at, tried_over}
use Rattle.grown_plans.specs.Promises.{CanBeTried}
use Rattle.grown_runs.specs.known.Known.{Told}
use Rattle.grown_runs.specs.known.Known.{KnownRuns as PlanRuns}
use Rattle.grown_runs.specs.known.Looks.{told}
use Rattle.grown_runs.specs.known.ToldPart.{part_known}

-- The names of a component's points; the kinds of faults that are listed for each of them; and the recorded run of each printed scenario.
pub record Answered : Type 0 where
  pub points : List (List ℕ)
  pub listed : List (List Kind)
  pub book : RunBook

abbrev pub answered : List (List ℕ) → List (List Kind) → RunBook → Answered
answered points listed book = record { points = points; listed = listed; book = book }

-- At most 8 kinds are listed for a point, and a lawful subject may try each of them.
pub record CanBeListed (kinds : List Kind) : Type 0 where
  pub few : length kinds ≤ 8
  pub tried : CanBeTried kinds

-- The kinds that are tried at a point: those that are listed for it, or else the usual ones.
abbrev pub kinds_over : List (List ℕ) → List (List Kind) → ℕ → List Kind
kinds_over points listed = kinds_at (tried_over points listed)

-- The points of a run's hits, one for each hit. A line has hits of at most 64 points, and at most `most_hits` hits.
abbrev pub is_low : Stretch → Bool
is_low s = nat_lt s.point 64

abbrev pub hits_by : List Stretch → Option (List ℕ)
hits_by hits = if list_all is_low hits && nat_le (length (points_of hits)) most_hits then Some (points_of hits) else None

-- What is recorded of a run, from what a line says.
abbrev pub told_of : ToldRun → Told
told_of r = told r.verdict (option_and_then hits_by r.hits)

-- What is recorded of the tidied scenario of a plan with at most 64 faults.
abbrev pub plan_told : Answered → List Rig → Option ToldRun
plan_told a plan = if nat_le (length plan) 64 then told_in a.book (tidied (grown_scenario a.points plan)) else None

-- The recorded run of a plan with at most 64 faults: that of its tidied scenario.
abbrev pub plan_runs : List (List ℕ) → KnownRuns → PlanRuns
plan_runs points known plan = if nat_le (length plan) 64 then option_map told_of (known (tidied (grown_scenario points plan))) else None

abbrev pub runs_in : Answered → PlanRuns
runs_in a = plan_runs a.points (told_in a.book)

-- The plans to a depth that are known by now.
abbrev pub known_plans : Answered → ℕ → List (List Rig)
known_plans a depth = part_known (kinds_over a.points a.listed) (runs_in a) depth
