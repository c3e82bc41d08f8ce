-- How a campaign stores its plans.
use Rattle.std.specs.Prelude.{◌≡◌, ◌≤◌, ◌<◌, ℕ, List, Option, None, Some, length}
use Rattle.std.specs.List.{AllByRecursion}
use Rattle.scenario_values.specs.Scenario.{Entries}
use Rattle.target_trait.specs.declared.judgement.Verdict.{Verdict}
use Rattle.action_eval.specs.RiggedScenario.{CanBeRigged}
use Rattle.plan_gen.specs.PlanList.{most_plans, plan_list, further_list}
use Rattle.grown_plans.specs.GrownPlans.{grown, rigs_of}
use Rattle.grown_runs.specs.declared.levels.Grown.{Grown}
use Rattle.action_eval.specs.declared.rig.Rig.{Rig}
use Rattle.grown_runs.specs.Grown.{HasGrown, begun}
use Rattle.result_book.specs.Ranges.{AreSaid}
use Rattle.campaign_core.specs.Headline.{Campaign, census, grower, plans}
use Rattle.campaign_core.specs.CommandTexts.{with_rest}
use Rattle.campaign_core.specs.declared.planned.Planned.{Planned}

-- The grown plans to a depth, each of which can be rigged.
pub record IsGrown (c : Campaign) (depth : ℕ) (g : Grown) : Type 0 where
  pub has_grown : HasGrown (grower c) c.given.plans.seed depth g
  pub rigs : AllByRecursion (λ plan. CanBeRigged (rigs_of plan)) (grown (grower c) depth)

abbrev pub IsGrownTo : Campaign → Option ℕ → Option Grown → Type 0
IsGrownTo c None None = Unit {0}
IsGrownTo c None (Some g) = ⊥
IsGrownTo c (Some depth) None = ⊥
IsGrownTo c (Some depth) (Some g) = IsGrown c depth g

-- The grown plans with which the list begins, as many as are needed to look at its first `count` plans.
pub record IsBegun (c : Campaign) (depth count : ℕ) (plans : List (List Rig)) : Type 0 where
  pub same : plans ≡ begun (grower c) depth count
  pub rigs : AllByRecursion (λ plan. CanBeRigged (rigs_of plan)) plans
  pub few : with_rest c (length plans) ≤ most_plans
  pub deep : 1 ≤ depth

abbrev pub AreBegun : Campaign → Option ℕ → ℕ → Option (List (List Rig)) → Type 0
AreBegun c None count None = Unit {0}
AreBegun c None count (Some plans) = ⊥
AreBegun c (Some depth) count None = ⊥
AreBegun c (Some depth) count (Some plans) = IsBegun c depth count plans

-- All grown plans.
pub record IsAll (c : Campaign) (depth : ℕ) (plans : List (List Rig)) : Type 0 where
  pub same : plans ≡ grown (grower c) depth
  pub rigs : AllByRecursion (λ plan. CanBeRigged (rigs_of plan)) plans
  pub few : with_rest c (length plans) ≤ most_plans
  pub deep : 1 ≤ depth

abbrev pub AreGrown : Campaign → Option ℕ → Option (List (List Rig)) → Type 0
AreGrown c None None = Unit {0}
AreGrown c None (Some plans) = ⊥
AreGrown c (Some depth) None = ⊥
AreGrown c (Some depth) (Some plans) = IsAll c depth plans

-- The plans that don't grow.
abbrev pub listed_to : Campaign → Option ℕ → List Entries
listed_to c None = plan_list c.points (census c) c.given.plans
listed_to c (Some depth) = further_list c.points (census c) c.given.plans

pub record IsPlanned (c : Campaign) (p : Planned) : Type 0 where
  pub census : p.census.counts.items ≡ census c
  pub counts : length p.census.counts.items ≡ length c.points
  pub points : length c.points ≤ 64
  pub grown : IsGrownTo c c.given.depth p.grown
  pub listed : p.listed ≡ listed_to c c.given.depth
  pub few : length (plans c) ≤ most_plans
  pub some : 0 < length (plans c)

-- The verdicts of the first plans of a campaign.
pub record AreKnown (say : ℕ → Entries → Verdict) (plans : List Entries) (verdicts : List Verdict) : Type 0 where
  pub said : AreSaid say plans 0 verdicts
  pub few : length verdicts ≤ length plans
