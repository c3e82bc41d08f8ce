-- What a campaign comes to, as a function of what its target asks and of its settings.
use Rattle.std.specs.Prelude.{◌≡◌, ℕ, List, [], Option, None, Some, IfSome, All, map, slice_get}
use Rattle.scenario_values.specs.Scenario.{Entries}
use Rattle.action_eval.specs.Answers.{Reply}
use Rattle.action_eval.specs.declared.rig.Kind.{Kind}
use Rattle.action_eval.specs.declared.rig.Rig.{Rig}
use Rattle.target_trait.specs.declared.judgement.Verdict.{Verdict}
use Rattle.target_trait.specs.declared.target.Target.{Ghosts}
use Rattle.target_trait.specs.Outcomes.{verdict_with}
use Rattle.target_trait.specs.Play.{Move}
use Rattle.plan_gen.specs.Census.{census_of, sites_of}
use Rattle.plan_gen.specs.PlanList.{plan_list}
use Rattle.grown_plans.specs.GrownPlans.{usual_kinds, run_of_plan, grown, grown_list}
use Rattle.grown_plans.specs.GrownPlans.{Subject as Grower}
use Rattle.campaign_given.specs.Given.{Given, with_workers}
use Rattle.result_book.specs.Verdicts.{verdicts_from, numbered}
use Rattle.result_book.specs.FirstFailures.{first_failures as first_of_each}
use Rattle.report.specs.Reports.{GrowthFacts, ReportFacts}
use Rattle.campaign_core.specs.promises.Told.{Told}
use Rattle.campaign_core.specs.promises.Promises.{Promises}
use Rattle.campaign_core.specs.promises.Further.{Further}
use Rattle.campaign_core.specs.declared.subject.Subject.{Subject}
use Rattle.campaign_core.specs.Findings.{report_of, growth_of, ReducesToMinimal, IsCauseAmong}

-- What a campaign is given: what its target asks when it runs the workload, the names of the points and of the codes,
-- the target's label, the kinds of faults that plans grow by at each point, and the settings. The settings include the
-- number of workers, but no result of a campaign depends on it.
pub record Campaign : Type 0 where
  pub asks : List Reply → Move
  pub points : List (List ℕ)
  pub codes : ℕ → List ℕ
  pub label : List ℕ
  pub kinds : ℕ → List Kind
  pub given : Given

-- The campaign of a target, whose plans grow by the usual kinds of faults.
abbrev pub campaign_of : (List Reply → Move) → List (List ℕ) → (ℕ → List ℕ) → List ℕ → Given → Campaign
campaign_of asks points codes label given = record {
  asks = asks;
  points = points;
  codes = codes;
  label = label;
  kinds = usual_kinds points;
  given = given;
}

-- The same, given a target's setup, its workload and the settings.
abbrev pub campaign_on : {T W : Type 0} → Ghosts T W → T → W → Given → Campaign
campaign_on target setup workload given =
    campaign_of (target.asks setup workload) target.names target.code_text (target.label_of setup) given

-- The same, given the subject that is tried.
abbrev pub campaign_in : {T W : Type 0} → Ghosts T W → Subject T W → Campaign
campaign_in target tried = campaign_on target tried.target.now tried.workload.now tried.settings.now

-- The same campaign with this many workers.
abbrev pub on_workers : ℕ → Campaign → Campaign
on_workers workers c = record {
  asks = c.asks;
  points = c.points;
  codes = c.codes;
  label = c.label;
  kinds = c.kinds;
  given = with_workers workers c.given;
}

-- The verdict of a scenario under a stream number.
abbrev pub say : Campaign → ℕ → Entries → Verdict
say c = verdict_with c.asks c.points c.given.plans.seed c.given.max_hits

-- How often each point is asked without faults.
abbrev pub census : Campaign → List ℕ
census c = census_of c.asks c.points c.given.plans.seed c.given.max_hits

-- What plans grow from: the runs of this subject.
abbrev pub grower : Campaign → Grower
grower c = record { asks = c.asks; names = c.points; limit = c.given.max_hits; kinds = c.kinds }

-- The list of plans: without a depth that of the census; with one, the plans that grow from each other's runs, storms and listed scenarios.
abbrev pub plans_to : Campaign → Option ℕ → List Entries
plans_to c None = plan_list c.points (census c) c.given.plans
plans_to c (Some depth) = grown_list (grower c) depth c.given.plans (sites_of (census c))

abbrev pub plans : Campaign → List Entries
plans c = plans_to c c.given.depth

-- How the plans grew, if there is a depth.
abbrev pub growth : Campaign → Option GrowthFacts
growth c = growth_of (grower c) c.given.plans.seed (plans c) c.given.depth

-- The report.
abbrev pub report : Campaign → ReportFacts
report c = report_of (say c) c.label c.given.plans.seed (census c) (plans c) (growth c)

-- For each code with which a plan fails, the lowest number of such a plan, and the code, in the order of the numbers.
abbrev pub first_failures : Campaign → List (ℕ × ℕ)
first_failures c = first_of_each (numbered (verdicts_from (say c) 0 (plans c)))

-- The first of them: the lowest number of a plan that fails, with its code.
abbrev pub first_failure : Campaign → Option (ℕ × ℕ)
first_failure c = slice_get (first_failures c) 0

-- For each first failure of the report: its reduced scenario fails with the failure's code, under the same seed and limit and with its number as the
-- stream number, and no single fault can be left out of it.
abbrev pub EachIsMinimal : Campaign → Type 0
EachIsMinimal c = All (ReducesToMinimal (say c)) (report c).findings

-- The report, and the behaviours of the plans that grew.
abbrev pub told_in : Campaign → GrowthFacts → Told
told_in c growth = record {
  report = report c;
  growth = growth;
  behaviours = map (run_of_plan (grower c)) (grown (grower c) growth.depth);
}

-- What the report of a campaign promises, if its settings give a depth: it tells how plans grew to that depth, and that is so.
abbrev pub KeepsPromises : Campaign → Type 0
KeepsPromises c = (depth : ℕ) → c.given.depth ≡ Some depth
    → (growth : GrowthFacts) × Promises (grower c) depth (told_in c growth) × Further (grower c) (plans c) (told_in c growth)

-- Each cause that the report lists is one, including those with a sticky fault.
abbrev pub EachIsCause : Campaign → Type 0
EachIsCause c = IfSome (report c).growth (λ growth. All (IsCauseAmong (grower c) c.given.plans.seed (grown (grower c) growth.depth)) growth.causes)

pub record EachIsTried (c : Campaign) : Type 0 where
  pub promises : KeepsPromises c
  pub causes : EachIsCause c

-- The plans that grow to a depth. Without a depth there are none.
abbrev pub grown_to : Campaign → Option ℕ → List (List Rig)
grown_to c None = []
grown_to c (Some depth) = grown (grower c) depth
