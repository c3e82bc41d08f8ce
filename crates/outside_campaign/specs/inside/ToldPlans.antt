-- The results of a campaign's list of plans, by what is known.
use Rattle.std.specs.Prelude.{◌≡◌, List, [], ◌∷◌, map}
use Rattle.scenario_values.specs.Scenario.{Entries}
use Rattle.target_trait.specs.declared.judgement.Verdict.{Verdict}
use Rattle.result_book.specs.Verdicts.{verdicts_from, numbered}
use Rattle.result_book.specs.FirstFailures.{first_failures}
use Rattle.report.specs.Reports.{FindingFacts}
use Rattle.answer_text.specs.Known.{KnownVerdicts}
use Rattle.campaign_core.specs.Findings.{finding}
use Rattle.outside_campaign.specs.Outside.{Components, say_each, EachAgrees}
use Rattle.outside_campaign.specs.Campaigns.{untried}
use Rattle.outside_campaign.specs.declared.results.Results.{Results}
use Rattle.outside_campaign.specs.declared.results.Results.TheVariants.{Told, NotAnswered}

-- These verdicts and findings are those of a family of components.
pub record AreOf (components : Components) (plans : List Entries) (verdicts : List Verdict) (findings : List FindingFacts) : Type 0 where
  pub verdicts_are : verdicts ≡ verdicts_from (say_each components) 0 plans
  pub findings_are : findings ≡ map (finding (say_each components) plans) (first_failures (numbered (verdicts_from (say_each components) 0 plans)))

-- Nothing is to be tried, and the results are those of each family of components that agrees with what is known. Or else this is the first scenario
-- to be tried.
abbrev pub AreResults : KnownVerdicts → List Entries → Results → Type 0
AreResults known plans (Told verdicts findings) =
    (untried known plans ≡ [])
    × ((components : Components) → EachAgrees components known → AreOf components plans verdicts.items findings.items)
AreResults known plans (NotAnswered t) = (more : List Entries) × (untried known plans ≡ t ∷ more)
