-- What a campaign's plans come to.
use Rattle.std.specs.Prelude.{◌≡◌, ℕ, List, length}
use Rattle.scenario_values.specs.Scenario.{Entries}
use Rattle.target_trait.specs.declared.judgement.Verdict.{Verdict}
use Rattle.result_book.specs.Runs.{runs_from, unreached_in}
use Rattle.result_book.specs.Verdicts.{verdicts_from, numbered}
use Rattle.result_book.specs.FirstFailures.{first_failures}
use Rattle.campaign_core.specs.CommandTexts.{tried}
use Rattle.campaign_core.specs.Headline.{Campaign, plans, say}
use Rattle.campaign_core.specs.Planned.{IsPlanned}
use Rattle.campaign_core.specs.declared.ran.Ran.{Ran}
use Rattle.campaign_core.specs.declared.results.Results.{Results}

-- These are the verdicts of the plans, and for each code the first plan that fails with it.
abbrev pub AreResults : (ℕ → Entries → Verdict) → List Entries → Results → Type 0
AreResults say plans results =
    (results.verdicts.items ≡ verdicts_from say 0 plans)
    × (results.firsts.items ≡ first_failures (numbered (verdicts_from say 0 plans)))

-- A campaign's plans, and what they come to.
pub record IsRan (c : Campaign) (r : Ran) : Type 0 where
  pub planned : IsPlanned c r.planned
  pub results : AreResults (say c) (plans c) r.results

-- The numbers of the points that no run of a plan asks.
abbrev pub unreached : Campaign → List ℕ
unreached c = unreached_in (length c.points) (runs_from (tried c) 0 (plans c))
