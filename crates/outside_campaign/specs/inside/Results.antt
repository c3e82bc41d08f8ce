-- What a campaign's plans come to by answers. Private contracts cite it.
use Rattle.std.specs.Prelude.{◌≡◌, ℕ, List, ◌∷◌, slice_index_or, None}
use Rattle.scenario_values.specs.Scenario.{Entries}
use Rattle.target_trait.specs.declared.judgement.Verdict.{Verdict}
use Rattle.target_trait.specs.declared.judgement.Verdict.TheVariants as verdict
use Rattle.report.specs.Reports.{FindingFacts, ReportFacts}
use Rattle.answer_text.specs.Known.{KnownVerdicts}
use Rattle.campaign_given.specs.Description.{Description}
use Rattle.outside_campaign.specs.Told.{AreVerdicts}
use Rattle.outside_campaign.specs.declared.verdicts.Verdicts.TheVariants as verdicts
use Rattle.outside_campaign.specs.declared.results.Results.{Results}
use Rattle.outside_campaign.specs.declared.results.Results.TheVariants.{Told, NotAnswered}

-- The first of these scenarios is still to be tried.
abbrev pub IsFirst : List Entries → Results → Type 0
IsFirst requests (Told verdicts findings) = ⊥
IsFirst requests (NotAnswered t) = (more : List Entries) × (requests ≡ t ∷ more)

-- No plan is open, and these are the verdicts of each family of components that agrees with what is known, with these findings. Or else this is the
-- first open plan.
abbrev pub AreWithVerdicts : KnownVerdicts → List Entries → List FindingFacts → Results → Type 0
AreWithVerdicts known plans findings (Told all told) =
    (told.items ≡ findings) × AreVerdicts known plans (verdicts.All all)
AreWithVerdicts known plans findings (NotAnswered t) = AreVerdicts known plans (verdicts.NotAnswered t)

-- The facts of a report, by the words and numbers of the settings and by the results.
abbrev pub facts_of : Description → ℕ → List Verdict → ℕ → List FindingFacts → ReportFacts
facts_of outside seed verdicts unmet findings = record {
  label = outside.label;
  seed = seed;
  clean = slice_index_or verdicts 0 verdict.Unresolved;
  census = outside.hits;
  verdicts = verdicts;
  unmet = unmet;
  findings = findings;
  growth = None;
}
