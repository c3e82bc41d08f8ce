-- The findings of a list of plans, by what is known. Private contracts cite it.
use Rattle.std.specs.Prelude.{◌≡◌, ℕ, ◌<◌, List, [], ◌∷◌, ◌++◌, length}
use Rattle.scenario_values.specs.Scenario.{Entries}
use Rattle.report.specs.Reports.{FindingFacts}
use Rattle.answer_text.specs.Known.{KnownVerdicts}
use Rattle.campaign_core.specs.Findings.{reduction, reduced}
use Rattle.outside_campaign.specs.Outside.{Components, say_each, EachAgrees}
use Rattle.outside_campaign.specs.Reached.{open_candidates}
use Rattle.outside_campaign.specs.declared.findings.Look.{Look}
use Rattle.outside_campaign.specs.declared.findings.Look.TheVariants as look

-- The finding of a scenario that is plan `number` and fails with this code.
abbrev pub told_of : Components → ℕ → ℕ → Entries → FindingFacts
told_of components number code s = record {
  number = number;
  code = code;
  scenario = s;
  reduced = reduced (say_each components) number code s;
  tests = (reduction (say_each components) number code s).tests;
}

-- Nothing is open, and this is the finding for each family of components that agrees with what is known. Or else these are the open candidates of its
-- reduction.
abbrev pub IsLook : KnownVerdicts → ℕ → ℕ → Entries → Look → Type 0
IsLook known number code s (look.Told f) =
    (open_candidates known code s ≡ [])
    × ((components : Components) → EachAgrees components known → f ≡ told_of components number code s)
IsLook known number code s (look.Open requests) = (0 < length requests.items) × (requests.items ≡ open_candidates known code s)

-- What a look adds to what was gathered: a finding, or scenarios that are to be tried.
abbrev pub IsGathered : List FindingFacts → List FindingFacts → List Entries → List Entries → Look → Type 0
IsGathered before after requests requests' (look.Told f) = (after ≡ before ++ f ∷ []) × (requests' ≡ requests)
IsGathered before after requests requests' (look.Open more) = (after ≡ before) × (requests' ≡ requests ++ more.items)
