-- The verdicts and findings of a list of plans by what is known: those of every family of components that agrees with it.
use Rattle.std.specs.Prelude.{◌≡◌, ◌<◌, ℕ, List, [], ◌∷◌, Some, length, map}
use Rattle.scenario_values.specs.Scenario.{Entries}
use Rattle.result_book.specs.Verdicts.{verdicts_from}
use Rattle.answer_text.specs.Known.{KnownVerdicts}
use Rattle.campaign_core.specs.Findings.{finding}
use Rattle.outside_campaign.specs.Outside.{Components, say_each, EachAgrees}
use Rattle.outside_campaign.specs.Asked.{open_requests, open_plans, plan_verdicts}
use Rattle.outside_campaign.specs.declared.verdicts.Verdicts.{Verdicts}
use Rattle.outside_campaign.specs.declared.verdicts.Verdicts.TheVariants as verdicts
use Rattle.outside_campaign.specs.declared.findings.Findings.{Findings}
use Rattle.outside_campaign.specs.declared.findings.Findings.TheVariants as findings

-- No plan is open, and these are the plans' verdicts for every family of components that agrees with what is known, with each plan's number as the
-- stream number. Or else this is the first open plan, tidied.
abbrev pub AreVerdicts : KnownVerdicts → List Entries → Verdicts → Type 0
AreVerdicts known plans (verdicts.All all) =
    (map (λ v. Some v) all.items ≡ plan_verdicts known plans) × (open_plans known plans ≡ [])
    × ((components : Components) → EachAgrees components known → all.items ≡ verdicts_from (say_each components) 0 plans)
AreVerdicts known plans (verdicts.NotAnswered t) = (rest : List Entries) × (open_plans known plans ≡ t ∷ rest)

-- Nothing is open, and these are the findings of these failures for every family of components that agrees with what is known. Or else these are the
-- open candidates of their reductions.
abbrev pub AreFindings : KnownVerdicts → List Entries → List (ℕ × ℕ) → Findings → Type 0
AreFindings known plans failures (findings.Told all) =
    (open_requests known plans failures ≡ [])
    × ((components : Components) → EachAgrees components known → all.items ≡ map (finding (say_each components) plans) failures)
AreFindings known plans failures (findings.Open requests) = (0 < length requests.items) × (requests.items ≡ open_requests known plans failures)
