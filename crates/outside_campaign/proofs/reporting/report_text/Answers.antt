use Rattle.std.proofs.Common.{◌≡◌, List, ℕ, length, ap, sym, subst, ◌∙◌, arith, option_map}
use Rattle.std.specs.Prelude.{slice_get}
use Rattle.target_trait.specs.declared.judgement.Verdict.{Verdict}
use Rattle.report.specs.Reports.{FindingFacts, ReportFacts}
use Rattle.action_eval.specs.Answers.{texts}
use Rattle.answer_text.specs.Known.{verdicts_in}
use Rattle.answer_text.specs.Runs.{told_in}
use Rattle.campaign_given.specs.Description.{Description, IsDescription}
use Rattle.campaign_given.specs.Given.{Given}
use Rattle.outside_campaign.specs.Campaigns.{unmet_by, untried}
use Rattle.outside_campaign.specs.inside.Results.{facts_of}
use Rattle.outside_campaign.proofs.ResultLemmas.{reported_is, first_told, unmet_is, verdicts_each}
use Rattle.outside_campaign.proofs.reporting.report_text.Goals as goal

pub report_of-report-requires : goal.report_of-report-requires
report_of-report-requires c =
    let h = rw c.in-Told.is at c.in_ok-scenario.ensures in
    let each = ap length c.as_slice-in-Told-2.ensures.value ∙ verdicts_each (verdicts_in (told_in c.args.known.now)) c.args.plans.now c.in-Told.verdicts.items c.in-Told.findings.items h.1 in
    let some = c.requires.some in
    omega (arith, each, some)

pub reported_text-requires-clause-lawful : goal.reported_text-requires-clause-lawful
reported_text-requires-clause-lawful c = subst IsDescription c.outside.view_is c.outside.invariant

pub reported_text-requires-clause-census : goal.reported_text-requires-clause-census
reported_text-requires-clause-census c = ap (λ (r : ReportFacts). r.census) c.report_of-report.ensures

pub reported_text-requires-clause-growth : goal.reported_text-requires-clause-growth
reported_text-requires-clause-growth c = ap (λ (r : ReportFacts). r.growth) c.report_of-report.ensures

pub reported_text-requires-clause-each : goal.reported_text-requires-clause-each
reported_text-requires-clause-each c =
    let h = rw c.in-Told.is at c.in_ok-scenario.ensures in
    ap (λ (r : ReportFacts). length r.verdicts) c.report_of-report.ensures ∙ ap length c.as_slice-in-Told-2.ensures.value
    ∙ verdicts_each (verdicts_in (told_in c.args.known.now)) c.args.plans.now c.in-Told.verdicts.items c.in-Told.findings.items h.1

pub returns-clause-text : goal.returns-clause-text
returns-clause-text c =
    let h = rw c.in-Told.is at c.in_ok-scenario.ensures in
    let outside = c.args.campaign.now.outside.now in
    let given = c.args.campaign.now.settings.now in
    let facts : ℕ → List Verdict → ℕ → ReportFacts = λ seed vs unmet. facts_of outside seed vs unmet c.in-Told.findings.items in
    let points : texts c.as_slice-in-Told.result.now ≡ outside.points =
    ap texts c.as_slice-in-Told.ensures.value ∙ c.in_ok-points.ensures ∙ c.as_slice.ensures.value ∙ ap (λ (d : Description). d.points) c.outside.view_is in
    let unmet : c.in_ok-unmet-in-Told.unmet ≡ unmet_by outside given (told_in c.args.known.now) =
    unmet_is outside given (texts c.as_slice-in-Told.result.now) (told_in c.args.known.now) c.args.plans.now c.in_ok-unmet-in-Told.unmet points c.requires.plans c.in_ok-unmet-in-Told.ensures in
    reported_is c.args.form.now outside given (told_in c.args.known.now) c.args.plans.now c.in-Told.verdicts.items c.in-Told.findings.items c.report_of-report.result c.in_ok-text-in-Told.text.items c.requires.plans h.1
    (c.report_of-report.ensures ∙ ap (λ (vs : List Verdict). facts c.settings.inside.seed vs c.in_ok-unmet-in-Told.unmet) c.as_slice-in-Told-2.ensures.value
    ∙ ap (λ (s : Given). facts s.plans.seed c.in-Told.verdicts.items c.in_ok-unmet-in-Told.unmet) c.settings.view_is ∙ ap (facts given.plans.seed c.in-Told.verdicts.items) unmet)
    c.in_ok-text-in-Told.ensures

pub returns-clause-first : goal.returns-clause-first
returns-clause-first c =
    let h = rw c.in-Told.is at c.in_ok-scenario.ensures in
    first_told c.args.campaign.now.outside.now c.args.campaign.now.settings.now (told_in c.args.known.now) c.args.plans.now c.in-Told.verdicts.items c.in-Told.findings.items c.first_number-first.result c.requires.plans h.1
    (c.first_number-first.ensures ∙ ap (λ (fs : List FindingFacts). option_map (λ f. f.number) (slice_get fs 0)) c.deref.ensures.value)

pub returns-clause-all : goal.returns-clause-all
returns-clause-all c =
    let h = rw c.in-Told.is at c.in_ok-scenario.ensures in
    ap (untried (verdicts_in (told_in c.args.known.now))) (sym c.requires.plans) ∙ h.0

pub returns-in-NotAnswered-clause-fault : goal.returns-in-NotAnswered-clause-fault
returns-in-NotAnswered-clause-fault c =
    let h = rw c.in-NotAnswered.is at c.in_ok-scenario.ensures in
    (h.0, ap (untried (verdicts_in (told_in c.args.known.now))) (sym c.requires.plans) ∙ h.1)
