use Rattle.std.proofs.Common.{subst, sym}
use Rattle.outside_campaign.specs.Recorded.{Records, RecordsByCensus, depth_of}
use Rattle.outside_campaign.specs.declared.recorded.Recorded.{Recorded}
use Rattle.outside_campaign.specs.with_depth.Questions.{IsReportedTo}
use Rattle.outside_campaign.proofs.RecordedLemmas.{reported_by}
use Rattle.outside_campaign.proofs.recorded.Recorded.report_text.Goals as goal

pub returns-in_ok-report_text-in-ByCensus-clause-text : goal.returns-in_ok-report_text-in-ByCensus-clause-text
returns-in_ok-report_text-in-ByCensus-clause-text c = λ answers records.
    let outside = c.args.campaign.now.outside.now in
    let given = c.args.campaign.now.settings.now in
    let known : RecordsByCensus outside given answers c.in-ByCensus.runs.now c.in-ByCensus.plans.now = subst (Records outside given answers) c.in-ByCensus.is records in
    let text = c.in_ok-report_text-in-ByCensus.field-0.0.items in
    let first = c.in_ok-report_text-in-ByCensus.field-0.1 in
    let h = c.in_ok-report_text-in-ByCensus.ensures in
    subst (λ (r : Recorded). IsReportedTo (depth_of r) c.args.form.now outside given answers text first) (sym c.in-ByCensus.is)
    (reported_by outside given answers _ _ known c.args.form.now text first h.text h.first h.all)
