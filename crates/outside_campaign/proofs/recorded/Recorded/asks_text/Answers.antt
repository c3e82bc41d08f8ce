use Rattle.std.proofs.Common.{subst, sym}
use Rattle.std.specs.String.{string_bytes}
use Rattle.outside_campaign.specs.Recorded.{Records, RecordsByCensus, depth_of}
use Rattle.outside_campaign.specs.declared.recorded.Recorded.{Recorded}
use Rattle.outside_campaign.specs.with_depth.Questions.{IsAskedTo}
use Rattle.outside_campaign.proofs.RecordedLemmas.{asked_by}
use Rattle.outside_campaign.proofs.recorded.Recorded.asks_text.Goals as goal

pub returns-in_ok-asks_text-in-ByCensus-clause-text : goal.returns-in_ok-asks_text-in-ByCensus-clause-text
returns-in_ok-asks_text-in-ByCensus-clause-text c = λ answers records.
    let outside = c.args.campaign.now.outside.now in
    let given = c.args.campaign.now.settings.now in
    let known : RecordsByCensus outside given answers c.in-ByCensus.runs.now c.in-ByCensus.plans.now = subst (Records outside given answers) c.in-ByCensus.is records in
    let text = string_bytes c.in_ok-asks_text-in-ByCensus.field-0 in
    subst (λ (r : Recorded). IsAskedTo (depth_of r) outside given answers text) (sym c.in-ByCensus.is)
    (asked_by outside given answers _ _ known text c.in_ok-asks_text-in-ByCensus.ensures)
