use Rattle.std.proofs.Common.{subst, sym}
use Rattle.std.specs.String.{string_bytes}
use Rattle.outside_campaign.specs.Recorded.{Records, RecordsByCensus, depth_of}
use Rattle.outside_campaign.specs.declared.recorded.Recorded.{Recorded}
use Rattle.outside_campaign.specs.with_depth.Questions.{IsKnownTo}
use Rattle.outside_campaign.proofs.RecordedLemmas.{known_by}
use Rattle.outside_campaign.proofs.recorded.Recorded.partial_text.Goals as goal

pub returns-in_ok-partial_text-in-ByCensus-clause-text : goal.returns-in_ok-partial_text-in-ByCensus-clause-text
returns-in_ok-partial_text-in-ByCensus-clause-text c = λ answers records.
    let outside = c.args.campaign.now.outside.now in
    let given = c.args.campaign.now.settings.now in
    let known : RecordsByCensus outside given answers c.in-ByCensus.runs.now c.in-ByCensus.plans.now = subst (Records outside given answers) c.in-ByCensus.is records in
    let text = string_bytes c.in_ok-partial_text-in-ByCensus.field-0.0 in
    let found = c.in_ok-partial_text-in-ByCensus.field-0.1 in
    let h = c.in_ok-partial_text-in-ByCensus.ensures in
    subst (λ (r : Recorded). IsKnownTo (depth_of r) outside given answers text found) (sym c.in-ByCensus.is)
    (known_by outside given answers _ _ known text found h.text h.fails)
