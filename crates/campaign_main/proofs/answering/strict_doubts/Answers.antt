use Rattle.std.proofs.Common.{◌∙◌, ap, subst, sym}
use Rattle.std.proofs.lemmas.Result.{IfOk-weaker}
use Rattle.std.specs.String.{string_bytes}
use Rattle.outside_campaign.specs.Recorded.{Records, RecordsByCensus, RecordsRuns, depth_of}
use Rattle.outside_campaign.specs.declared.recorded.Recorded.{Recorded}
use Rattle.campaign_main.specs.QuestionNotes.{census_doubts, strict_doubts}
use Rattle.campaign_main.proofs.RunLemmas.{told_doubts}
use Rattle.campaign_main.proofs.answering.strict_doubts.Goals as goal

pub returns-in_ok-census_doubts-in-ByCensus-clause-ok : goal.returns-in_ok-census_doubts-in-ByCensus-clause-ok
returns-in_ok-census_doubts-in-ByCensus-clause-ok c = λ answers records.
    let outside = c.args.campaign.now.outside.now in
    let given = c.args.campaign.now.settings.now in
    let known : RecordsByCensus outside given answers c.in-ByCensus.runs.now c.in-ByCensus.plans.now = subst (Records outside given answers) c.in-ByCensus.is records in
    c.in_ok-census_doubts-in-ByCensus.ensures ∙ ap (census_doubts given outside) known.told
    ∙ ap (λ (r : Recorded). strict_doubts (depth_of r) given outside answers) (sym c.in-ByCensus.is)

pub returns-in-ByRuns-clause-ok : goal.returns-in-ByRuns-clause-ok
returns-in-ByRuns-clause-ok c =
    let outside = c.args.campaign.now.outside.now in
    let given = c.args.campaign.now.settings.now in
    let k = c.in-ByRuns.known.now in
    IfOk-weaker c.run_doubts.result _ _
    (λ doubts is answers records.
    let known : RecordsRuns outside answers k = subst (Records outside given answers) c.in-ByRuns.is records in
    told_doubts outside given k.depth answers (string_bytes doubts) k.answered known.tells.points known.tells.listed known.tells.told is
    ∙ ap (λ (r : Recorded). strict_doubts (depth_of r) given outside answers) (sym c.in-ByRuns.is))
    c.run_doubts.ensures.ok
