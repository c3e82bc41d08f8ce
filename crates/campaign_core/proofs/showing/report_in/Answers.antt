use Rattle.std.proofs.Common.{◌≡◌, ◌∙◌, IfSome, ap, length, subst, sym}
use Rattle.std.proofs.lemmas.Result.{IfOk-weaker}
use Rattle.report.specs.Reports.{GrowthFacts, ReportFacts}
use Rattle.campaign_given.specs.Given.{Given}
use Rattle.grown_plans.specs.numbered.GrownScenarios.{grown_among}
use Rattle.campaign_core.specs.Forms.{report_in}
use Rattle.campaign_core.specs.Headline.{Campaign, campaign_in}
use Rattle.campaign_core.proofs.EachVerdict.{verdicts_each}
use Rattle.campaign_core.proofs.Grown.{reached_counts}
use Rattle.campaign_core.proofs.Shown.{grown_shown, shown_first, shown_is, text_is}
use Rattle.campaign_core.proofs.showing.report_in.Goals as goal

pub text_in-requires-clause-reached : goal.text_in-requires-clause-reached
text_in-requires-clause-reached g c =
    let k : Campaign = campaign_in g.T.Target c.args.subject.now in
    subst (λ (r : ReportFacts). IfSome r.growth (λ (x : GrowthFacts). length x.reached ≡ length k.points)) (sym c.in_ok-report.ensures.report)
    (reached_counts k k.given.depth)

pub text_in-requires-clause-verdicts : goal.text_in-requires-clause-verdicts
text_in-requires-clause-verdicts g c =
    verdicts_each (campaign_in g.T.Target c.args.subject.now) c.in_ok-report.report c.plans_of-plans.result c.in_ok-report.ensures.report c.plans_of-plans.ensures

pub text_in-requires-clause-first : goal.text_in-requires-clause-first
text_in-requires-clause-first g c =
    let k : Campaign = campaign_in g.T.Target c.args.subject.now in
    shown_first k _
    (shown_is k _ _ _ _ _ c.plans_of-plans.ensures
    (ap grown_among c.grown_part.ensures ∙ grown_shown k k.given.depth c.args.ran.now.planned.grown c.requires.planned.grown)
    (ap (λ (given : Given). given.plans.storms) c.settings.view_is) (c.len.ensures ∙ c.settings.inside.scenarios.ok.0 ∙ ap (λ (given : Given). length given.plans.listed) c.settings.view_is)
    (c.as_str.ensures.value ∙ c.in_ok-source.ensures))

pub returns-clause-text : goal.returns-clause-text
returns-clause-text g c =
    let k : Campaign = campaign_in g.T.Target c.args.subject.now in
    IfOk-weaker c.text_in.result _ (λ text. text.items ≡ report_in c.args.form.now k)
    (λ text h. text_is k c.args.form.now text.items _ _ h c.in_ok-report.ensures.report
    (shown_is k _ _ _ _ _ c.plans_of-plans.ensures
    (ap grown_among c.grown_part.ensures ∙ grown_shown k k.given.depth c.args.ran.now.planned.grown c.requires.planned.grown)
    (ap (λ (given : Given). given.plans.storms) c.settings.view_is) (c.len.ensures ∙ c.settings.inside.scenarios.ok.0 ∙ ap (λ (given : Given). length given.plans.listed) c.settings.view_is)
    (c.as_str.ensures.value ∙ c.in_ok-source.ensures)))
    c.text_in.ensures
