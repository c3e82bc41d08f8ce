use Rattle.std.proofs.Common.{◌≡◌, ◌∙◌, ℕ, List, Some, ap, length, map, subst, sym, take}
use Rattle.std.proofs.lemmas.Result.{IfOk-weaker}
use Rattle.campaign_given.specs.Description.{Description}
use Rattle.campaign_given.specs.Given.{Given}
use Rattle.campaign_core.specs.Findings.{cause_of}
use Rattle.report.specs.Reports.{CauseFacts, ReportFacts}
use Rattle.answer_text.specs.Runs.{RunBook, told_in}
use Rattle.answered_runs.specs.Answered.{Answered}
use Rattle.grown_plans.specs.numbered.GrownScenarios.{grown_scenarios}
use Rattle.grown_plans.specs.declared.grown_list.GrownList.{GrownList}
use Rattle.outside_campaign.specs.with_depth.inside.Outcomes.{IsCleanCensus}
use Rattle.outside_campaign.specs.Campaigns.{code_name, runs_told}
use Rattle.report.specs.json_form.About.{ShownFacts, shown_of}
use Rattle.report.specs.forms.Forms.{text_in}
use Rattle.report.specs.forms.Runs.{GrownAreFirst}
use Rattle.target_trait.specs.declared.judgement.Verdict.{Verdict}
use Rattle.outside_campaign.proofs.WithDepthLemmas.Reports.{cause_within, grown_first, text_is}
use Rattle.outside_campaign.proofs.with_depth.reporting.reported_text.Goals as goal

pub causes_of-requires : goal.causes_of-requires
causes_of-requires c = λ n d within.
    let k = c.args.answered.now in
    cause_within k.campaign.now.outside.now k.campaign.now.settings.now k.known.now c.requires.decided.0 k.plans.now c.args.verdicts.now c.args.told c.as_slice.result.now c.requires.decided.1 c.as_slice.ensures.value n d within

pub text_in-requires-clause-first : goal.text_in-requires-clause-first
text_in-requires-clause-first c =
    let k = c.args.answered.now in
    let outside : Description = k.campaign.now.outside.now in
    subst (λ (s : ShownFacts). GrownAreFirst outside.points s) (sym c.shown_of-shown.ensures)
    (subst (λ (l : GrownList). take (length l.plans) k.plans.now ≡ grown_scenarios outside.points l.plans) (sym c.list-list.ensures.same)
    (grown_first outside k.campaign.now.settings.now k.known.now c.requires.decided.0 k.plans.now c.args.verdicts.now c.args.told c.requires.decided.1))

pub returns : goal.returns
returns c =
    let k = c.args.answered.now in
    let outside : Description = k.campaign.now.outside.now in
    let given : Given = k.campaign.now.settings.now in
    let d = c.requires.decided.1 in
    let F : Verdict → List ℕ → ℕ → List ℕ → ℕ → List ℕ → GrownList → List ℕ → List CauseFacts → ReportFacts = λ clean label seed counts depth levels list most causes. record {
      label = label;
      seed = seed;
      clean = clean;
      census = counts;
      verdicts = c.args.verdicts.now;
      unmet = 0;
      findings = c.args.told.findings.items;
      growth = Some (record {
        depth = depth;
        levels = levels;
        onward = list.onward;
        beyond = list.beyond;
        unseen = c.in_ok-unseen.field-0;
        reached = most;
        causes = causes;
      });
    } in
    let label_is : c.as_str.result.now ≡ outside.label = c.as_str.ensures ∙ ap (λ (x : Description). x.label) c.outside.view_is in
    let seed_is : c.settings.inside.seed ≡ given.plans.seed = ap (λ (g : Given). g.plans.seed) c.settings.view_is in
    let causes_are : c.in_ok-causes.causes.items ≡ map (cause_of k.plans.now) c.args.told.causes.items =
    c.in_ok-causes.ensures ∙ ap (map (cause_of k.plans.now)) c.as_slice.ensures.value in
    let counts = c.in_ok-census.census.items in
    let list = c.list-list.result.now in
    let report : ReportFacts = F c.clean_of.result c.as_str.result.now c.settings.inside.seed c.as_slice-4.result.now c.depth.result c.as_slice-2.result.now list c.as_slice-3.result.now c.in_ok-causes.causes.items in
    let most = c.in_ok-reached.reached.items in
    let facts =
    ap (λ (x : List ℕ). F c.clean_of.result x c.settings.inside.seed c.as_slice-4.result.now c.depth.result c.as_slice-2.result.now list c.as_slice-3.result.now c.in_ok-causes.causes.items) label_is
    ∙ ap (λ (x : ℕ). F c.clean_of.result outside.label x c.as_slice-4.result.now c.depth.result c.as_slice-2.result.now list c.as_slice-3.result.now c.in_ok-causes.causes.items) seed_is
    ∙ ap (λ (x : List ℕ). F c.clean_of.result outside.label given.plans.seed x c.depth.result c.as_slice-2.result.now list c.as_slice-3.result.now c.in_ok-causes.causes.items) c.as_slice-4.ensures.value
    ∙ ap (λ (x : ℕ). F c.clean_of.result outside.label given.plans.seed counts x c.as_slice-2.result.now list c.as_slice-3.result.now c.in_ok-causes.causes.items) c.depth.ensures
    ∙ ap (λ (x : List ℕ). F c.clean_of.result outside.label given.plans.seed counts k.known.now.depth x list c.as_slice-3.result.now c.in_ok-causes.causes.items) c.as_slice-2.ensures.value
    ∙ ap (λ (l : GrownList). F c.clean_of.result outside.label given.plans.seed counts k.known.now.depth l.levels.items l c.as_slice-3.result.now c.in_ok-causes.causes.items) c.list-list.ensures.same
    ∙ ap (λ (x : List ℕ). F c.clean_of.result outside.label given.plans.seed counts k.known.now.depth k.known.now.list.levels.items k.known.now.list x c.in_ok-causes.causes.items) c.as_slice-3.ensures.value
    ∙ ap (λ (x : List CauseFacts). F c.clean_of.result outside.label given.plans.seed counts k.known.now.depth k.known.now.list.levels.items k.known.now.list most x) causes_are
    ∙ ap (λ (x : Verdict). F x outside.label given.plans.seed counts k.known.now.depth k.known.now.list.levels.items k.known.now.list most (map (cause_of k.plans.now) c.args.told.causes.items)) c.clean_of.ensures in
    let S : GrownList → ℕ → ℕ → List ℕ → ShownFacts = λ l storms listed text. shown_of k.plans.now l.plans storms listed text in
    let shown =
    c.shown_of-shown.ensures
    ∙ ap (λ (n : ℕ). S list n c.len-listed.result c.as_str-source.result.now) (ap (λ (g : Given). g.plans.storms) c.settings.view_is)
    ∙ ap (λ (n : ℕ). S list given.plans.storms n c.as_str-source.result.now) (c.len-listed.ensures ∙ c.settings.inside.scenarios.ok.0 ∙ ap (λ (g : Given). length g.plans.listed) c.settings.view_is)
    ∙ ap (λ (x : List ℕ). S list given.plans.storms (length given.plans.listed) x) (c.as_str-source.ensures.value ∙ ap (λ (g : Given). g.source) c.settings.view_is)
    ∙ ap (λ (l : GrownList). S l given.plans.storms (length given.plans.listed) given.source) c.list-list.ensures.same in
    let census = subst (λ (a : Answered). IsCleanCensus a counts) c.runs-runs.ensures c.in_ok-census.ensures in
    IfOk-weaker c.text_in.result _ _
    (λ text is. text_is c.args.form.now outside given k.known.now c.requires.decided.0 k.plans.now c.args.verdicts.now c.args.told counts most c.in_ok-unseen.field-0 _ _ text.items d census c.in_ok-unseen.ensures
    c.in_ok-reached.ensures.known facts shown
    (is
    ∙ ap (λ (book : RunBook). text_in c.args.form.now outside.points (code_name outside.codes) (runs_told outside (told_in book)) report c.shown_of-shown.result)
    (c.runs.ensures ∙ ap (λ (a : Answered). a.book) c.runs-runs.ensures)))
    c.text_in.ensures
