use Rattle.std.proofs.Common.{◌≡◌, Option, ap, refl, sym, subst, ◌∙◌, length}
use Rattle.std.specs.Prelude.{IfSome}
use Rattle.report.specs.Reports.{GrowthFacts}
use Rattle.report.specs.json_form.About.{ShownFacts}
use Rattle.report.specs.forms.Runs.{GrownAreFirst}
use Rattle.outside_campaign.proofs.telling.reported_text.Goals as goal

pub text_in-requires-clause-counts : goal.text_in-requires-clause-counts
text_in-requires-clause-counts c = ap length c.requires.census ∙ c.requires.lawful.counts

pub text_in-requires-clause-reached : goal.text_in-requires-clause-reached
text_in-requires-clause-reached c =
    subst (λ (growth : Option GrowthFacts). IfSome growth (λ (x : GrowthFacts). length x.reached ≡ length c.args.campaign.now.outside.now.points)) (sym c.requires.growth) tt

pub text_in-requires-clause-verdicts : goal.text_in-requires-clause-verdicts
text_in-requires-clause-verdicts c = c.requires.each ∙ sym (ap (λ (s : ShownFacts). length s.plans) c.shown_of-shown.ensures)

pub text_in-requires-clause-first : goal.text_in-requires-clause-first
text_in-requires-clause-first c =
    subst (λ (s : ShownFacts). GrownAreFirst c.args.campaign.now.outside.now.points s) (sym c.shown_of-shown.ensures) refl
