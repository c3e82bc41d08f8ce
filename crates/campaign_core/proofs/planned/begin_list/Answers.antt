use Rattle.std.proofs.Common.{rules, ◌≡◌, ◌<◌, ℕ, Option, None, Some, ap, sym, subst, ◌∙◌}
use Rattle.campaign_given.specs.Given.{Given}
use Rattle.campaign_core.specs.CommandTexts.{counted_to}
use Rattle.campaign_core.specs.Headline.{Campaign, campaign_in}
use Rattle.campaign_core.specs.Planned.{AreBegun}
use Rattle.campaign_core.proofs.planned.begin_list.Goals as goal

pub returns-in_default-clause-begun : goal.returns-in_default-clause-begun
returns-in_default-clause-begun g c =
    let k : Campaign = campaign_in g.T.Target c.args.subject.now in
    let none : c.settings.inside.depth ≡ None = search rules in
    let depth : k.given.depth ≡ None = sym (ap (λ (s : Given). s.depth) c.settings.view_is) ∙ none in
    subst (λ (o : Option ℕ). AreBegun k o c.args.count None) (sym depth) tt

pub returns-in_err-begun-clause-many : goal.returns-in_err-begun-clause-many
returns-in_err-begun-clause-many g c = λ h.
    let k : Campaign = campaign_in g.T.Target c.args.subject.now in
    let depth : k.given.depth ≡ Some c.in-Some.depth = sym (ap (λ (s : Given). s.depth) c.settings.view_is) ∙ c.in-Some.is in
    subst (λ (o : Option ℕ). 65536 < counted_to k c.args.count o) (sym depth) (c.in_err-begun.ensures.many (search (h, rules)))

pub returns-clause-begun : goal.returns-clause-begun
returns-clause-begun g c =
    let k : Campaign = campaign_in g.T.Target c.args.subject.now in
    let depth : k.given.depth ≡ Some c.in-Some.depth = sym (ap (λ (s : Given). s.depth) c.settings.view_is) ∙ c.in-Some.is in
    subst (λ (o : Option ℕ). AreBegun k o c.args.count (Some c.in_ok-begun.begun)) (sym depth) c.in_ok-begun.ensures.begun
