use Rattle.std.proofs.Common.{rules, ◌≡◌, ℕ, List, Option, None, Some, ap, sym, subst, ◌∙◌, arith}
use Rattle.std.specs.List.{AllByRecursion}
use Rattle.action_eval.specs.declared.rig.Rig.{Rig}
use Rattle.action_eval.specs.RiggedScenario.{CanBeRigged}
use Rattle.grown_plans.specs.GrownPlans.{rigs_of}
use Rattle.campaign_given.specs.Given.{Given}
use Rattle.campaign_core.specs.Headline.{Campaign, campaign_in}
use Rattle.campaign_core.specs.Planned.{AreGrown, IsGrownTo}
use Rattle.campaign_core.proofs.Grown.{plans_counted}
use Rattle.campaign_core.proofs.planned.plan_campaign.Goals as goal

pub returns-in_err-grown-clause-many : goal.returns-in_err-grown-clause-many
returns-in_err-grown-clause-many g c = λ h.
    let k : Campaign = campaign_in g.T.Target c.args.subject.now in
    let depth : k.given.depth ≡ Some c.in-Some.depth = sym (ap (λ (s : Given). s.depth) c.settings.view_is) ∙ c.in-Some.is in
    let counted = plans_counted k k.given.depth c.in-Some.depth depth in
    let many = c.in_err-grown.ensures.many (search (h, rules)) in
    omega (arith, counted, many)

pub end_list-requires : goal.end_list-requires
end_list-requires g c =
    let k : Campaign = campaign_in g.T.Target c.args.subject.now in
    let none : c.settings.inside.depth ≡ None = search rules in
    let depth : k.given.depth ≡ None = sym (ap (λ (s : Given). s.depth) c.settings.view_is) ∙ none in
    subst (λ (o : Option ℕ). AreGrown k o None) (sym depth) tt

pub end_list-requires-2 : goal.end_list-requires-2
end_list-requires-2 g c =
    let k : Campaign = campaign_in g.T.Target c.args.subject.now in
    let depth : k.given.depth ≡ Some c.in-Some.depth = sym (ap (λ (s : Given). s.depth) c.settings.view_is) ∙ c.in-Some.is in
    let is = c.in_ok-grown.ensures.grown in
    subst (λ (o : Option ℕ). AreGrown k o (Some c.in_ok-grown.grown.list.plans)) (sym depth)
    (record {
      same = is.has_grown.plans;
      rigs = subst (AllByRecursion (λ (plan : List Rig). CanBeRigged (rigs_of plan))) (sym is.has_grown.plans) is.rigs;
      few = c.in_ok-grown.ensures.few;
      deep = search rules;
    })

pub returns-clause-planned : goal.returns-clause-planned
returns-clause-planned g c =
    let k : Campaign = campaign_in g.T.Target c.args.subject.now in
    let depth : k.given.depth ≡ Some c.in-Some.depth = sym (ap (λ (s : Given). s.depth) c.settings.view_is) ∙ c.in-Some.is in
    let end = c.in_ok-census-2.ensures in
    record {
      census = end.census;
      counts = end.counts;
      points = c.end_list-2.ensures.points;
      grown = subst (λ (o : Option ℕ). IsGrownTo k o (Some c.in_ok-grown.grown)) (sym depth) c.in_ok-grown.ensures.grown;
      listed = end.listed;
      few = end.few;
      some = end.some;
    }
