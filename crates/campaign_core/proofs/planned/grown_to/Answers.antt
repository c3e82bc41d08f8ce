use Rattle.std.proofs.Common.{rules, ◌≡◌, ℕ, length, ap, subst, ◌∙◌, arith}
use Rattle.std.proofs.lemmas.Result.{IfOk-weaker}
use Rattle.grown_plans.specs.GrownPlans.{Subject, grown}
use Rattle.grown_plans.specs.Promises.{IsLawful}
use Rattle.grown_runs.specs.Grown.{subject_in, HasGrown}
use Rattle.campaign_core.specs.Headline.{Campaign, campaign_in, grower}
use Rattle.campaign_core.proofs.Begun.{if_ok_both}
use Rattle.campaign_core.proofs.planned.grown_to.Goals as goal

pub returns-clause-grown : goal.returns-clause-grown
returns-clause-grown g c =
    let k : Campaign = campaign_in g.T.Target c.args.subject.now in
    let on = c.conditions.result in
    let t : Subject = subject_in g.T.Target on in
    let lawful : IsLawful (grower k) = c.each_target_is_a_lawful_subject.ensures c.args.subject.now.target.now c.args.subject.now.workload.now k.given.max_hits in
    IfOk-weaker c.grow.result (HasGrown t on.limits.seed on.limits.depth) _
    (λ grown has. record {
      has_grown =
          subst (λ (u : Subject). HasGrown u k.given.plans.seed c.args.depth grown) c.conditions.ensures.grower
          (subst (λ (n : ℕ). HasGrown t n c.args.depth grown) c.conditions.ensures.seed
          (subst (λ (n : ℕ). HasGrown t on.limits.seed n grown) c.conditions.ensures.depth has));
      rigs = c.each_plan_can_be_rigged.ensures (grower k) lawful (search rules) c.args.depth c.requires;
    }) c.grow.ensures.grown

pub returns-clause-few : goal.returns-clause-few
returns-clause-few g c =
    let room = c.conditions.ensures.room in
    let t : Subject = subject_in g.T.Target c.conditions.result in
    IfOk-weaker c.grow.result _ _
    (λ grown h. let few = h.1 in let are = ap length h.0.plans in omega (arith, few, room, are))
    (if_ok_both c.grow.result (HasGrown t c.conditions.result.limits.seed c.conditions.result.limits.depth) _ c.grow.ensures.grown c.grow.ensures.few)

pub returns-clause-many : goal.returns-clause-many
returns-clause-many g c = λ is.
    let k : Campaign = campaign_in g.T.Target c.args.subject.now in
    let on = c.conditions.result in
    let many = c.grow.ensures.many is in
    let room = c.conditions.ensures.room in
    let same : length (grown (subject_in g.T.Target on) on.limits.depth) ≡ length (grown (grower k) c.args.depth) =
    ap (λ (u : Subject). length (grown u on.limits.depth)) c.conditions.ensures.grower ∙ ap (λ (n : ℕ). length (grown (grower k) n)) c.conditions.ensures.depth in
    omega (arith, many, room, same)
