use Rattle.std.proofs.Common.{rules, ◌≡◌, ℕ, length, ap, ◌∙◌, arith}
use Rattle.std.proofs.lemmas.Result.{IfOk-weaker}
use Rattle.grown_plans.specs.GrownPlans.{Subject}
use Rattle.grown_plans.specs.Promises.{IsLawful}
use Rattle.grown_runs.specs.Grown.{subject_in, begun}
use Rattle.campaign_core.specs.Headline.{Campaign, campaign_in, grower}
use Rattle.campaign_core.proofs.Begun.{begun_can, if_ok_both}
use Rattle.campaign_core.proofs.planned.begun_to.Goals as goal

pub returns-clause-begun : goal.returns-clause-begun
returns-clause-begun g c =
    let k : Campaign = campaign_in g.T.Target c.args.subject.now in
    let on = c.conditions.result in
    let t : Subject = subject_in g.T.Target on in
    let lawful : IsLawful (grower k) = c.each_target_is_a_lawful_subject.ensures c.args.subject.now.target.now c.args.subject.now.workload.now k.given.max_hits in
    let same : begun t on.limits.depth c.args.count ≡ begun (grower k) c.args.depth c.args.count =
    ap (λ (u : Subject). begun u on.limits.depth c.args.count) c.conditions.ensures.grower ∙ ap (λ (n : ℕ). begun (grower k) n c.args.count) c.conditions.ensures.depth in
    let room = c.conditions.ensures.room in
    IfOk-weaker c.grow_list.result _ _
    (λ plans h.
    let are : plans ≡ begun (grower k) c.args.depth c.args.count = h.0 ∙ same in
    record {
      same = are;
      rigs = begun_can (grower k) c.args.depth c.args.count plans are (c.each_plan_can_be_rigged.ensures (grower k) lawful (search rules) c.args.depth c.requires.high);
      few = let few = h.1 in let many = ap length h.0 in omega (arith, few, room, many);
      deep = c.requires.low;
    })
    (if_ok_both c.grow_list.result (λ plans. plans ≡ begun t on.limits.depth c.args.count) _ c.grow_list.ensures.begun c.grow_list.ensures.few)

pub returns-clause-many : goal.returns-clause-many
returns-clause-many g c = λ is.
    let k : Campaign = campaign_in g.T.Target c.args.subject.now in
    let on = c.conditions.result in
    let many = c.grow_list.ensures.many is in
    let room = c.conditions.ensures.room in
    let same : length (begun (subject_in g.T.Target on) on.limits.depth c.args.count) ≡ length (begun (grower k) c.args.depth c.args.count) =
    ap (λ (u : Subject). length (begun u on.limits.depth c.args.count)) c.conditions.ensures.grower
    ∙ ap (λ (n : ℕ). length (begun (grower k) n c.args.count)) c.conditions.ensures.depth in
    omega (arith, many, room, same)
