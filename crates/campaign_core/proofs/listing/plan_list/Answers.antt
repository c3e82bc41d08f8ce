use Rattle.std.proofs.Common.{List, Option, Err, refl, ap, sym, subst, arith}
use Rattle.action_eval.specs.declared.rig.Rig.{Rig}
use Rattle.campaign_core.specs.CommandTexts.{plans_text, IsFault}
use Rattle.campaign_core.specs.Headline.{Campaign, campaign_in}
use Rattle.campaign_core.specs.Planned.{AreGrown}
use Rattle.campaign_core.specs.Writes.{Change, change}
use Rattle.campaign_core.proofs.Begun.{begun_full, counted_least}
use Rattle.campaign_core.proofs.Unlisted.{passed_on, unlisted}
use Rattle.campaign_core.proofs.listing.plan_list.Goals as goal

pub returns-in_err-grown-clause-fault : goal.returns-in_err-grown-clause-fault
returns-in_err-grown-clause-fault g c =
    let k : Campaign = campaign_in g.T.Target c.args.subject.now in
    let w : Change = change g.W.Sink c.args.sink.now c.args.sink.now in
    passed_on c.from_residual.result c.in_err-grown.field-0.0 c.from_residual.ensures.1 (IsFault k (plans_text k) w)
    (unlisted k (plans_text k) w c.in_err-grown.field-0.0 (refl, c.requires)
    (λ is.
    let many = c.in_err-grown.ensures.many (ap Err is) in
    let least = counted_least k 18446744073709551615 k.given.depth refl in
    omega (arith, many, least)))

pub end_list-requires : goal.end_list-requires
end_list-requires g c =
    let k : Campaign = campaign_in g.T.Target c.args.subject.now in
    subst (λ (o : Option (List (List Rig))). AreGrown k k.given.depth o) (sym c.as_ref-before.ensures.value)
    (begun_full k k.given.depth 18446744073709551615 c.in_ok-grown.grown c.in_ok-grown.ensures.begun (omega arith))

pub plans_with-plans-requires-clause-grown : goal.plans_with-plans-requires-clause-grown
plans_with-plans-requires-clause-grown g c =
    let k : Campaign = campaign_in g.T.Target c.args.subject.now in
    subst (λ (o : Option (List (List Rig))). AreGrown k k.given.depth o) (sym c.as_ref-before.ensures.value)
    (begun_full k k.given.depth 18446744073709551615 c.in_ok-grown.grown c.in_ok-grown.ensures.begun (omega arith))
