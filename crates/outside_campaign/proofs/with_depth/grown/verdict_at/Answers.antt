use Rattle.std.proofs.Common.{◌<◌, ◌∙◌, ap, arith, length, subst, sym}
use Rattle.action_eval.specs.Catalogue.{IsCatalogue}
use Rattle.answered_runs.specs.Answered.{Answered}
use Rattle.grown_plans.specs.declared.grown_list.GrownList.{GrownList}
use Rattle.outside_campaign.proofs.WithDepthLemmas.Verdicts.{grown_lawful, known_grown}
use Rattle.outside_campaign.proofs.with_depth.grown.verdict_at.Goals as goal

pub returns-in-Some-clause-lawful : goal.returns-in-Some-clause-lawful
returns-in-Some-clause-lawful c =
    let known = c.args.known.now in
    let less : c.args.number < length known.list.plans = omega (arith, c.if-number-len.true, c.len.ensures, ap (λ (l : GrownList). length l.plans) c.list-list.ensures.same) in
    grown_lawful known.answered.points known.list.plans c.args.plans.now c.requires.plans.0 c.args.number (subst (λ (a : Answered). IsCatalogue a.points) c.runs.ensures c.points.ensures.lawful) c.list-list.ensures.known.rigs c.requires.plans.1 less

pub returns-in-Some-clause-verdict : goal.returns-in-Some-clause-verdict
returns-in-Some-clause-verdict c =
    let known = c.args.known.now in
    let less : c.args.number < length known.list.plans = omega (arith, c.if-number-len.true, c.len.ensures, ap (λ (l : GrownList). length l.plans) c.list-list.ensures.same) in
    sym (known_grown known.answered known.depth known.list.plans c.args.plans.now c.requires.plans.0 c.args.number c.in-Some.verdict c.requires.plans.1 less (sym c.verdict_told.ensures ∙ c.in-Some.is))
