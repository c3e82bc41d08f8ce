use Rattle.std.proofs.Common.{◌≡◌, ℕ, List, sym, ap, subst, ◌∙◌, Some, None, false}
use Rattle.std.proofs.lemmas.Result.{IfOk-weaker}
use Rattle.ddmin_parallel.specs.CoreEvents.{after_take, next}
use Rattle.outside_campaign.specs.Reached.{IsReached}
use Rattle.outside_campaign.specs.inside.Tests.{IsTested, IsEnded}
use Rattle.outside_campaign.proofs.Running.{begins, settle_keeps, end_reached}
use Rattle.outside_campaign.proofs.reduction.reduce_known.Goals as goal

pub loop-init : goal.loop-init
loop-init g c =
    rw c.new-untried.ensures.items (begins (g.K.VerdictTable.verdicts c.args.known.now) c.args.code c.args.scenario.now c.in_ok-faults.faults c.start-core.result c.in_ok-faults.ensures.count c.start-core.ensures)

pub returns-in_default : goal.returns-in_default
returns-in_default g c =
    let request : None ≡ next c.loop.core false = sym c.in_default.is ∙ c.in_ok-request.ensures.request in
    let event : c.take.new.self ≡ after_take c.loop.core None = c.in_ok-request.ensures.event ∙ ap (after_take c.loop.core) c.in_default.is in
    IfOk-weaker c.ended.result (IsEnded c.take.new.self c.loop.untried.items) (IsReached (g.K.VerdictTable.verdicts c.args.known.now) c.args.code c.args.scenario.now)
    (λ reached is. end_reached (g.K.VerdictTable.verdicts c.args.known.now) c.args.code c.args.scenario.now c.loop.core c.take.new.self c.loop.untried.items c.loop.invariant request event reached is) c.ended.ensures

pub loop-preserved : goal.loop-preserved
loop-preserved g c =
    let request : Some c.in-Some.request ≡ next c.loop.core false = sym c.in-Some.is ∙ c.in_ok-request.ensures.request in
    let event : c.take.new.self ≡ after_take c.loop.core (Some c.in-Some.request) = c.in_ok-request.ensures.event ∙ ap (after_take c.loop.core) c.in-Some.is in
    let P : List ℕ → Type 0 = λ set. IsTested (g.K.VerdictTable.verdicts c.args.known.now) c.args.code c.args.scenario.now set c.in_ok-test.test in
    settle_keeps (g.K.VerdictTable.verdicts c.args.known.now) c.args.code c.args.scenario.now c.loop.core c.take.new.self c.settle.new.core c.loop.untried.items c.settle.new.untried.items c.in-Some.request c.in_ok-test.test
    c.loop.invariant request event (subst P c.set.ensures c.in_ok-test.ensures) c.in_ok-settle.ensures
