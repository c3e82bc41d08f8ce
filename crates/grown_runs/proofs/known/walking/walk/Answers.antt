use Rattle.std.proofs.Common.{◌≡◌, ◌-◌, ◌+◌, suc, arith}
use Rattle.std.proofs.lemmas.Result.{IfOk-weaker}
use Rattle.grown_runs.proofs.KnownLemmas.Steps.{step_ends, step_stops, step_acts, walk_ends}
use Rattle.grown_runs.proofs.known.walking.walk.Goals as goal

pub returns-in-Unknown : goal.returns-in-Unknown
returns-in-Unknown g c =
    step_stops (g.T.RunTable.known c.args.table.now) c.args.rigs.now c.args.depth (c.args.depth - c.loop.counter) c.loop.plan.items c.as_slice.result.now c.in_ok-next_step.field-0 c.as_slice.ensures.value c.in-Unknown.is
    c.in_ok-next_step.ensures c.loop.invariant

pub returns-in-Ends : goal.returns-in-Ends
returns-in-Ends g c =
    step_ends (g.T.RunTable.known c.args.table.now) c.args.rigs.now c.args.depth (c.args.depth - c.loop.counter) c.loop.plan.items c.as_slice.result.now c.in_ok-next_step.field-0 c.in-Ends.verdict c.as_slice.ensures.value
    c.in-Ends.is c.in_ok-next_step.ensures c.loop.invariant

pub loop-preserved : goal.loop-preserved
loop-preserved g c =
    let left : c.args.depth - c.loop.counter ≡ suc (c.args.depth - (c.loop.counter + 1)) = omega (arith, c.loop-test.true) in
    step_acts (g.T.RunTable.known c.args.table.now) c.args.rigs.now c.args.depth (c.args.depth - c.loop.counter) (c.args.depth - (c.loop.counter + 1)) c.loop.plan.items c.as_slice.result.now c.put_first.new.plan.items
    c.in_ok-next_step.field-0 c.in-Acts.fault c.as_slice.ensures.value c.in-Acts.is c.in_ok-next_step.ensures left c.in_ok-put_first-in-Acts.ensures c.loop.invariant

pub returns : goal.returns
returns g c =
    let none : c.args.depth - c.loop.counter ≡ 0 = omega (arith, c.loop-test.false) in
    IfOk-weaker c.end_walk.result _ _
    (λ o came. walk_ends (g.T.RunTable.known c.args.table.now) c.args.rigs.now c.args.depth (c.args.depth - c.loop.counter) c.loop.plan.items c.end_walk.new.plan.items o none came c.loop.invariant)
    c.end_walk.ensures
