use Rattle.std.proofs.Common.{drop, ◌+◌, sym, ◌∙◌}
use Rattle.std.proofs.lemmas.List.{drop_all}
use Rattle.scenario_values.proofs.Chains.{rest_is, joined_done}
use Rattle.scenario_values.proofs.tidying.join_all.Goals as goal

pub loop-term-preserved : goal.loop-term-preserved
loop-term-preserved c =
    let i = c.loop-term.term-index in
    let here = rest_is c.args.rest.now i c.term-item.result c.loop-term-test.true c.term-item.is in
    sym (c.in_ok-last-2.ensures (drop (i + 1) c.args.rest.now)) ∙ (rw here at c.loop-term.invariant)

pub returns : goal.returns
returns c = rw c.in_ok-push.ensures.items (joined_done c.loop-term.done.items _ (drop c.loop-term.term-index c.args.rest.now) c.loop-term.last (drop_all c.loop-term.term-index c.args.rest.now c.loop-term-test.false) c.loop-term.invariant)
