use Rattle.std.proofs.Common.{arith, drop, ◌+◌}
use Rattle.std.proofs.lemmas.List.{drop_all}
use Rattle.scenario_values.proofs.Chains.{rest_is, faults_go_on, faults_done}
use Rattle.scenario_values.proofs.numbering.push_faults.Goals as goal

pub loop-t-preserved : goal.loop-t-preserved
loop-t-preserved c =
    let i = c.loop-t.t-index in
    (omega arith, faults_go_on c.loop-t.places.items _ _ c.args.entry c.loop-t.term (drop i c.args.terms.now) (drop (i + 1) c.args.terms.now) c.t-item.result (rest_is c.args.terms.now i c.t-item.result c.loop-t-test.true c.t-item.is) c.in_ok-push_place.ensures c.loop-t.invariant.1)

pub returns : goal.returns
returns c = faults_done c.loop-t.places.items _ c.args.entry c.loop-t.term (drop c.loop-t.t-index c.args.terms.now) (drop_all c.loop-t.t-index c.args.terms.now c.loop-t-test.false) c.loop-t.invariant.1
