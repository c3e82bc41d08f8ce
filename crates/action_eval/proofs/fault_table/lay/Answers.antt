use Rattle.std.proofs.Common.{ap, arith, length, length-append}
use Rattle.action_eval.specs.RiggedScenario.{chain_from}
use Rattle.action_eval.proofs.LaidChains.{joined_all, sizes_all, joined_next, sizes_next}
use Rattle.action_eval.proofs.fault_table.lay.Goals as goal

pub loop-point-preserved : goal.loop-point-preserved
loop-point-preserved c =
    let i = c.loop-point.point in
    let chain = chain_from i 0 c.args.rigs.now in
    let grown = ap length c.in_ok-push_chain.ensures in
    record {
      terms = joined_next i c.args.count c.args.rigs.now c.loop-point.terms.items _ _ c.loop-point-test.true c.loop-point.invariant.terms c.in_ok-push_chain.ensures;
      sizes_room = omega (arith, c.loop-point-test.true, c.loop-point.invariant.sizes_room, c.push_reserved.ensures.len, c.push_reserved.ensures.capacity);
      sizes =
          sizes_next i c.args.count _ c.args.rigs.now c.loop-point.sizes.items _ _ c.loop-point-test.true c.loop-point.invariant.sizes c.push_reserved.ensures.items
          (omega (arith, c.len.ensures, c.len-before.ensures, grown, length-append c.loop-point.terms.items chain, c.loop-point.terms.ok.0, c.push_chain.new.terms.ok.0));
    }

pub returns-clause-terms : goal.returns-clause-terms
returns-clause-terms c = joined_all c.loop-point.point c.args.count c.args.rigs.now c.loop-point.terms.items _ c.loop-point-test.false c.loop-point.invariant.terms

pub returns-clause-sizes : goal.returns-clause-sizes
returns-clause-sizes c = sizes_all c.loop-point.point c.args.count c.args.rigs.now c.loop-point.sizes.items _ c.loop-point-test.false c.loop-point.invariant.sizes
