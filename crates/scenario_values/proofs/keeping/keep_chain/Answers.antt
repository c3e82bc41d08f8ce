use Rattle.std.proofs.Common.{arith, drop, ◌+◌}
use Rattle.std.proofs.lemmas.List.{drop_all}
use Rattle.scenario_values.proofs.Chains.{rest_is, kept_goes_on, after_goes_on, kept_done, after_done}
use Rattle.scenario_values.proofs.keeping.keep_chain.Goals as goal

pub loop-term-preserved : goal.loop-term-preserved
loop-term-preserved c =
    let i = c.loop-term.term-index in
    let t = c.term-item.result in
    let set = c.args.set.now in
    let ts = c.args.terms.now in
    let here = rest_is ts i t c.loop-term-test.true c.term-item.is in
    record {
      few = omega (arith, c.in_ok-copy.ensures.small, c.loop-term.invariant.few);
      stands = c.in_ok-copy.ensures.stands;
      so_far = rw (c.in_ok-push.ensures.items, c.in_ok-copy.ensures.value, c.in_ok-copy.ensures.number) (kept_goes_on set c.loop-term.kept.items _ (drop i ts) (drop (i + 1) ts) c.loop-term.walk.number t here c.loop-term.invariant.so_far);
      after = rw c.in_ok-copy.ensures.number (after_goes_on _ c.loop-term.walk.number (drop i ts) (drop (i + 1) ts) t here c.loop-term.invariant.after);
    }

pub returns-clause-kept : goal.returns-clause-kept
returns-clause-kept c = kept_done c.args.set.now c.loop-term.kept.items _ (drop c.loop-term.term-index c.args.terms.now) c.loop-term.walk.number (drop_all c.loop-term.term-index c.args.terms.now c.loop-term-test.false) c.loop-term.invariant.so_far

pub returns-clause-number : goal.returns-clause-number
returns-clause-number c = after_done _ c.loop-term.walk.number (drop c.loop-term.term-index c.args.terms.now) (drop_all c.loop-term.term-index c.args.terms.now c.loop-term-test.false) c.loop-term.invariant.after
