use Rattle.std.proofs.Common.{length, ap, sym, arith}
use Rattle.action_eval.proofs.Spans.{start_zero, start_next, few_terms}
use Rattle.action_eval.proofs.Steps.{short_at}
use Rattle.action_eval.proofs.found.start_of.Goals as goal

pub loop-before-init : goal.loop-before-init
loop-before-init c = sym (start_zero c.args.scenario.now)

pub overflow_add-start : goal.overflow_add-start
overflow_add-start c =
    let s = c.args.scenario.now in
    let limits = c.entries.ensures.limits in
    let size = ap length c.chain.ensures in
    omega (arith, c.loop-before.invariant, few_terms s c.loop-before.before limits.short_chains, short_at s c.loop-before.before limits.short_chains, size, limits.few_entries, c.requires)

pub loop-before-preserved : goal.loop-before-preserved
loop-before-preserved c =
    let s = c.args.scenario.now in
    let size = ap length c.chain.ensures in
    omega (arith, c.loop-before.invariant, size, start_next s c.loop-before.before (omega (arith, c.requires)))
