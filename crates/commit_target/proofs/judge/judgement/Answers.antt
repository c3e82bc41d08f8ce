use Rattle.std.proofs.Common.{◌∙◌, refl, sym, arith}
use Rattle.commit_target.proofs.Sets.{next_judged, all_kept}
use Rattle.commit_target.proofs.judge.judgement.Goals as goal

pub loop-transaction-init : goal.loop-transaction-init
loop-transaction-init c = record { from = omega arith; ends = c.from-ends.ensures.ends; so_far = λ known own h. refl }

pub loop-transaction-preserved : goal.loop-transaction-preserved
loop-transaction-preserved c = record {
  from = omega arith;
  ends = λ known own h. c.reach-ends.ensures.ends known own h (c.loop-transaction.invariant.ends known own h);
  so_far = λ known own h.
      let now = c.reach-ends.ensures.ends known own h (c.loop-transaction.invariant.ends known own h) in
      c.judged-judgement.ensures
      ∙ next_judged _ _ known own _ now _ c.reach-ends.ensures.from c.reach-ends.ensures.within _ (c.loop-transaction.invariant.so_far known own h);
}

pub returns-then-all_kept : goal.returns-then-all_kept
returns-then-all_kept c = λ known own h.
    let ends = c.from-ends.ensures.ends known own h in
    sym (all_kept c.args.participants c.args.told.now known own c.from-ends.result ends c.from-ends.ensures.first (c.all_kept.ensures c.if-all_kept.true) c.args.begun c.if-begun-le-WIDTH.true)
