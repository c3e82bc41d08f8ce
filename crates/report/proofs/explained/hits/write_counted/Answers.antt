use Rattle.std.proofs.Common.{refl}
use Rattle.report.proofs.ExplainedLemmas.Lines.{hit_on}
use Rattle.report.proofs.explained.hits.write_counted.Goals as goal

pub loop-number-preserved : goal.loop-number-preserved
loop-number-preserved c = record {
  counted = c.count_hit.ensures;
  text =
      hit_on _ _ _ _ c.loop-number.number _ _ c.loop-number-test.true c.index-hits-number.is _ refl c.in_ok-write_hit.ensures
      c.loop-number.invariant.text;
}
