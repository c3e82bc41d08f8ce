use Rattle.std.proofs.Common.{arith}
use Rattle.plan_gen.proofs.Counting.{counted_within}
use Rattle.plan_gen.proofs.sites.sites_of.Goals as goal

pub add_sites-requires : goal.add_sites-requires
add_sites-requires c =
    let within = counted_within c.args.counts.now c.loop-count.count-index 0 c.loop-count-test.true in
    (omega (arith, c.loop-count.invariant.number, c.loop-count-test.true, c.requires.points), omega (arith, within, c.requires.few))
