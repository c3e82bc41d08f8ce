use Rattle.std.proofs.Common.{arith, ◌<◌}
use Rattle.plan_gen.proofs.Counting.{pairs_are, pairs_small}
use Rattle.plan_gen.proofs.count.pair_count.Goals as goal

pub returns-clause-pairs : goal.returns-clause-pairs
returns-clause-pairs c = let h : 0 < c.args.sites = omega arith in pairs_are c.args.sites h

pub returns-clause-small : goal.returns-clause-small
returns-clause-small c = let h : 0 < c.args.sites = omega arith in omega (arith, pairs_are c.args.sites h, pairs_small c.args.sites c.requires)
