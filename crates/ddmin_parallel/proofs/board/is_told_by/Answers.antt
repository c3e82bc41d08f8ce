use Rattle.std.proofs.Common.{sym, arith}
use Rattle.ddmin_parallel.specs.Logs.{says}
use Rattle.ddmin_parallel.proofs.Anys.{any_none}
use Rattle.ddmin_parallel.proofs.board.is_told_by.Goals as goal

pub returns : goal.returns
returns c = sym (any_none (says c.args.set.now c.args.fails) c.args.told.now (λ j d lt. c.loop-pair.invariant j d (omega arith)))
