use Rattle.std.proofs.Common.{sym, arith}
use Rattle.std.specs.List.{list_any}
use Rattle.ddmin_parallel.specs.Logs.{says}
use Rattle.ddmin_parallel.proofs.Anys.{any_none}
use Rattle.ddmin_parallel.proofs.board.is_told_of.Goals as goal

pub returns : goal.returns
returns c = sym (any_none (λ told. list_any (says c.args.set.now c.args.fails) told.items) c.args.pairs.now (λ j d lt. c.loop-told.invariant j d (omega arith)))
