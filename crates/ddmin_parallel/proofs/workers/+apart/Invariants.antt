use Rattle.std.proofs.Common.{◌+◌, ◌*◌, length}
use Rattle.ddmin_parallel.proofs.workers.+apart.Given as goal

abbrev pub decreases-told_apart : goal.decreases-told_apart
decreases-told_apart g l = 2 * length l.workers.items

abbrev pub decreases-join+arg3 : goal.decreases-join+arg3
decreases-join+arg3 g l = 2 * length l.workers.items + 1
