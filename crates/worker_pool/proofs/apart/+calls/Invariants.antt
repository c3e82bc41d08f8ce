use Rattle.std.proofs.Common.{◌+◌, ◌*◌, length}
use Rattle.worker_pool.proofs.apart.+calls.Given as goal

abbrev pub decreases-call_both : goal.decreases-call_both
decreases-call_both g l = 3 * length l.rest.now + 2

abbrev pub decreases-call_both-others : goal.decreases-call_both-others
decreases-call_both-others g l = 3 * length l.rest.now + 1

abbrev pub decreases-for_each_apart : goal.decreases-for_each_apart
decreases-for_each_apart g l = 3 * length l.items.now
