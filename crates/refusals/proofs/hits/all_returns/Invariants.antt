use Rattle.std.proofs.Common.{◌≤◌, length}
use Rattle.refusals.proofs.hits.all_returns.Given as goal

abbrev pub invariant-loop-point : goal.invariant-loop-point
invariant-loop-point l = 3 ≤ length l.session.given.catalogue

abbrev pub invariant-loop : goal.invariant-loop
invariant-loop l = 3 ≤ length l.session.given.catalogue
