use Rattle.std.proofs.Common.{◌<◌, length}
use Rattle.part_tests.proofs.hits.answers.Given as goal

abbrev pub invariant-loop : goal.invariant-loop
invariant-loop l = l.point < length l.session.given.catalogue
