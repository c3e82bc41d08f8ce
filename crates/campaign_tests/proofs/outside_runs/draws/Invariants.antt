use Rattle.std.proofs.Common.{◌≡◌, length}
use Rattle.campaign_tests.proofs.outside_runs.draws.Given as goal

abbrev pub invariant-loop-made : goal.invariant-loop-made
invariant-loop-made l = length l.scenarios.items ≡ l.made
