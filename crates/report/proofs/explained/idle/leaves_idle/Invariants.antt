use Rattle.std.proofs.Common.{◌≡◌}
use Rattle.report.specs.explained.Explained.{idle_lines}
use Rattle.report.proofs.explained.idle.leaves_idle.Given as goal

abbrev pub invariant-loop-name : goal.invariant-loop-name
invariant-loop-name l = idle_lines l.hits l.name-iterator ≡ idle_lines l.hits l.scenario
