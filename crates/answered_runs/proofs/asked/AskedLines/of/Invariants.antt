use Rattle.std.proofs.Common.{◌≡◌, [], take}
use Rattle.answered_runs.specs.asked.Lines.{lines_behind}
use Rattle.answered_runs.proofs.asked.AskedLines.of.Given as goal

abbrev pub invariant-loop-scenario : goal.invariant-loop-scenario
invariant-loop-scenario l = l.lines ≡ lines_behind [] (take l.scenario-index l.scenarios)
