use Rattle.std.proofs.Common.{◌≡◌, ◌++◌}
use Rattle.answer_text.specs.Runs.{strangers_in}
use Rattle.answer_text.proofs.runs.push_strangers.Given as goal

abbrev pub invariant-loop-name : goal.invariant-loop-name
invariant-loop-name l =
    l.strangers.items ++ strangers_in l.points l.line l.name-iterator ≡ l.fn.strangers.items ++ strangers_in l.points l.line l.scenario
