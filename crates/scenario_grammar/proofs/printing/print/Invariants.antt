use Rattle.std.proofs.Common.{◌≡◌, ◌++◌}
use Rattle.std.specs.String.{string_bytes}
use Rattle.scenario_values.specs.Printed.{printed}
use Rattle.scenario_grammar.proofs.Printed.{left_text}
use Rattle.scenario_grammar.proofs.printing.print.Given as goal

abbrev pub invariant-loop-name : goal.invariant-loop-name
invariant-loop-name l = string_bytes l.out ++ left_text l.first l.name-iterator ≡ printed l.scenario
