use Rattle.std.proofs.Common.{◌≡◌, ◌++◌}
use Rattle.std.specs.String.{string_bytes}
use Rattle.report.specs.ReportText.{text_of}
use Rattle.report.specs.explained.Explained.{idle_lines}
use Rattle.report.proofs.explained.idle.write_idle.Given as goal

abbrev pub invariant-loop-name : goal.invariant-loop-name
invariant-loop-name l = string_bytes l.out ++ text_of (idle_lines l.hits l.name-iterator) ≡ string_bytes l.initial.out ++ text_of (idle_lines l.hits l.scenario)
