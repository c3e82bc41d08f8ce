use Rattle.std.proofs.Common.{◌≡◌, ◌++◌, drop}
use Rattle.std.specs.String.{string_bytes}
use Rattle.report.specs.ReportText.{verdict_lines, text_of}
use Rattle.report.proofs.lines.write_verdicts.Given as goal

abbrev pub invariant-loop-number : goal.invariant-loop-number
invariant-loop-number g l =
    string_bytes l.out ++ text_of (verdict_lines (g.N.Names.code_text l.names) l.number (drop l.number l.verdicts))
    ≡ string_bytes l.initial.out ++ text_of (verdict_lines (g.N.Names.code_text l.names) 0 l.verdicts)
