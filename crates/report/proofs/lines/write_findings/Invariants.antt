use Rattle.std.proofs.Common.{◌≡◌, ◌++◌, drop}
use Rattle.std.specs.List.{flat_map}
use Rattle.std.specs.String.{string_bytes}
use Rattle.report.specs.ReportText.{finding_lines, text_of}
use Rattle.report.proofs.lines.write_findings.Given as goal

abbrev pub invariant-loop-finding : goal.invariant-loop-finding
invariant-loop-finding g l =
    string_bytes l.out ++ text_of (flat_map (finding_lines (g.N.Names.code_text l.names)) (drop l.finding-index l.findings))
    ≡ string_bytes l.initial.out ++ text_of (flat_map (finding_lines (g.N.Names.code_text l.names)) l.findings)
