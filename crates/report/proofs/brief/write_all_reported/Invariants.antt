use Rattle.std.proofs.Common.{◌≡◌, ◌++◌, drop}
use Rattle.std.specs.String.{string_bytes}
use Rattle.report.specs.ReportText.{text_of}
use Rattle.report.specs.BriefText.{reported_lines}
use Rattle.report.proofs.brief.write_all_reported.Given as goal

abbrev pub invariant-loop-number : goal.invariant-loop-number
invariant-loop-number g l =
    string_bytes l.out ++ text_of (reported_lines (g.N.Names.code_text l.names) l.number (drop l.number l.verdicts) (drop l.number l.plans))
    ≡ string_bytes l.initial.out ++ text_of (reported_lines (g.N.Names.code_text l.names) 0 l.verdicts l.plans)
