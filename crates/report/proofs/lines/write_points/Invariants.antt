use Rattle.std.proofs.Common.{◌≡◌, ◌++◌, drop}
use Rattle.std.specs.String.{string_bytes}
use Rattle.report.specs.ReportText.{point_lines, text_of}
use Rattle.report.proofs.lines.write_points.Given as goal

abbrev pub invariant-loop-number : goal.invariant-loop-number
invariant-loop-number g l =
    string_bytes l.out ++ text_of (point_lines l.word (drop l.number (g.N.Names.points l.names)) (drop l.number l.counts))
    ≡ string_bytes l.initial.out ++ text_of (point_lines l.word (g.N.Names.points l.names) l.counts)
