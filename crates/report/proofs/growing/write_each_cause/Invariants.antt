use Rattle.std.proofs.Common.{◌≡◌, ◌++◌, drop, map}
use Rattle.std.specs.String.{string_bytes}
use Rattle.report.specs.ReportText.{cause_line, text_of}
use Rattle.report.proofs.growing.write_each_cause.Given as goal

abbrev pub invariant-loop-cause : goal.invariant-loop-cause
invariant-loop-cause g l =
    string_bytes l.out ++ text_of (map (cause_line (g.N.Names.code_text l.names)) (drop l.cause-index l.causes))
    ≡ string_bytes l.initial.out ++ text_of (map (cause_line (g.N.Names.code_text l.names)) l.causes)
