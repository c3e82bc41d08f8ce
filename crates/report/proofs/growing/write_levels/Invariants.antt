use Rattle.std.proofs.Common.{◌≡◌, ◌++◌, drop, map}
use Rattle.std.specs.List.{enumerate_from}
use Rattle.std.specs.String.{string_bytes}
use Rattle.report.specs.ReportText.{level_line, text_of}
use Rattle.report.proofs.growing.write_levels.Given as goal

abbrev pub invariant-loop-level : goal.invariant-loop-level
invariant-loop-level l =
    string_bytes l.out ++ text_of (map level_line (enumerate_from l.level (drop l.level l.levels)))
    ≡ string_bytes l.initial.out ++ text_of (map level_line (enumerate_from 0 l.levels))
