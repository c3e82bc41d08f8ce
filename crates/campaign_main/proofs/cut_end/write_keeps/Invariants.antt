use Rattle.std.proofs.Common.{◌≡◌, ◌++◌, ◌+◌, drop, map}
use Rattle.std.specs.String.{string_bytes}
use Rattle.report.specs.ReportText.{text_of}
use Rattle.campaign_main.specs.Commands.{keep_lines, keep_lines_from}
use Rattle.campaign_main.proofs.cut_end.write_keeps.Given as goal

abbrev pub invariant-loop-place : goal.invariant-loop-place
invariant-loop-place l =
    string_bytes l.out ++ text_of (keep_lines_from (l.place + 1) (map string_bytes (drop l.place l.calls)))
    ≡ string_bytes l.initial.out ++ text_of (keep_lines (map string_bytes l.calls))
