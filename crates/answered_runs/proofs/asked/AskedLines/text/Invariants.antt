use Rattle.std.proofs.Common.{◌≡◌, take}
use Rattle.std.specs.String.{string_bytes}
use Rattle.report.specs.ReportText.{text_of}
use Rattle.answered_runs.proofs.asked.AskedLines.text.Given as goal

abbrev pub invariant-loop-line : goal.invariant-loop-line
invariant-loop-line l = string_bytes l.text ≡ text_of (take l.line-index l.line-items)
