use Rattle.std.proofs.Common.{◌≡◌, ◌++◌, drop}
use Rattle.std.specs.String.{string_bytes}
use Rattle.action_eval.specs.Answers.{texts}
use Rattle.report.specs.ReportText.{text_of}
use Rattle.campaign_main.specs.Notes.{unreached_lines}
use Rattle.campaign_main.proofs.notes.write_all_unreached.Given as goal

abbrev pub invariant-loop-point : goal.invariant-loop-point
invariant-loop-point l =
    string_bytes l.out ++ text_of (unreached_lines (texts l.points) (drop l.point-index l.unreached))
    ≡ string_bytes l.fn.out ++ text_of (unreached_lines (texts l.points) l.unreached)
