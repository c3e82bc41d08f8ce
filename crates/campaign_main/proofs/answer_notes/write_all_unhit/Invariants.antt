use Rattle.std.proofs.Common.{◌≡◌, ◌++◌, drop}
use Rattle.std.specs.String.{string_bytes}
use Rattle.action_eval.specs.Answers.{texts}
use Rattle.report.specs.ReportText.{text_of}
use Rattle.campaign_main.specs.QuestionNotes.{unhit_lines}
use Rattle.campaign_main.proofs.answer_notes.write_all_unhit.Given as goal

abbrev pub invariant-loop-place : goal.invariant-loop-place
invariant-loop-place l =
    string_bytes l.out ++ text_of (unhit_lines (texts (drop l.place l.points)) (drop l.place l.hits))
    ≡ string_bytes l.fn.out ++ text_of (unhit_lines (texts l.points) l.hits)
