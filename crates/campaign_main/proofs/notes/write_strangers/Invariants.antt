use Rattle.std.proofs.Common.{◌≡◌, ◌++◌}
use Rattle.std.specs.String.{string_bytes}
use Rattle.action_eval.specs.Answers.{texts}
use Rattle.report.specs.ReportText.{text_of}
use Rattle.campaign_main.specs.Notes.{strangers_in}
use Rattle.campaign_main.proofs.notes.write_strangers.Given as goal

abbrev pub invariant-loop-name : goal.invariant-loop-name
invariant-loop-name l =
    string_bytes l.out ++ text_of (strangers_in (texts l.points) l.origin l.name-iterator)
    ≡ string_bytes l.fn.out ++ text_of (strangers_in (texts l.points) l.origin l.scenario)
