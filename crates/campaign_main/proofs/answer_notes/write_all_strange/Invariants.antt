use Rattle.std.proofs.Common.{◌≡◌, ◌++◌, drop}
use Rattle.std.specs.String.{string_bytes}
use Rattle.campaign_main.specs.QuestionNotes.{stranger_notes}
use Rattle.campaign_main.proofs.answer_notes.write_all_strange.Given as goal

abbrev pub invariant-loop-stranger : goal.invariant-loop-stranger
invariant-loop-stranger l = string_bytes l.out ++ stranger_notes (drop l.stranger-index l.strangers) ≡ string_bytes l.fn.out ++ stranger_notes l.strangers
