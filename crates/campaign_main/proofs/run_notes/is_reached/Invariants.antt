use Rattle.std.proofs.Common.{◌≡◌, drop}
use Rattle.answer_text.specs.Runs.{told_in}
use Rattle.campaign_main.specs.QuestionNotes.{is_hit_by}
use Rattle.campaign_main.proofs.run_notes.is_reached.Given as goal

abbrev pub invariant-loop-number : goal.invariant-loop-number
invariant-loop-number l = is_hit_by (told_in l.runs) l.further l.point ≡ is_hit_by (told_in l.runs) (drop l.number l.further) l.point
