use Rattle.std.proofs.Common.{◌≡◌, ◌==◌, ◌&&◌, filter, not, slice_index_or}
use Rattle.std.specs.List.{range_with_len}
use Rattle.answer_text.specs.Runs.{told_in}
use Rattle.campaign_main.specs.QuestionNotes.{is_hit_by}
use Rattle.campaign_main.proofs.run_notes.places_left.Given as goal

abbrev pub invariant-loop-place : goal.invariant-loop-place
invariant-loop-place l = l.places.items ≡ filter (λ p. (slice_index_or l.counts p 0 == 0) && not (is_hit_by (told_in l.runs) l.further p)) (range_with_len 0 l.place)
