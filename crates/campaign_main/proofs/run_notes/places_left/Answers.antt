use Rattle.std.proofs.Common.{◌∙◌, ◌==◌, ◌&&◌, Bool, ap, not, slice_index_or, sym, ℕ}
use Rattle.answer_text.specs.Runs.{told_in}
use Rattle.campaign_main.specs.QuestionNotes.{is_hit_by}
use Rattle.campaign_main.proofs.RunLemmas.{place_kept, place_left}
use Rattle.campaign_main.proofs.run_notes.places_left.Goals as goal
use Rattle.campaign_main.proofs.run_notes.places_left.Goals.{then-left+in_ok-push, else-left}

pub loop-place-preserved : goal.loop-place-preserved
loop-place-preserved c =
    let t : ℕ → Bool = λ p. (slice_index_or c.args.counts.now p 0 == 0) && not (is_hit_by (told_in c.args.runs.now) c.args.further.now p) in
    elim c.if-left.branch [
      | then-left+in_ok-push w ↦ place_kept t c.loop-place.place _ _ c.loop-place.invariant (sym c.in_ok-left.ensures ∙ w.if-left.true)
          (ap (λ v. v.items) w.places-is ∙ w.in_ok-push.ensures.items)
      | else-left w ↦ ap (λ v. v.items) w.places-is ∙ place_left t c.loop-place.place _ c.loop-place.invariant (sym c.in_ok-left.ensures ∙ w.if-left.false)
    ]
