use Rattle.std.proofs.Common.{◌==◌, ◌&&◌, ◌∙◌, Bool, List, ap, filter, length, not, slice_index_or, subst, ℕ}
use Rattle.std.specs.List.{range_with_len}
use Rattle.action_eval.specs.declared.rig.Rig.{Rig}
use Rattle.answer_text.specs.Runs.{RunBook, told_in}
use Rattle.answered_runs.specs.Answered.{Answered, known_plans, runs_in}
use Rattle.answered_runs.specs.grown.Reached.{AreMostTold, reached_told}
use Rattle.campaign_main.specs.QuestionNotes.{is_hit_by}
use Rattle.campaign_main.proofs.RunLemmas.{places_below, same_places}
use Rattle.campaign_main.proofs.run_notes.unreached.Goals as goal

pub returns-clause-told : goal.returns-clause-told
returns-clause-told c =
    let a = c.args.known.now.answered in
    let depth = c.args.known.now.depth in
    let counts = c.in_ok-counts.counts.items in
    let left : List ℕ → RunBook → List ℕ = λ xs book. filter (λ p. (slice_index_or xs p 0 == 0) && not (is_hit_by (told_in book) c.args.further.now p)) (range_with_len 0 (length xs)) in
    let is_hit : ℕ → Bool = is_hit_by (told_in a.book) c.args.further.now in
    let most : AreMostTold (runs_in a) (known_plans a depth) counts =
    subst (λ (plans : List (List Rig)). AreMostTold (runs_in a) plans counts) c.list.ensures.known.plans c.in_ok-counts.ensures.most in
    c.in_ok-places.ensures ∙ ap (λ (xs : List ℕ). left xs c.runs.result.now) c.as_slice.ensures.value
    ∙ ap (left counts) (c.runs.ensures ∙ ap (λ (x : Answered). x.book) c.runs-runs.ensures)
    ∙ same_places (λ p. (slice_index_or counts p 0 == 0) && not (is_hit p)) (λ p. (reached_told (runs_in a) (known_plans a depth) p == 0) && not (is_hit p)) (length counts) (length a.points)
    c.in_ok-counts.ensures.many (λ p less. ap (λ (n : ℕ). (n == 0) && not (is_hit p)) (most p less))

pub returns-clause-within : goal.returns-clause-within
returns-clause-within c =
    let counts = c.in_ok-counts.counts.items in
    let left : List ℕ → List ℕ = λ xs. filter (λ p. (slice_index_or xs p 0 == 0) && not (is_hit_by (told_in c.runs.result.now) c.args.further.now p)) (range_with_len 0 (length xs)) in
    places_below (λ p. (slice_index_or counts p 0 == 0) && not (is_hit_by (told_in c.runs.result.now) c.args.further.now p)) (length counts) (length c.args.known.now.answered.points) c.in_ok-places.places.items
    c.in_ok-counts.ensures.many (c.in_ok-places.ensures ∙ ap left c.as_slice.ensures.value)
