use Rattle.std.proofs.Common.{◌≡◌, ℕ, true, false, List, sym, ◌∙◌, ap, subst, arith, Option, None, Some}
use Rattle.std.specs.Prelude.{is_some}
use Rattle.std.specs.FinMap.{get}
use Rattle.ddmin_parallel.specs.inside.Stages.{position_in}
use Rattle.ddmin_parallel.specs.inside.Candidates.{candidate}
use Rattle.ddmin_parallel.specs.inside.CoreStates.{IsPlaceOf}
use Rattle.ddmin_parallel.specs.inside.Cursors.{is_among, IsShutBelow}
use Rattle.ddmin_parallel.proofs.Scans.{found_open, found_failing, found_none}
use Rattle.ddmin_parallel.proofs.open.scanned_round.Goals as goal

pub returns-then-bad : goal.returns-then-bad
returns-then-bad c =
    let known = get c.args.progress.now.known in
    let made = c.in_ok-attempt.ensures ∙ ap (λ xs. candidate xs c.args.round.now.parts c.loop-place.place) c.as_slice.ensures.value in
    let is = c.in_ok-packed.ensures ∙ ap (λ s. s.set) made in
    found_failing known (is_among c.args.progress.now.out.items) c.args.round.now.kept.items c.args.round.now.parts c.loop-place.place c.args.round.now.tests c.in_ok-attempt.attempt c.loop-place.invariant
    (omega arith) made
    (sym (ap known is) ∙ sym c.in-Some.ensures ∙ ap (λ b. Some b) c.if-bad.true)

unplaced : (s : List ℕ) (out : List (List ℕ)) (o : Option ℕ) → IsPlaceOf s out o → is_some o ≡ false → is_among out s ≡ false
unplaced s out None h e = h
unplaced s out (Some k) h e = absurd (let never : true ≡ false = e in cc)

pub returns-then-is_none : goal.returns-then-is_none
returns-then-is_none c =
    let known = get c.args.progress.now.known in
    let out = is_among c.args.progress.now.out.items in
    let made = c.in_ok-attempt.ensures ∙ ap (λ xs. candidate xs c.args.round.now.parts c.loop-place.place) c.as_slice.ensures.value in
    let is = c.in_ok-packed.ensures ∙ ap (λ s. s.set) made in
    let request = c.of.ensures ∙ ap (λ s. s.set) (c.attempt.view_is ∙ made) in
    found_open known out c.args.round.now.kept.items c.args.round.now.parts c.loop-place.place c.args.round.now.tests _ c.loop-place.invariant (omega arith) request
    (sym (ap known is) ∙ sym c.in-None.ensures)
    (sym (ap out is) ∙ ap (λ xs. is_among xs c.in_ok-packed.packed) (sym c.as_slice-in-None.ensures.value)
    ∙ unplaced c.in_ok-packed.packed c.as_slice-in-None.result.now c.place_of.result c.place_of.ensures c.if-is_none.ensures)

pub returns : goal.returns
returns c =
    let i = c.loop-place.invariant in
    let same : c.loop-place.place ≡ c.candidate_count-count.result = (let low = i.0 in omega (arith, c.candidate_count-count.ensures)) in
    found_none (get c.args.progress.now.known) (is_among c.args.progress.now.out.items) c.args.round.now.kept.items c.args.round.now.parts c.candidate_count-count.result c.args.round.now.tests
    (subst (IsShutBelow (get c.args.progress.now.known) (is_among c.args.progress.now.out.items) (position_in c.args.round.now)) same i)
    (omega (arith, c.candidate_count-count.ensures))
