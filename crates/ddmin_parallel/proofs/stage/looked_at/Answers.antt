use Rattle.std.proofs.Common.{◌≡◌, ◌+◌, false, sym, ◌∙◌, ap, arith, Some}
use Rattle.std.specs.FinMap.{get}
use Rattle.ddmin_parallel.specs.inside.Candidates.{candidate}
use Rattle.ddmin_parallel.specs.CoreEvents.{decided}
use Rattle.ddmin_parallel.proofs.Steps.{from}
use Rattle.ddmin_parallel.proofs.KnownSteps.{decided_pass}
use Rattle.ddmin_parallel.proofs.Counted.{extended, counted_times_is, decided_moved}
use Rattle.ddmin_parallel.proofs.stage.looked_at.Goals as goal

pub loop-place-init : goal.loop-place-init
loop-place-init c =
    let known = get c.args.heard.now in
    let n = c.args.round.now.parts in
    let k = c.args.place in
    record {
      all = c.candidate_count-place-end.ensures;
      counted = c.requires.counted;
      told = ap (decided known (from c.args.round.now.kept.items n k)) (c.saturating_add-looked.ensures ∙ sym (counted_times_is k c.args.round.now.tests (omega arith)))
          ∙ decided_moved known c.args.round.now.kept.items n k c.args.round.now.tests c.requires.counted.0 c.requires.counted.1;
    }

pub loop-place-preserved : goal.loop-place-preserved
loop-place-preserved c =
    let known = get c.args.heard.now in
    let kept = c.args.round.now.kept.items in
    let n = c.args.round.now.parts in
    let k = c.loop-place.place in
    let i = c.loop-place.invariant in
    let set : c.in_ok-asked.asked ≡ (candidate kept n k).set =
    c.in_ok-asked.ensures ∙ ap (λ s. s.set) (c.in_ok-attempt.ensures ∙ ap (λ xs. candidate xs n k) c.as_slice.ensures.value) in
    let no : known (candidate kept n k).set ≡ Some false =
    sym (ap known set) ∙ sym c.in-Some.ensures ∙ ap (λ b. Some b) c.if-bad.false in
    record {
      all = i.all;
      counted = (omega arith, extended (λ j. known (candidate kept n j).set ≡ Some false) k i.counted.1 no);
      told = ap (decided known (from kept n (k + 1))) c.saturating_add-looked-in-loop-place.ensures
          ∙ sym (decided_pass known kept n k c.loop-place.looked (omega arith) no)
          ∙ i.told;
    }
