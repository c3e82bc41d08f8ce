use Rattle.std.proofs.Common.{refl, sym, ◌∙◌, ap, subst, ◌≡◌, ℕ, zero, suc, ◌<◌, arith, []}
use Rattle.ddmin_parallel.specs.Ddmin.{kept_after}
use Rattle.ddmin_parallel.specs.CoreEvents.{position, Empty, End, start}
use Rattle.ddmin_parallel.specs.inside.Stages.{position_of}
use Rattle.ddmin_parallel.proofs.CoreLemmas.{IsGood, good_start}
use Rattle.std.specs.FinMap.{get}
use Rattle.ddmin_parallel.specs.inside.Cursors.{IsReached, is_among}
use Rattle.ddmin_parallel.proofs.Counted.{counted_none}
use Rattle.ddmin_parallel.proofs.Scans.{reset}
use Rattle.ddmin_parallel.proofs.reducer_core.Core.start.Goals as goal
use Rattle.ddmin_parallel.proofs.reducer_core.Core.start.Goals.{then-faults-eq0, else-faults-eq0}

starts : (faults : ℕ) → 0 < faults → Empty faults ≡ start faults
starts zero pos = absurd (omega arith)
starts (suc more) pos = refl

pub invariant_of-result : goal.invariant_of-result
unfolding position
invariant_of-result c =
    let is : position_of c.if-faults-eq0.stage ≡ start c.args.faults = elim c.if-faults-eq0.branch [
      | then-faults-eq0 w ↦ ap position_of w.stage-is ∙ ap (λ k. End (kept_after k 0)) w.new.ensures.items ∙ ap start (sym w.if-faults-eq0.true)
      | else-faults-eq0 w ↦ ap position_of w.stage-is ∙ starts c.args.faults (let unlike = w.if-faults-eq0.false in omega arith)
    ] in
    let good = good_start c.args.faults (position_of c.if-faults-eq0.stage) c.requires is in
    let known = subst (λ k. IsGood c.args.faults k [] (position_of c.if-faults-eq0.stage)) (sym c.new-2.ensures) good in
    let out = subst (λ o. IsGood c.args.faults c.new-2.result o (position_of c.if-faults-eq0.stage)) (sym c.new-3.ensures.items) known in
    record {
      few = out.few;
      stands = out.stands;
      open_sets = out.open_sets;
      reached = subst (IsReached (get c.new-2.result) (is_among c.new-3.result.items) (position_of c.if-faults-eq0.stage)) (sym c.at.ensures)
          (reset (get c.new-2.result) (is_among c.new-3.result.items) (position_of c.if-faults-eq0.stage) 0
          (counted_none (get c.new-2.result) (position_of c.if-faults-eq0.stage)));
    }
