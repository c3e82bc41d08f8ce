use Rattle.std.proofs.Common.{◌≡◌, ℕ, ◌+◌, ◌<◌, ◌==◌, take, get_or, ap, sym, subst, arith, inr, refl, ◌∙◌}
use Rattle.std.proofs.lemmas.Bool.Decides.{nat_tests}
use Rattle.std.proofs.lemmas.List.{take_more}
use Rattle.plan_gen.specs.LoopRuns.{times}
use Rattle.grown_plans.specs.AskedPoints.{AreCounts}
use Rattle.grown_plans.proofs.FirstHits.{all_take, counted, still_early}
use Rattle.grown_plans.proofs.begun.count_up_to.Goals as goal
use Rattle.grown_plans.proofs.begun.count_up_to.Goals.{else-point-fault-via-then-point-fault+else-counts-point, else-point-fault-via-else-point-fault}

pub loop-i-init : goal.loop-i-init
loop-i-init c =
    let asked = c.args.asked.now in
    record {
      counts = c.requires.counts;
      early = subst (λ (k : ℕ). k < c.args.fault.hit)
          (counted c.args.counts.now (take c.args.first asked) c.requires.counts (all_take c.args.first asked c.requires.points) c.args.fault.point) c.requires.early;
    }

pub returns-then-counts-point-clause-ends : goal.returns-then-counts-point-clause-ends
returns-then-counts-point-clause-ends c =
    let asked = c.args.asked.now in
    let i = c.loop-i.i in
    let count = counted c.loop-i.counts (take i asked) c.loop-i.invariant.counts (all_take i asked c.requires.points) (get_or asked i 0) in
    let lt = c.loop-i-test.true in
    let at : get_or asked i 0 ≡ c.args.fault.point = c.if-point-fault.true in
    let hit = c.if-counts-point.true in
    (omega (arith, lt), c.loop-i.invariant.early, inr (lt, at, subst (λ (p : ℕ). times p (take i asked) + 1 ≡ c.args.fault.hit) at (omega (arith, count, hit))))

pub loop-i-preserved : goal.loop-i-preserved
loop-i-preserved c =
    let asked = c.args.asked.now in
    let i = c.loop-i.i in
    record {
      counts = subst (AreCounts c.count_hit.new.counts) (sym (take_more asked i 0 c.loop-i-test.true)) (c.count_hit.ensures (take i asked) c.loop-i.invariant.counts);
      early = still_early c.args.fault asked i (get_or asked i 0 == c.args.fault.point) c.loop-i-test.true refl c.loop-i.invariant.early (λ same hit.
          elim c.else-point-fault.branch [
            | else-point-fault-via-then-point-fault+else-counts-point w ↦
                let count = counted c.loop-i.counts (take i asked) c.loop-i.invariant.counts (all_take i asked c.requires.points) (get_or asked i 0) in
                w.if-counts-point.false (ap (λ (k : ℕ). k + 1) (count ∙ ap (λ (p : ℕ). times p (take i asked)) w.if-point-fault.true) ∙ hit)
            | else-point-fault-via-else-point-fault w ↦ w.if-point-fault.false (grind (arith, nat_tests, same))
          ]);
    }
