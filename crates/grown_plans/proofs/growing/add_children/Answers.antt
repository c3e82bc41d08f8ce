use Rattle.std.proofs.Common.{◌≡◌, ℕ, ◌+◌, List, ◌∷◌, ◌++◌, take, drop, ap, sym, ◌∙◌, get_or, subst, arith}
use Rattle.std.proofs.lemmas.List.{take_more}
use Rattle.action_eval.specs.declared.rig.Site.{Site}
use Rattle.grown_plans.specs.AskedPoints.{AreCounts, sites_from, is_asked_again, is_point_of}
use Rattle.grown_plans.specs.GrownPlans.{kinds_at}
use Rattle.grown_plans.specs.Kept.{Grew, kept_children}
use Rattle.grown_plans.proofs.HitByHit.{sites_ahead, kept_past, kept_before, all_at, again_now, again_still}
use Rattle.grown_plans.proofs.growing.add_children.Goals as goal
use Rattle.grown_plans.proofs.growing.add_children.Goals.{then-is_past+in_ok-add_at+then-is_again, then-is_past+in_ok-add_at+else-is_again, else-is_past}

pub add_at-requires : goal.add_at-requires
add_at-requires c =
    let asked = c.args.asked.now in
    let i = c.loop-point.point-index in
    let told = c.next_site-site.ensures (take i asked) c.loop-point.invariant.counts in
    let is = ap (λ (s : Site). s.point) told.0 in
    let small = all_at asked i c.loop-point-test.true c.requires.points in
    (omega (arith, c.requires.number), omega (arith, is, small))

pub loop-point-preserved : goal.loop-point-preserved
loop-point-preserved c =
    let asked = c.args.asked.now in
    let i = c.loop-point.point-index in
    let before : List ℕ = take i asked in
    let p : ℕ = get_or asked i 0 in
    let told = c.next_site-site.ensures before c.loop-point.invariant.counts in
    let counts : AreCounts c.next_site-site.new.counts.items (take (i + 1) asked) =
    subst (λ (l : List ℕ). AreCounts c.next_site-site.new.counts.items l) (sym (take_more asked i 0 c.loop-point-test.true)) told.1 in
    let s = c.next_site-site.result in
    let xs : List Site = sites_from (take (i + 1) asked) (drop (i + 1) asked) in
    let sites : sites_from before (drop i asked) ≡ s ∷ xs =
    sites_ahead asked i 0 c.loop-point-test.true ∙ ap (λ (x : Site). x ∷ xs) (sym told.0) in
    let plan = c.args.plan.now in
    let whole : List Grew = c.args.children.now.items ++ kept_children (kinds_at c.args.kinds.now) c.args.number plan asked in
    let inv = c.loop-point.invariant in
    let now = c.if-is_past in
    elim c.if-is_past.branch [
      | then-is_past+in_ok-add_at+then-is_again w ↦
          let kept =
          kept_past (kinds_at c.args.kinds.now) c.args.number plan c.loop-point.is_past now.is_past c.loop-point.is_again now.is_again c.loop-point.children.items now.children.items whole
          (is_asked_again plan asked) s _ xs sites w.if-is_past.true w.is_past-is (ap (λ v. v.items) w.children-is ∙ w.in_ok-add_at.ensures)
          (again_still c.loop-point.is_again now.is_again (is_point_of plan s.point) w.if-is_again.true w.is_again-is) (inv.built, inv.again, inv.begun) in
          record { counts = counts; built = kept.0; again = kept.1; begun = kept.2 }
      | then-is_past+in_ok-add_at+else-is_again w ↦
          let more : now.is_again ≡ is_point_of plan s.point =
          w.is_again-is ∙ w.is_of_last-is_again.ensures ∙ ap (λ (x : Site). is_point_of plan x.point) (sym told.0) in
          let kept =
          kept_past (kinds_at c.args.kinds.now) c.args.number plan c.loop-point.is_past now.is_past c.loop-point.is_again now.is_again c.loop-point.children.items now.children.items whole
          (is_asked_again plan asked) s _ xs sites w.if-is_past.true w.is_past-is (ap (λ v. v.items) w.children-is ∙ w.in_ok-add_at.ensures)
          (again_now c.loop-point.is_again now.is_again (is_point_of plan s.point) w.if-is_again.false more) (inv.built, inv.again, inv.begun) in
          record { counts = counts; built = kept.0; again = kept.1; begun = kept.2 }
      | else-is_past w ↦
          let kept =
          kept_before (kinds_at c.args.kinds.now) c.args.number plan c.loop-point.is_past now.is_past c.loop-point.is_again now.is_again c.loop-point.children.items now.children.items whole
          (is_asked_again plan asked) s _ xs sites w.if-is_past.false (w.is_past-is ∙ w.is_last-is_past.ensures) (ap (λ v. v.items) w.children-is)
          w.is_again-is (inv.built, inv.again, inv.begun) in
          record { counts = counts; built = kept.0; again = kept.1; begun = kept.2 }
    ]
