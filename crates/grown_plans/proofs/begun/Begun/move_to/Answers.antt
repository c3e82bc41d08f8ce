use Rattle.std.proofs.Common.{◌≡◌, ap, length, sym, subst, take, ◌∙◌, refl, arith, Some}
use Rattle.std.specs.Vec.{with_items}
use Rattle.std.proofs.lemmas.List.{with_items_is}
use Rattle.grown_plans.specs.AskedPoints.{AreCounts}
use Rattle.grown_plans.proofs.FirstHits.{begun_is, ends_is}
use Rattle.grown_plans.proofs.begun.Begun.move_to.Goals as goal

pub returns-clause-begun : goal.returns-clause-begun
returns-clause-begun c =
    let kept = c.if-ne.self.counts in
    let counts = c.count_up_to-self.new.counts in
    let many = ap length c.as_mut_slice.ensures.value in
    let whole : (with_items kept counts).items ≡ counts = with_items_is kept counts (omega (arith, c.count_up_to-self.auto.counts, c.as_mut_slice.ensures.len, many)) in
    begun_is (record { parent = Some c.args.parent; hits = c.count_up_to-self.result; counts = with_items kept counts; whole = c.if-ne.self.whole })
    c.args.parent c.args.plan.now c.args.asked.now c.in-Some.site (sym c.last_site.ensures ∙ c.in-Some.is) refl
    (subst (λ l. AreCounts l (take c.count_up_to-self.result c.args.asked.now)) (sym whole) c.count_up_to-self.ensures.counts) c.count_up_to-self.ensures.ends

pub returns-clause-ends : goal.returns-clause-ends
returns-clause-ends c =
    ends_is c.args.plan.now c.args.asked.now c.count_up_to-self.result c.in-Some.site (sym c.last_site.ensures ∙ c.in-Some.is) c.count_up_to-self.ensures.ends
