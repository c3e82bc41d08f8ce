use Rattle.std.proofs.Common.{◌≡◌, ◌≤◌, ◌-◌, ◌∷◌, ◌++◌, [], ℕ, length, ap, sym, subst, ◌∙◌, arith, refl}
use Rattle.std.proofs.lemmas.List.{length-map, append_assoc}
use Rattle.grown_plans.specs.GrownPlans.{Subject}
use Rattle.grown_runs.specs.Grown.{subject_in}
use Rattle.grown_runs.specs.ranges.Ranges.{range_count}
use Rattle.grown_runs.specs.inside.Growths.{IsGrowth}
use Rattle.grown_runs.proofs.RangeParts.{AreRanges, range_begin, range_at, range_next, range_room, ranges_whole, same_setup, none_left}
use Rattle.grown_runs.proofs.parts.run_part.Goals as goal

pub ranges_in_order-requires-clause-limit : goal.ranges_in_order-requires-clause-limit
ranges_in_order-requires-clause-limit g c κs within = λ k d lt.
    subst (λ co. range_count (c.len-end.result - c.args.first) ≤ range_count (co.end - co.first)) (sym (c.in_ok-jobs.ensures.same k d lt).1) (omega arith)

pub loop-growth-init : goal.loop-growth-init
loop-growth-init g c =
    let on = c.args.on.now in
    let t : Subject = subject_in g.T.Target on in
    record {
      parts = refl;
      grown =
          subst (λ (k : ℕ). IsGrowth t on.limits.seed c.args.part c.args.plans.now c.args.first k c.in_ok-whole.whole) (sym (range_begin (c.len-end.result - c.args.first)))
          (c.in_ok-whole.ensures t on.limits.seed c.args.part c.args.plans.now c.args.first
          (ap length (sym c.catalogue-2.ensures) ∙ length-map c.catalogue-2.result.now (λ n. n.now)));
    }

pub absorb-requires-clause-room : goal.absorb-requires-clause-room
absorb-requires-clause-room g c =
    let on = c.args.on.now in
    let t : Subject = subject_in g.T.Target on in
    let ranges = c.in_ok-ranges.ranges.items in
    let seen = c.loop-growth.yielded in
    let rest = c.next.new.self.rest.items in
    let parts : seen ++ c.in-Some.growth ∷ rest ≡ c.into_iter-growth-iterator.result.rest.items =
    ap (λ gs. seen ++ gs) (sym c.in-Some.ensures.steps.0) ∙ c.loop-growth.invariant.parts in
    let are : AreRanges t on.limits.seed c.args.part c.args.plans.now c.args.first (c.len-end.result - c.args.first) ranges =
    c.in_ok-ranges.ensures (record { target = on.target.now; workload = on.workload.now; seed = on.limits.seed; max_hits = on.limits.max_hits; part = c.args.part; first = c.args.first; end = c.len-end.result; plans = c.args.plans.now })
    (λ k d lt. same_setup _ _ _ _ (c.in_ok-jobs.ensures.same k d lt).0 (c.in_ok-jobs.ensures.same k d lt).1) in
    range_room t on.limits.seed c.args.part c.args.plans.now c.args.first (c.len-end.result - c.args.first) ranges seen rest c.in-Some.growth c.loop-growth.whole
    are (parts ∙ c.into_iter-growth-iterator.ensures.into_iter_gives.0) c.loop-growth.invariant.grown (omega (arith, c.len-end.ensures, c.requires.few))

pub absorb-requires-clause-hits : goal.absorb-requires-clause-hits
absorb-requires-clause-hits g c =
    let on = c.args.on.now in
    let t : Subject = subject_in g.T.Target on in
    let ranges = c.in_ok-ranges.ranges.items in
    let seen = c.loop-growth.yielded in
    let rest = c.next.new.self.rest.items in
    let parts : seen ++ c.in-Some.growth ∷ rest ≡ c.into_iter-growth-iterator.result.rest.items =
    ap (λ gs. seen ++ gs) (sym c.in-Some.ensures.steps.0) ∙ c.loop-growth.invariant.parts in
    let are : AreRanges t on.limits.seed c.args.part c.args.plans.now c.args.first (c.len-end.result - c.args.first) ranges =
    c.in_ok-ranges.ensures (record { target = on.target.now; workload = on.workload.now; seed = on.limits.seed; max_hits = on.limits.max_hits; part = c.args.part; first = c.args.first; end = c.len-end.result; plans = c.args.plans.now })
    (λ k d lt. same_setup _ _ _ _ (c.in_ok-jobs.ensures.same k d lt).0 (c.in_ok-jobs.ensures.same k d lt).1) in
    let mine = c.loop-growth.invariant.grown.told.hits in
    let other = (range_at t on.limits.seed c.args.part c.args.plans.now c.args.first (c.len-end.result - c.args.first) ranges seen rest c.in-Some.growth
    are (parts ∙ c.into_iter-growth-iterator.ensures.into_iter_gives.0)).told.hits in
    omega (arith, mine, other)

pub loop-growth-preserved : goal.loop-growth-preserved
loop-growth-preserved g c =
    let on = c.args.on.now in
    let t : Subject = subject_in g.T.Target on in
    let ranges = c.in_ok-ranges.ranges.items in
    let seen = c.loop-growth.yielded in
    let rest = c.next.new.self.rest.items in
    let parts : seen ++ c.in-Some.growth ∷ rest ≡ c.into_iter-growth-iterator.result.rest.items =
    ap (λ gs. seen ++ gs) (sym c.in-Some.ensures.steps.0) ∙ c.loop-growth.invariant.parts in
    let are : AreRanges t on.limits.seed c.args.part c.args.plans.now c.args.first (c.len-end.result - c.args.first) ranges =
    c.in_ok-ranges.ensures (record { target = on.target.now; workload = on.workload.now; seed = on.limits.seed; max_hits = on.limits.max_hits; part = c.args.part; first = c.args.first; end = c.len-end.result; plans = c.args.plans.now })
    (λ k d lt. same_setup _ _ _ _ (c.in_ok-jobs.ensures.same k d lt).0 (c.in_ok-jobs.ensures.same k d lt).1) in
    record {
      parts = append_assoc seen (c.in-Some.growth ∷ []) rest ∙ parts;
      grown =
          range_next t on.limits.seed c.args.part c.args.plans.now c.args.first (c.len-end.result - c.args.first) ranges seen rest c.in-Some.growth c.loop-growth.whole c.absorb.new.self
          are (parts ∙ c.into_iter-growth-iterator.ensures.into_iter_gives.0) c.loop-growth.invariant.grown
          (λ done more was then_these. c.in_ok-absorb.ensures.grown t on.limits.seed c.args.part c.args.plans.now c.args.first done more was then_these);
    }

pub returns : goal.returns
returns g c =
    let on = c.args.on.now in
    let t : Subject = subject_in g.T.Target on in
    let ranges = c.in_ok-ranges.ranges.items in
    let are : AreRanges t on.limits.seed c.args.part c.args.plans.now c.args.first (c.len-end.result - c.args.first) ranges =
    c.in_ok-ranges.ensures (record { target = on.target.now; workload = on.workload.now; seed = on.limits.seed; max_hits = on.limits.max_hits; part = c.args.part; first = c.args.first; end = c.len-end.result; plans = c.args.plans.now })
    (λ k d lt. same_setup _ _ _ _ (c.in_ok-jobs.ensures.same k d lt).0 (c.in_ok-jobs.ensures.same k d lt).1) in
    subst (λ (k : ℕ). IsGrowth t on.limits.seed c.args.part c.args.plans.now c.args.first (k - c.args.first) c.loop-growth.whole) c.len-end.ensures
    (ranges_whole t on.limits.seed c.args.part c.args.plans.now c.args.first (c.len-end.result - c.args.first) ranges c.loop-growth.yielded c.loop-growth.growth-iterator.rest.items
    c.loop-growth.whole are (c.loop-growth.invariant.parts ∙ c.into_iter-growth-iterator.ensures.into_iter_gives.0)
    (none_left c.loop-growth.growth-iterator.rest.items (sym c.loop-growth.growth-iterator.rest.ok.0 ∙ c.in-None.ensures.steps.0)) c.loop-growth.invariant.grown)
