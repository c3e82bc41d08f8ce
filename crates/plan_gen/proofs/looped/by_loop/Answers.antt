use Rattle.std.proofs.Common.{◌≡◌, ◌∙◌, ℕ, List, [], ap, map, length, arith}
use Rattle.std.specs.List.{range_with_len}
use Rattle.std.specs.Borrow.{Bor}
use Rattle.plan_gen.specs.LoopRuns.{times_of}
use Rattle.plan_gen.proofs.CleanRuns.{clean_before}
use Rattle.plan_gen.proofs.Meeting.{met_alike}
use Rattle.plan_gen.proofs.Lists.{pushed_onto, map_length}
use Rattle.plan_gen.proofs.looped.by_loop.Goals as goal

pub loop-point-preserved : goal.loop-point-preserved
loop-point-preserved g c =
    let f = λ (p : ℕ). times_of (g.T.Target.asks c.args.target.now c.args.workload.now) g.T.Target.names c.args.seed c.args.max_hits [] p in
    record {
      setup = c.count_by_loop.ensures.setup ∙ c.loop-point.invariant.setup;
      counted =
          pushed_onto f c.loop-point.point [] c.loop-point.counts.items _ _ c.loop-point.invariant.counted c.in_ok-push.ensures.items
          (c.in_ok-count_by_loop.ensures.count ∙ ap (λ t. times_of (g.T.Target.asks t c.args.workload.now) g.T.Target.names c.args.seed c.args.max_hits [] c.loop-point.point) c.loop-point.invariant.setup);
    }

pub returns-clause-ok : goal.returns-clause-ok
unfolding times_of
returns-clause-ok g c =
    let f = λ (p : ℕ). times_of (g.T.Target.asks c.args.target.now c.args.workload.now) g.T.Target.names c.args.seed c.args.max_hits [] p in
    let many = ap (λ (l : List (List ℕ)). length l) c.catalogue.ensures in
    let texts = map_length (λ (n : Bor (List ℕ)). n.now) c.catalogue.result.now in
    let same : c.loop-point.point ≡ length g.T.Target.names = omega (arith, many, texts, c.loop-point.auto.point-end) in
    c.loop-point.invariant.counted ∙ ap (λ (n : ℕ). map f (range_with_len 0 n)) same

pub count_by_loop-requires-clause-law : goal.count_by_loop-requires-clause-law
count_by_loop-requires-clause-law g c κs within =
    let kind = c.kind_of-kind.result in
    met_alike (g.T.Target.asks c.loop-point.target c.args.workload.now) g.T.Target.names c.args.seed c.args.max_hits kind
    (clean_before g.T.Target.names g.met.T.Target.lawful c.args.seed c.args.max_hits kind) κs within
