use Rattle.std.proofs.Common.{arith, ◌<◌, length, ap, ◌∙◌, set, max, get_or}
use Rattle.std.proofs.lemmas.List.{get_or_read}
use Rattle.grown_runs.proofs.Overs.{raised_next}
use Rattle.answered_runs.proofs.grown.reaching.raise.Goals as goal

pub loop-point-preserved : goal.loop-point-preserved
loop-point-preserved c =
    let most = c.loop-point.most.items in
    let n = c.loop-point.point in
    let many = c.loop-point.invariant.0 in
    let lt : n < length most = omega (arith, c.loop-point-test.true, c.len-point-end.ensures, many, c.args.most.now.ok.0) in
    raised_next c.args.most.now.items most c.args.counts.now _ n c.loop-point.invariant lt
    (ap (set most n) (c.max.ensures ∙ ap (λ k. max k (get_or c.args.counts.now n 0)) (get_or_read most n c.index.result.now lt c.index.ensures 0)))
