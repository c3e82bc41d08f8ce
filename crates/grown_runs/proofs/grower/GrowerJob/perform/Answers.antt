use Rattle.std.proofs.Common.{◌≡◌, ◌+◌, ◌-◌, ℕ, ap, arith, subst, sym}
use Rattle.grown_runs.specs.ranges.Ranges.{range_start}
use Rattle.grown_runs.specs.inside.Beginnings.{AskLikeParents}
use Rattle.grown_runs.specs.inside.Growths.{subject_on, IsGrowth}
use Rattle.grown_runs.proofs.grower.GrowerJob.perform.Goals as goal

pub invariant_of-self : goal.invariant_of-self
invariant_of-self g c =
    let input = c.args.self.now.input.now in
    record { alike = subst (λ s. AskLikeParents (subject_on g.T.Target s input) input.plans.now) (sym c.run_over.ensures.setup) c.args.self.now.alike }

pub returns-clause-right : goal.returns-clause-right
returns-clause-right g c =
    let input = c.args.self.now.input.now in
    let bounds = c.range_bounds-first.result in
    let start = range_start (input.end - input.first) c.args.number in
    let after = range_start (input.end - input.first) (c.args.number + 1) in
    let P : ℕ → ℕ → Type 0 = λ first count.
    IsGrowth (subject_on g.T.Target c.args.self.now.target input) input.limits.seed input.part input.plans.now first count c.in_ok-growth.growth in
    let first-is : bounds.0 ≡ start = c.range_bounds-first.ensures.first in
    let end-is : bounds.1 ≡ after = c.range_bounds-first.ensures.end in
    let count-is : input.first + bounds.1 - (input.first + bounds.0) ≡ after - start = omega arith in
    subst (λ first. P first (after - start)) (ap (λ n. input.first + n) first-is) (subst (P (input.first + bounds.0)) count-is c.in_ok-growth.ensures.grown)
