use Rattle.std.proofs.Common.{◌≡◌, ℕ, ◌+◌, ◌-◌, length, ap, sym, subst, ◌∙◌, arith, refl, None, Some}
use Rattle.std.proofs.lemmas.List.{length-map}
use Rattle.grown_runs.specs.inside.Growths.{IsGrowth, IsGrowthOn, subject_on}
use Rattle.grown_runs.specs.inside.Beginnings.{AskLikeParents, TellsParent}
use Rattle.grown_runs.proofs.Growing.{growth_many}
use Rattle.grown_runs.proofs.kept.Growth.run_over.Goals as goal

pub loop-number-init : goal.loop-number-init
loop-number-init g c =
    let input = c.args.input.now in
    record {
      setup = refl;
      begun = λ parent of. absurd (let no : None ≡ Some parent = sym c.forget.ensures ∙ of in cc);
      grown =
          subst (λ (k : ℕ). IsGrowth (subject_on g.T.Target c.args.target.now input) input.limits.seed input.part input.plans.now c.args.numbers.start k c.in_ok-growth.growth)
          (let e : 0 ≡ c.args.numbers.start - c.args.numbers.start = omega arith in e)
          (c.in_ok-growth.ensures (subject_on g.T.Target c.args.target.now input) input.limits.seed input.part input.plans.now c.args.numbers.start
          (ap length (sym c.catalogue.ensures) ∙ length-map c.catalogue.result.now (λ n. n.now)));
    }

pub run_one-requires-clause-room : goal.run_one-requires-clause-room
run_one-requires-clause-room g c =
    let input = c.args.input.now in
    let many = growth_many (subject_on g.T.Target c.args.target.now input) input.limits.seed input.part input.plans.now c.args.numbers.start (c.loop-number.number - c.args.numbers.start) c.loop-number.growth c.loop-number.invariant.grown in
    let few = input.few in
    omega (arith, many, few, c.loop-number-test.true, c.requires.within.1)

pub run_one-requires-clause-hits : goal.run_one-requires-clause-hits
run_one-requires-clause-hits g c = c.loop-number.invariant.grown.told.hits

pub loop-number-preserved : goal.loop-number-preserved
loop-number-preserved g c =
    let input = c.args.input.now in
    let n = c.loop-number.number in
    let first = c.args.numbers.start in
    let inv = c.loop-number.invariant in
    let low = c.loop-number.auto.number in
    record {
      setup = c.run_one.ensures.setup ∙ inv.setup;
      begun =
          subst (λ s. TellsParent (subject_on g.T.Target s input) input.limits.seed input.plans.now c.run_one.new.workspace.begun) inv.setup c.in_ok-run_one.ensures.begun;
      grown =
          subst (λ (k : ℕ). IsGrowth (subject_on g.T.Target c.args.target.now input) input.limits.seed input.part input.plans.now first k c.run_one.new.growth)
          (let e : n - first + 1 ≡ n + 1 - first = omega (arith, low) in e)
          (subst (λ s. IsGrowthOn g.T.Target s input first (n - first) c.loop-number.growth → IsGrowthOn g.T.Target s input first (n - first + 1) c.run_one.new.growth) inv.setup
          (c.in_ok-run_one.ensures.grown first (n - first) (omega (arith, low))) inv.grown);
    }

pub returns-clause-grown : goal.returns-clause-grown
returns-clause-grown g c =
    let input = c.args.input.now in
    subst (λ (k : ℕ). IsGrowth (subject_on g.T.Target c.args.target.now input) input.limits.seed input.part input.plans.now c.args.numbers.start k c.loop-number.growth)
    (let e : c.loop-number.number - c.args.numbers.start ≡ c.args.numbers.end - c.args.numbers.start = omega (arith, c.loop-number-test.false, c.loop-number.auto.number-end, c.requires.within.0) in e) c.loop-number.invariant.grown

pub run_one-requires-clause-begun : goal.run_one-requires-clause-begun
run_one-requires-clause-begun g c =
    let input = c.args.input.now in
    subst (λ s. TellsParent (subject_on g.T.Target s input) input.limits.seed input.plans.now c.loop-number.workspace.begun) (sym c.loop-number.invariant.setup)
    c.loop-number.invariant.begun

pub run_one-requires-clause-alike : goal.run_one-requires-clause-alike
run_one-requires-clause-alike g c =
    let input = c.args.input.now in
    subst (λ s. AskLikeParents (subject_on g.T.Target s input) input.plans.now) (sym c.loop-number.invariant.setup) c.requires.alike
