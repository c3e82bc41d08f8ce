use Rattle.std.proofs.Common.{rules, ◌≡◌, ◌+◌, ◌-◌, inl, inr, ℕ, List, suc, map, length, ap, sym, ◌∙◌, subst, arith}
use Rattle.std.proofs.lemmas.List.{length-map}
use Rattle.action_eval.specs.declared.rig.Rig.{Rig}
use Rattle.grown_plans.specs.GrownPlans.{Subject, level, levels_to}
use Rattle.grown_plans.specs.Kept.{plan_of}
use Rattle.grown_plans.specs.Lists.{AreLevels, AreNext}
use Rattle.grown_runs.specs.Grown.{subject_in, begun_from}
use Rattle.grown_runs.specs.inside.Growths.{AreTold}
use Rattle.grown_runs.proofs.Begun.{begun_next, begun_least, begun_some}
use Rattle.grown_runs.proofs.LevelRuns.{level_zero, told_more}
use Rattle.grown_runs.proofs.levels.grow_levels.Goals as goal

pub returns-in_err-levels-clause-many : goal.returns-in_err-levels-clause-many
returns-in_err-levels-clause-many g c = λ is.
    let limits = c.args.on.now.limits in
    let t : Subject = subject_in g.T.Target c.args.on.now in
    let some = begun_some t limits.depth c.args.count in
    let none = c.in_err-levels.ensures.many (search (is, rules)) in
    omega (arith, some, none)

pub loop-number-init : goal.loop-number-init
loop-number-init g c =
    let limits = c.args.on.now.limits in
    let t : Subject = subject_in g.T.Target c.args.on.now in
    let first = c.in_ok-levels.ensures in
    let one = ap length first.plans in
    let room = first.few in
    let are = first.levels (level t) (level_zero t) in
    let begins = are.begins in
    let size = ap length (level_zero t) in
    record {
      are = are;
      few = omega (arith, one, room);
      so_far = ap (begun_from t c.args.count 0) (let e : limits.depth ≡ limits.depth - 0 = omega arith in e);
      told =
          subst (λ (k : ℕ). AreTold t limits.seed c.args.purpose c.in_ok-levels.levels.plans 0 k c.in_ok-outcomes.outcomes) (let e : 0 ≡ c.in_ok-levels.levels.last = omega (arith, one, size, begins) in e)
          (c.in_ok-outcomes.ensures t limits.seed c.args.purpose c.in_ok-levels.levels.plans 0 (ap length (sym c.catalogue.ensures) ∙ length-map c.catalogue.result.now (λ n. n.now)));
    }

pub returns-then-count-len-clause-levels : goal.returns-then-count-len-clause-levels
returns-then-count-len-clause-levels g c =
    let inv = c.loop-number.invariant in
    record {
      top = c.loop-number.number;
      within = let end = c.loop-number.auto.number-end in omega (arith, end);
      so_far = inv.so_far;
      enough = inr (let many = c.if-count-len.true in omega (arith, many, c.len.ensures));
      are = inv.are;
      told = inv.told;
    }

pub run_level-requires-clause-levels : goal.run_level-requires-clause-levels
run_level-requires-clause-levels g c κs within = c.loop-number.invariant.are

pub run_level-requires-clause-few : goal.run_level-requires-clause-few
run_level-requires-clause-few g c κs within = let few = c.loop-number.invariant.few in let high = c.args.on.now.limits.plans_high in omega (arith, few, high)

pub returns-in_err-add-clause-many : goal.returns-in_err-add-clause-many
returns-in_err-add-clause-many g c = λ is.
    let limits = c.args.on.now.limits in
    let inv = c.loop-number.invariant in
    let t : Subject = subject_in g.T.Target c.args.on.now in
    let n = c.loop-number.number in
    let l = c.loop-number.levels in
    let here = ap length inv.are.are in
    let past = c.if-count-len.false in
    let grows : AreNext (level t) n l c.as_slice.result.now = ap (map (plan_of l.plans)) c.as_slice.ensures.value ∙ c.in_ok-growth.ensures.next in
    let more = c.in_err-add.ensures.many (search (is, rules)) (level t) n inv.are grows in
    let same = ap (λ k. length (levels_to (level t) k)) (let one : suc n ≡ n + 1 = omega arith in one) in
    let least = begun_least t c.args.count (n + 1) (limits.depth - (n + 1)) in
    let are = ap length (inv.so_far ∙ begun_next t c.args.count n limits.depth (omega (arith, here, past, c.len.ensures)) c.loop-number-test.true) in
    omega (arith, more, same, least, are)

pub absorb-requires : goal.absorb-requires
absorb-requires g c = let mine = c.loop-number.invariant.told.hits in let other = c.in_ok-growth.ensures.ran.told.hits in omega (arith, mine, other)

pub loop-number-preserved : goal.loop-number-preserved
loop-number-preserved g c =
    let limits = c.args.on.now.limits in
    let t : Subject = subject_in g.T.Target c.args.on.now in
    let inv = c.loop-number.invariant in
    let n = c.loop-number.number in
    let l = c.loop-number.levels in
    let plans : List (List Rig) = l.plans in
    let new = c.add.new.self in
    let here = ap length inv.are.are in
    let past = c.if-count-len.false in
    let begins = inv.are.begins in
    let grows : AreNext (level t) n l c.as_slice.result.now = ap (map (plan_of l.plans)) c.as_slice.ensures.value ∙ c.in_ok-growth.ensures.next in
    record {
      are = subst (λ (k : ℕ). AreLevels (level t) k new) (let one : suc n ≡ n + 1 = omega arith in one) (c.in_ok-add.ensures.levels (level t) n inv.are grows);
      few = c.in_ok-add.ensures.few;
      so_far = inv.so_far ∙ begun_next t c.args.count n limits.depth (omega (arith, here, past, c.len.ensures)) c.loop-number-test.true;
      told =
          subst (λ (k : ℕ). AreTold t limits.seed c.args.purpose new.plans 0 k c.absorb.new.self) (sym c.in_ok-add.ensures.last)
          (told_more t limits.seed c.args.purpose (length plans) plans _ new.plans c.absorb.new.self (omega arith) c.in_ok-add.ensures.plans
          (subst (λ (k : ℕ). AreTold t limits.seed c.args.purpose plans 0 k c.absorb.new.self) (let e : l.last + (length plans - l.last) ≡ length plans = omega (arith, begins) in e)
          (c.in_ok-absorb.ensures.told t limits.seed c.args.purpose plans 0 l.last l.last (length plans - l.last) (omega arith) inv.told c.in_ok-growth.ensures.ran.told)));
    }

pub returns-clause-levels : goal.returns-clause-levels
returns-clause-levels g c =
    let end = c.loop-number.auto.number-end in
    let inv = c.loop-number.invariant in
    let whole : c.loop-number.number ≡ c.args.on.now.limits.depth = omega (arith, end, c.loop-number-test.false) in
    record { top = c.loop-number.number; within = omega (arith, end); so_far = inv.so_far; enough = inl whole; are = inv.are; told = inv.told }

pub returns-then-count-len-clause-few : goal.returns-then-count-len-clause-few
returns-then-count-len-clause-few g c = c.loop-number.invariant.few

pub returns-clause-few : goal.returns-clause-few
returns-clause-few g c = c.loop-number.invariant.few
