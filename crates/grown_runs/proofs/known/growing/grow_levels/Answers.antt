use Rattle.std.specs.Prelude.{option_map}
use Rattle.grown_runs.proofs.KnownLemmas.Found.{found_before}
use Rattle.std.proofs.Common.{rules, ◌≡◌, ◌+◌, ◌-◌, ◌∙◌, ℕ, List, suc, length, map, subst, sym, ap, arith}
use Rattle.grown_plans.specs.GrownPlans.{kinds_at}
use Rattle.grown_plans.specs.Kept.{Grew, GrewFrom, plan_of}
use Rattle.grown_plans.specs.Lists.{AreLevels}
use Rattle.grown_runs.specs.known.ToldPart.{level_known}
use Rattle.grown_runs.proofs.KnownLemmas.Kept.{first_some, level_zero, next_level, no_room, parents_low}
use Rattle.grown_runs.proofs.known.growing.grow_levels.Goals as goal

pub returns-in_err-levels-clause-many : goal.returns-in_err-levels-clause-many
returns-in_err-levels-clause-many g c = λ is.
    let some = first_some (kinds_at c.args.kinds.now) (g.T.RunTable.known c.args.table.now) c.args.depth in
    let none = c.in_err-levels.ensures.many (search (is, rules)) in
    omega (arith, some, none)

pub loop-init : goal.loop-init
loop-init g c =
    let kinds = kinds_at c.args.kinds.now in
    let known = g.T.RunTable.known c.args.table.now in
    let one = ap length c.in_ok-levels.ensures.plans in
    record { are = c.in_ok-levels.ensures.levels (level_known kinds known) (level_zero kinds known); few = let room = c.in_ok-levels.ensures.few in omega (arith, one, room); found = c.in_ok-find_rest.ensures.found; kept = c.in_ok-find_rest.ensures.kept }

pub add-requires-clause-parents : goal.add-requires-clause-parents
add-requires-clause-parents g c =
    let l = c.loop.levels in
    let begins = c.loop.invariant.are.begins in
    subst (λ (gs : List Grew). GrewFrom (length l.plans) gs) (sym (c.as_slice-in-loop.ensures.value ∙ c.in_ok-children.ensures))
    (parents_low (kinds_at c.args.kinds.now) (g.T.RunTable.known c.args.table.now) l.plans l.last (length l.plans - l.last) (length l.plans) (omega (arith, begins)))

pub returns-in_err-add-clause-many : goal.returns-in_err-add-clause-many
returns-in_err-add-clause-many g c = λ is.
    let kinds = kinds_at c.args.kinds.now in
    let known = g.T.RunTable.known c.args.table.now in
    let l = c.loop.levels in
    no_room kinds known c.loop.counter c.args.depth c.args.most c.loop-test.true
    (c.in_err-add.ensures.many (search (is, rules)) (level_known kinds known) c.loop.counter c.loop.invariant.are
    (ap (map (plan_of l.plans)) (c.as_slice-in-loop.ensures.value ∙ c.in_ok-children.ensures) ∙ next_level kinds known c.loop.counter l c.loop.invariant.are))

pub loop-preserved : goal.loop-preserved
loop-preserved g c =
    let kinds = kinds_at c.args.kinds.now in
    let known = g.T.RunTable.known c.args.table.now in
    let l = c.loop.levels in
    record {
      are =
          subst (λ (n : ℕ). AreLevels (level_known kinds known) n c.add.new.self) (let e : suc c.loop.counter ≡ c.loop.counter + 1 = omega arith in e)
          (c.in_ok-add.ensures.levels (level_known kinds known) c.loop.counter c.loop.invariant.are
          (ap (map (plan_of l.plans)) (c.as_slice-in-loop.ensures.value ∙ c.in_ok-children.ensures) ∙ next_level kinds known c.loop.counter l c.loop.invariant.are));
      few = c.in_ok-add.ensures.few;
      found = c.in_ok-find_rest-2.ensures.found;
      kept = c.in_ok-find_rest-2.ensures.kept;
    }

pub returns-clause-levels : goal.returns-clause-levels
returns-clause-levels g c =
    let end = c.loop.auto.counter-end in
    subst (λ (n : ℕ). AreLevels (level_known (kinds_at c.args.kinds.now) (g.T.RunTable.known c.args.table.now)) n c.loop.levels)
    (let e : c.loop.counter ≡ c.args.depth = omega (arith, end, c.loop-test.false) in e) c.loop.invariant.are

pub invariant_of-looked-clause-found : goal.invariant_of-looked-clause-found
invariant_of-looked-clause-found g c =
    ap (map (option_map (λ r. g.T.RunTable.tells r.now))) c.as_slice.ensures.value ∙ c.loop.invariant.found

pub find_rest-requires-in-loop-clause-found : goal.find_rest-requires-in-loop-clause-found
find_rest-requires-in-loop-clause-found g c =
    found_before (option_map (λ r. g.T.RunTable.tells r.now)) (g.T.RunTable.known c.args.table.now) c.loop.runs.items c.loop.levels.plans _ c.add.new.self.plans c.loop.invariant.found c.in_ok-add.ensures.plans

pub find_rest-requires-in-loop-clause-kept : goal.find_rest-requires-in-loop-clause-kept
find_rest-requires-in-loop-clause-kept g c =
    found_before (option_map (λ r. r.now)) (g.T.RunTable.keeps c.args.table.now) c.loop.runs.items c.loop.levels.plans _ c.add.new.self.plans c.loop.invariant.kept c.in_ok-add.ensures.plans
