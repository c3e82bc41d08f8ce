use Rattle.std.proofs.Common.{rules, ◌≡◌, ◌+◌, ◌-◌, ◌<◌, ◌++◌, List, map, length, ap, ◌∙◌, arith}
use Rattle.action_eval.specs.declared.rig.Rig.{Rig}
use Rattle.grown_plans.specs.GrownPlans.{Subject, grown, level, levels, onward}
use Rattle.grown_plans.specs.Kept.{plan_of}
use Rattle.grown_plans.specs.Lists.{AreLevels}
use Rattle.grown_runs.specs.Grown.{subject_in}
use Rattle.grown_runs.specs.declared.input.Purpose.TheVariants.{Plans}
use Rattle.grown_runs.proofs.Begun.{levels_begin, levels_whole, whole_are}
use Rattle.grown_runs.proofs.levels.grow_list.Goals as goal

pub returns-then-count-len-clause-begun : goal.returns-then-count-len-clause-begun
returns-then-count-len-clause-begun g c =
    let on = c.args.on.now in
    let enough = c.if-count-len.true in
    levels_begin (subject_in g.T.Target on) on.limits.seed Plans on.limits.depth c.args.count c.in_ok-levels.levels c.in_ok-levels.field-0-1 c.in_ok-levels.ensures.levels (omega (arith, enough, c.len.ensures))

pub returns-then-count-len-clause-few : goal.returns-then-count-len-clause-few
returns-then-count-len-clause-few g c =
    let on = c.args.on.now in
    let enough = c.if-count-len.true in
    let are = ap length (levels_begin (subject_in g.T.Target on) on.limits.seed Plans on.limits.depth c.args.count c.in_ok-levels.levels c.in_ok-levels.field-0-1 c.in_ok-levels.ensures.levels (omega (arith, enough, c.len.ensures))) in
    let few = c.in_ok-levels.ensures.few in
    omega (arith, are, few)

pub returns-in_err-list-clause-many : goal.returns-in_err-list-clause-many
returns-in_err-list-clause-many g c = λ is.
    let on = c.args.on.now in
    let t : Subject = subject_in g.T.Target on in
    let d = on.limits.depth in
    let l = c.in_ok-levels.levels in
    let plans : List (List Rig) = l.plans in
    let begun = c.in_ok-levels.ensures.levels in
    let few : length plans < c.args.count = (let past = c.if-count-len.false in omega (arith, past, c.len.ensures)) in
    let are : AreLevels (level t) d l = whole_are t on.limits.seed Plans d c.args.count l c.in_ok-levels.field-0-1 begun few in
    let behind : map (plan_of plans) c.as_slice-onward.result.now ≡ onward t d = ap (map (plan_of plans)) c.as_slice-onward.ensures.value ∙ c.in_ok-growth.ensures.behind in
    let whole : plans ++ map (plan_of plans) c.as_slice-onward.result.now ≡ grown t d = ap (λ (ps : List (List Rig)). ps ++ map (plan_of plans) c.as_slice-onward.result.now) are.are ∙ ap (λ (ps : List (List Rig)). levels t d ++ ps) behind in
    let all = levels_whole t on.limits.seed Plans d c.args.count l c.in_ok-levels.field-0-1 begun few in
    let many = c.in_err-list.ensures.many (search (is, rules)) in
    let same = ap length (whole ∙ all) in
    omega (arith, many, same)

pub returns-clause-begun : goal.returns-clause-begun
returns-clause-begun g c =
    let on = c.args.on.now in
    let t : Subject = subject_in g.T.Target on in
    let d = on.limits.depth in
    let l = c.in_ok-levels.levels in
    let plans : List (List Rig) = l.plans in
    let begun = c.in_ok-levels.ensures.levels in
    let few : length plans < c.args.count = (let past = c.if-count-len.false in omega (arith, past, c.len.ensures)) in
    let are : AreLevels (level t) d l = whole_are t on.limits.seed Plans d c.args.count l c.in_ok-levels.field-0-1 begun few in
    let behind : map (plan_of plans) c.as_slice-onward.result.now ≡ onward t d = ap (map (plan_of plans)) c.as_slice-onward.ensures.value ∙ c.in_ok-growth.ensures.behind in
    let whole : plans ++ map (plan_of plans) c.as_slice-onward.result.now ≡ grown t d = ap (λ (ps : List (List Rig)). ps ++ map (plan_of plans) c.as_slice-onward.result.now) are.are ∙ ap (λ (ps : List (List Rig)). levels t d ++ ps) behind in
    let all = levels_whole t on.limits.seed Plans d c.args.count l c.in_ok-levels.field-0-1 begun few in
    c.in_ok-list.ensures.plans ∙ whole ∙ all

pub returns-clause-few : goal.returns-clause-few
returns-clause-few g c =
    let on = c.args.on.now in
    let t : Subject = subject_in g.T.Target on in
    let d = on.limits.depth in
    let l = c.in_ok-levels.levels in
    let plans : List (List Rig) = l.plans in
    let begun = c.in_ok-levels.ensures.levels in
    let few : length plans < c.args.count = (let past = c.if-count-len.false in omega (arith, past, c.len.ensures)) in
    let are : AreLevels (level t) d l = whole_are t on.limits.seed Plans d c.args.count l c.in_ok-levels.field-0-1 begun few in
    let behind : map (plan_of plans) c.as_slice-onward.result.now ≡ onward t d = ap (map (plan_of plans)) c.as_slice-onward.ensures.value ∙ c.in_ok-growth.ensures.behind in
    let whole : plans ++ map (plan_of plans) c.as_slice-onward.result.now ≡ grown t d = ap (λ (ps : List (List Rig)). ps ++ map (plan_of plans) c.as_slice-onward.result.now) are.are ∙ ap (λ (ps : List (List Rig)). levels t d ++ ps) behind in
    let all = levels_whole t on.limits.seed Plans d c.args.count l c.in_ok-levels.field-0-1 begun few in
    let most = c.in_ok-list.ensures.few in
    let same = ap length (c.in_ok-list.ensures.plans ∙ whole ∙ all) in
    omega (arith, most, same)
