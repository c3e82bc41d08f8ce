use Rattle.std.proofs.Common.{◌-◌, ◌∙◌, List, map, length, ap, sym, subst, arith}
use Rattle.std.proofs.lemmas.Result.{IfOk-weaker}
use Rattle.grown_plans.specs.GrownPlans.{Subject}
use Rattle.grown_plans.specs.Kept.{Grew, GrewFrom, plan_of}
use Rattle.grown_plans.specs.Promises.{IsLawful}
use Rattle.grown_runs.specs.Grown.{subject_in}
use Rattle.grown_runs.proofs.LevelRuns.{ask_alike, can_rig, next_level, parents_low}
use Rattle.grown_runs.proofs.levels.run_level.Goals as goal

pub run_part-requires-clause-rigs : goal.run_part-requires-clause-rigs
run_part-requires-clause-rigs g c κs within =
    let on = c.args.on.now in
    let t : Subject = subject_in g.T.Target on in
    let lawful : IsLawful t = c.each_target_is_a_lawful_subject.ensures on.target.now on.workload.now on.limits.max_hits in
    let high = on.limits.depth_high in
    (can_rig t lawful c.requires.hits c.args.number (omega (arith, high, c.requires.before)) c.args.levels.now.plans c.requires.levels.are).each

pub run_part-requires-clause-alike : goal.run_part-requires-clause-alike
run_part-requires-clause-alike g c κs within =
    let on = c.args.on.now in
    let t : Subject = subject_in g.T.Target on in
    let lawful : IsLawful t = c.each_target_is_a_lawful_subject.ensures on.target.now on.workload.now on.limits.max_hits in
    ask_alike t lawful c.args.number c.args.levels.now.plans c.requires.levels.are

pub returns-clause-next : goal.returns-clause-next
returns-clause-next g c =
    let on = c.args.on.now in
    let t : Subject = subject_in g.T.Target on in
    let lawful : IsLawful t = c.each_target_is_a_lawful_subject.ensures on.target.now on.workload.now on.limits.max_hits in
    let asks = g.T.Target.asks on.target.now on.workload.now in
    let l = c.args.levels.now in
    IfOk-weaker c.run_part.result _ _
    (λ growth is. ap (map (plan_of l.plans)) is.children ∙ next_level asks g.T.Target.names on.limits.max_hits on.limits.seed c.args.number l lawful c.requires.levels) c.run_part.ensures

pub returns-clause-parents : goal.returns-clause-parents
returns-clause-parents g c =
    let on = c.args.on.now in
    let t : Subject = subject_in g.T.Target on in
    let l = c.args.levels.now in
    let begins = c.requires.levels.begins in
    IfOk-weaker c.run_part.result _ _
    (λ growth is.
    subst (λ (gs : List Grew). GrewFrom (length l.plans) gs) (sym is.children)
    (parents_low t on.limits.seed l.plans l.last (length l.plans - l.last) (length l.plans) (omega (arith, begins)))) c.run_part.ensures
