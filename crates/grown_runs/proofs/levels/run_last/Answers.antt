use Rattle.std.proofs.Common.{◌∙◌}
use Rattle.std.proofs.lemmas.Result.{IfOk-weaker}
use Rattle.grown_plans.specs.GrownPlans.{Subject}
use Rattle.grown_plans.specs.Promises.{IsLawful}
use Rattle.grown_runs.specs.Grown.{subject_in}
use Rattle.grown_runs.proofs.LevelRuns.{ask_alike, can_rig, next_many, onward_is}
use Rattle.grown_runs.proofs.levels.run_last.Goals as goal

pub run_part-requires-clause-rigs : goal.run_part-requires-clause-rigs
run_part-requires-clause-rigs g c κs within =
    let on = c.args.on.now in
    let t : Subject = subject_in g.T.Target on in
    let lawful : IsLawful t = c.each_target_is_a_lawful_subject.ensures on.target.now on.workload.now on.limits.max_hits in
    (can_rig t lawful c.requires.hits on.limits.depth on.limits.depth_high c.args.levels.now.plans c.requires.levels.are).each

pub run_part-requires-clause-alike : goal.run_part-requires-clause-alike
run_part-requires-clause-alike g c κs within =
    let on = c.args.on.now in
    let t : Subject = subject_in g.T.Target on in
    let lawful : IsLawful t = c.each_target_is_a_lawful_subject.ensures on.target.now on.workload.now on.limits.max_hits in
    ask_alike t lawful on.limits.depth c.args.levels.now.plans c.requires.levels.are

pub returns-clause-behind : goal.returns-clause-behind
returns-clause-behind g c =
    let on = c.args.on.now in
    let t : Subject = subject_in g.T.Target on in
    let lawful : IsLawful t = c.each_target_is_a_lawful_subject.ensures on.target.now on.workload.now on.limits.max_hits in
    IfOk-weaker c.run_part.result _ _ (λ growth is. is.onward ∙ onward_is t on.limits.seed on.limits.depth c.args.levels.now lawful c.requires.levels) c.run_part.ensures

pub returns-clause-next : goal.returns-clause-next
returns-clause-next g c =
    let on = c.args.on.now in
    let t : Subject = subject_in g.T.Target on in
    let lawful : IsLawful t = c.each_target_is_a_lawful_subject.ensures on.target.now on.workload.now on.limits.max_hits in
    let asks = g.T.Target.asks on.target.now on.workload.now in
    IfOk-weaker c.run_part.result _ _
    (λ growth is. is.many ∙ next_many asks g.T.Target.names on.limits.max_hits on.limits.seed on.limits.depth c.args.levels.now lawful c.requires.levels) c.run_part.ensures
