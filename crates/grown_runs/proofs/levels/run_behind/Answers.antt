use Rattle.grown_plans.specs.GrownPlans.{Subject}
use Rattle.grown_plans.specs.Promises.{IsLawful}
use Rattle.grown_runs.specs.Grown.{subject_in}
use Rattle.grown_runs.proofs.LevelRuns.{ask_alike_all, can_rig_all}
use Rattle.grown_runs.proofs.levels.run_behind.Goals as goal

pub run_part-requires-clause-rigs : goal.run_part-requires-clause-rigs
run_part-requires-clause-rigs g c κs within =
    let on = c.args.on.now in
    let t : Subject = subject_in g.T.Target on in
    let lawful : IsLawful t = c.each_target_is_a_lawful_subject.ensures on.target.now on.workload.now on.limits.max_hits in
    (can_rig_all t lawful c.requires.hits on.limits.depth on.limits.depth_high c.args.plans.now c.requires.plans).each

pub run_part-requires-clause-alike : goal.run_part-requires-clause-alike
run_part-requires-clause-alike g c κs within =
    let on = c.args.on.now in
    let t : Subject = subject_in g.T.Target on in
    let lawful : IsLawful t = c.each_target_is_a_lawful_subject.ensures on.target.now on.workload.now on.limits.max_hits in
    ask_alike_all t lawful on.limits.depth c.args.plans.now c.requires.plans
