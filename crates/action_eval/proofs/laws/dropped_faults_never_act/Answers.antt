use Rattle.std.proofs.Common.{[]}
use Rattle.action_eval.specs.Answers.{Run, run_of, history_of, asked}
use Rattle.action_eval.proofs.Dropped.{only_left}
use Rattle.action_eval.proofs.LeftFaults.{dropped_never}
use Rattle.action_eval.proofs.laws.dropped_faults_never_act.Goals as goal

pub returns : goal.returns
returns c = λ k p e g at out catalogue seed stream limit hits.
    let r : Run = run_of c.args.scenario.now catalogue seed stream limit hits in
    dropped_never c.args.scenario.now k p e (history_of r) c.entries.ensures.limits.distinct_names g at out (only_left r.given [] (asked r) tt)
