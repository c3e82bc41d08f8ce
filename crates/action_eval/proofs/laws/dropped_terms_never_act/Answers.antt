use Rattle.std.proofs.Common.{[]}
use Rattle.action_eval.specs.Answers.{Run, run_of, asked}
use Rattle.action_eval.proofs.Dropped.{only_left}
use Rattle.action_eval.proofs.laws.dropped_terms_never_act.Goals as goal

pub returns : goal.returns
returns c = λ catalogue seed stream limit hits. let r : Run = run_of c.args.scenario.now catalogue seed stream limit hits in only_left r.given [] (asked r) tt
