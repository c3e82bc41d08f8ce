use Rattle.action_eval.specs.LeftFrom.{left_from}
use Rattle.action_eval.proofs.RunLaws.{kept_means, from_set}
use Rattle.action_eval.proofs.laws.keep_then_tidy.Goals as goal

pub returns : goal.returns
returns c =
    let s = c.args.scenario.now in
    let set = c.args.set.now in
    kept_means s set (left_from set s) c.entries.ensures.limits.distinct_names (from_set set s)
