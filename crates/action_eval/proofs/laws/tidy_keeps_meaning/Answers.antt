use Rattle.action_eval.proofs.RunLaws.{tidied_means}
use Rattle.action_eval.proofs.laws.tidy_keeps_meaning.Goals as goal

pub returns : goal.returns
returns c = tidied_means c.args.scenario.now c.entries.ensures.limits.distinct_names
