use Rattle.action_eval.proofs.RunLaws.{clean_part}
use Rattle.action_eval.proofs.laws.clean_until_a_fault_acts.Goals as goal

pub returns : goal.returns
returns c = clean_part c.args.scenario.now c.requires
