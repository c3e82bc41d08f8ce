use Rattle.action_eval.proofs.RunLaws.{history_part}
use Rattle.action_eval.proofs.laws.history_of_a_part.Goals as goal

pub returns : goal.returns
returns c = history_part
