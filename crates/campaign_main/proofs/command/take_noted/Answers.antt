use Rattle.campaign_main.proofs.AnswerLemmas.{memory-untaken}
use Rattle.campaign_main.proofs.command.take_noted.Goals as goal

pub returns-in_err-lines-clause-fault : goal.returns-in_err-lines-clause-fault
returns-in_err-lines-clause-fault g c = memory-untaken _ _ c.from_residual-in_err-lines.ensures.1
