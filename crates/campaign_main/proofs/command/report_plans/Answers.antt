use Rattle.campaign_main.proofs.AnswerLemmas.{both-kept}
use Rattle.campaign_main.proofs.command.report_plans.Goals as goal

pub returns-clause-promises : goal.returns-clause-promises
returns-clause-promises g c = both-kept _ _ _ c.write_campaign.ensures.minimal c.write_campaign.ensures.promises
