use Rattle.answer_text.proofs.AnswerLaws.{empty_lawful}
use Rattle.outside_campaign.proofs.answers.check_census.Goals as goal

pub build-requires : goal.build-requires
build-requires c = empty_lawful
