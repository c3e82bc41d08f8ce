use Rattle.answer_text.proofs.TidyAgain.{tidied_again}
use Rattle.answer_text.proofs.laws.tidying_again_changes_nothing.Goals as goal

pub returns : goal.returns
returns c = tidied_again
