use Rattle.answer_text.proofs.AnswerLaws.{empty_lawful}
use Rattle.answer_text.proofs.line.scenario_in.Goals as goal

pub from_entries-requires : goal.from_entries-requires
from_entries-requires c = rw c.new.ensures.empty empty_lawful
