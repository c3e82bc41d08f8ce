use Rattle.answer_text.proofs.Agreement.{none_tells, some_tells, tells_agrees}
use Rattle.answer_text.proofs.laws.contradictions_agree_with_no_component.Goals as goal

pub returns : goal.returns
returns c = record { some = some_tells; none = none_tells; verdicts = tells_agrees }
