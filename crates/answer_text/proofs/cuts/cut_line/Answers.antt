use Rattle.answer_text.proofs.Lines.{cut_none, cut_range}
use Rattle.answer_text.proofs.cuts.cut_line.Goals as goal

pub returns-in-None : goal.returns-in-None
returns-in-None c = cut_none 10 c.args.text.now c.in-None.ensures

pub returns-in-Some : goal.returns-in-Some
returns-in-Some c = cut_range 10 c.args.text.now c.in-Some.end c.in-Some.ensures
