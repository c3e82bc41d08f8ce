use Rattle.answer_text.proofs.Lines.{found_is}
use Rattle.answer_text.proofs.cuts.place_of_byte.Goals as goal

pub returns : goal.returns
returns c = found_is c.args.byte c.args.text.now c.memchr.result c.memchr.ensures
