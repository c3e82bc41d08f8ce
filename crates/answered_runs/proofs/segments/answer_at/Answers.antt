use Rattle.answered_runs.proofs.Laid.{answer_in, of_number}
use Rattle.answered_runs.proofs.segments.answer_at.Goals as goal

pub returns : goal.returns
returns c = answer_in c.args.segments.now c.args.place _ (of_number c.args.segments.now c.args.place c.number_at.result c.requires.0 _ c.number_at.ensures)
