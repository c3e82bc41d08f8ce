use Rattle.answered_runs.proofs.Laid.{said_of, of_number}
use Rattle.answered_runs.proofs.segments.said_at.Goals as goal

pub returns : goal.returns
returns c = said_of c.args.segments.now c.requires.0 c.args.place _ c.requires.1 (of_number c.args.segments.now c.args.place c.number_at.result c.requires.0 _ c.number_at.ensures)
