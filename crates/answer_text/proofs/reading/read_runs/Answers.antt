use Rattle.std.proofs.Common.{true}
use Rattle.answer_text.proofs.RunReading.{known_all, read_all, strangers_all}
use Rattle.answer_text.proofs.reading.read_runs.Goals as goal

pub returns-clause-known : goal.returns-clause-known
returns-clause-known c = known_all true c.args.codes.now c.args.points.now c.args.text.now c.read_text.result c.read_text.ensures.found

pub returns-clause-read : goal.returns-clause-read
returns-clause-read c = read_all true c.args.codes.now c.args.points.now c.args.text.now c.read_text.result c.read_text.ensures.found

pub returns-clause-strangers : goal.returns-clause-strangers
returns-clause-strangers c = strangers_all true c.args.codes.now c.args.points.now c.args.text.now c.read_text.result c.read_text.ensures.found
