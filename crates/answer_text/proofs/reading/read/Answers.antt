use Rattle.std.proofs.Common.{false}
use Rattle.answer_text.proofs.RunReading.{known_all, read_all, strangers_all}
use Rattle.answer_text.proofs.TextLaws.{found_all, only_all}
use Rattle.answer_text.proofs.reading.read.Goals as goal

pub returns-clause-found : goal.returns-clause-found
returns-clause-found c = found_all false c.args.codes.now c.args.points.now c.args.text.now c.read_text.result c.read_text.ensures.found

pub returns-clause-known : goal.returns-clause-known
returns-clause-known c = known_all false c.args.codes.now c.args.points.now c.args.text.now c.read_text.result c.read_text.ensures.found

pub returns-clause-read : goal.returns-clause-read
returns-clause-read c = read_all false c.args.codes.now c.args.points.now c.args.text.now c.read_text.result c.read_text.ensures.found

pub returns-clause-only : goal.returns-clause-only
returns-clause-only c = λ said says. only_all false c.args.codes.now c.args.points.now c.args.text.now c.read_text.result said says c.read_text.ensures.refused

pub returns-clause-strangers : goal.returns-clause-strangers
returns-clause-strangers c = strangers_all false c.args.codes.now c.args.points.now c.args.text.now c.read_text.result c.read_text.ensures.found
