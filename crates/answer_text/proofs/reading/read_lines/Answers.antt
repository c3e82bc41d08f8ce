use Rattle.std.proofs.Common.{sym}
use Rattle.answer_text.proofs.Lines.{shorter}
use Rattle.answer_text.proofs.RunReading.{begins, tells_by, goes_on, left_over, all_read, none_left, some_left}
use Rattle.answer_text.proofs.reading.read_lines.Goals as goal

pub loop-line-init : goal.loop-line-init
loop-line-init c = begins c.args.needed c.args.codes.now c.args.points.now c.args.text.now c.new-runs.result c.new-runs.ensures

pub loop-line-smaller : goal.loop-line-smaller
loop-line-smaller c = shorter c.loop-line.rest.now c.in-Some.line.now c.in-Some.after.now (sym c.in-Some.ensures)

pub loop-line-preserved : goal.loop-line-preserved
loop-line-preserved c =
    goes_on c.args.needed c.args.codes.now c.args.points.now c.args.text.now c.loop-line.rest.now c.in-Some.line.now c.in-Some.after.now c.loop-line.runs c.read_line.new.runs c.loop-line.number (sym c.in-Some.ensures)
    c.loop-line.invariant c.in_default-read_line.ensures

pub returns-then-not-is_empty-clause-refused : goal.returns-then-not-is_empty-clause-refused
returns-then-not-is_empty-clause-refused c =
    left_over c.args.needed c.args.codes.now c.args.points.now c.args.text.now c.loop-line.rest.now c.loop-line.runs c.loop-line.number c.requires.short (sym c.in_default.ensures)
    (some_left c.loop-line.rest.now c.is_empty.result c.is_empty.ensures c.if-not-is_empty.true) c.loop-line.invariant

pub returns-clause-found : goal.returns-clause-found
returns-clause-found c =
    all_read c.args.needed c.args.codes.now c.args.points.now c.args.text.now c.loop-line.rest.now c.loop-line.runs c.loop-line.number c.requires.short (sym c.in_default.ensures)
    (none_left c.loop-line.rest.now c.is_empty.result c.is_empty.ensures c.if-not-is_empty.false) c.loop-line.invariant

pub returns-in-Err-clause-refused : goal.returns-in-Err-clause-refused
returns-in-Err-clause-refused c =
    rw c.fault_at.ensures (tells_by c.args.needed c.args.codes.now c.args.points.now c.args.text.now c.loop-line.rest.now c.in-Some.line.now c.in-Some.after.now c.loop-line.runs c.loop-line.number c.in-Err.error
    c.requires.short (sym c.in-Some.ensures) c.loop-line.invariant c.in-Err.ensures)
