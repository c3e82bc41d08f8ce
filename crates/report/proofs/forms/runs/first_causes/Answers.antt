use Rattle.std.proofs.Common.{arith, sym}
use Rattle.std.proofs.lemmas.List.{length-take-le, take_all}
use Rattle.report.proofs.forms.runs.first_causes.Goals as goal

pub returns-then-causes-le-MOST_CAUSES_SHOWN : goal.returns-then-causes-le-MOST_CAUSES_SHOWN
returns-then-causes-le-MOST_CAUSES_SHOWN c = sym (take_all 100 c.args.causes.now (omega (arith, c.if-causes-le-MOST_CAUSES_SHOWN.true)))

pub slice_bounds-result-end : goal.slice_bounds-result-end
slice_bounds-result-end c = sym (length-take-le 100 c.args.causes.now (omega (arith, c.if-causes-le-MOST_CAUSES_SHOWN.false)))
