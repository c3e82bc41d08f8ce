use Rattle.std.proofs.Common.{◌≡◌, take}
use Rattle.answered_runs.specs.asked.Lines.{lines_behind}
use Rattle.answered_runs.specs.grown.Asked.{unrun}
use Rattle.answered_runs.proofs.grown.asking.add_all_grown.Given as goal

abbrev pub invariant-loop-number : goal.invariant-loop-number
invariant-loop-number l = l.lines ≡ lines_behind l.fn.lines (unrun l.known.answered (take l.number l.known.list.plans))
