use Rattle.std.proofs.Common.{None, take}
use Rattle.std.specs.List.{AllByRecursion}
use Rattle.answered_runs.specs.inside.Trees.{StaysApart}
use Rattle.answered_runs.proofs.contradictions.find_unseen.Given as goal

abbrev pub invariant-loop-run : goal.invariant-loop-run
invariant-loop-run l = AllByRecursion (λ run. StaysApart l.runs run None) (take l.run-index l.played.unseen.items)
