use Rattle.std.proofs.Common.{take}
use Rattle.grown_plans.specs.Promises.{lesser}
use Rattle.answered_runs.proofs.GrownLemmas.Open.{SoFar}
use Rattle.answered_runs.proofs.grown.causing.one_fails.Given as goal

abbrev pub invariant-loop-left_out : goal.invariant-loop-left_out
invariant-loop-left_out l = SoFar l.known.answered l.known.depth l.code (take l.left_out (lesser l.rigs)) l.fn.waiting.items l.waiting.items
