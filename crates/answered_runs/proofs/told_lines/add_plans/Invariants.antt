use Rattle.answered_runs.specs.inside.Played.{AreMarked, Stands}
use Rattle.answered_runs.proofs.told_lines.add_plans.Given as goal

abbrev pub invariant-loop-number : goal.invariant-loop-number
invariant-loop-number l = Stands AreMarked l.known.answered l.played
