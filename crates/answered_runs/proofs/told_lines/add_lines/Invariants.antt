use Rattle.std.proofs.Common.{length}
use Rattle.answered_runs.proofs.PlayedRuns.{Lines}
use Rattle.answered_runs.proofs.told_lines.add_lines.Given as goal

abbrev pub invariant-loop-text : goal.invariant-loop-text
invariant-loop-text l = Lines l.names.codes.now l.names.points l.runs l.played l.rest l.number

abbrev pub decreases-loop-text : goal.decreases-loop-text
decreases-loop-text l = length l.rest
