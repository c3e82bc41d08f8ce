use Rattle.std.proofs.Common.{◌≡◌, drop}
use Rattle.std.specs.Option.{option_or}
use Rattle.action_eval.specs.Answers.{stopped_by}
use Rattle.report.proofs.explained.hits.stopped_by.Given as goal

abbrev pub invariant-loop-hit : goal.invariant-loop-hit
invariant-loop-hit l = option_or (stopped_by (drop l.hit-index l.hits)) l.stopped ≡ stopped_by l.hits
