use Rattle.std.proofs.Common.{◌≡◌, drop}
use Rattle.action_eval.specs.Answers.{texts}
use Rattle.campaign_main.specs.Notes.{is_point}
use Rattle.campaign_main.proofs.notes.is_point.Given as goal

abbrev pub invariant-loop-point : goal.invariant-loop-point
invariant-loop-point l = is_point (texts (drop l.point-index l.points)) l.name ≡ is_point (texts l.points) l.name
