use Rattle.std.proofs.Common.{◌≡◌, take}
use Rattle.action_eval.specs.Answers.{texts}
use Rattle.outside_campaign.proofs.planned.borrowed.Given as goal

abbrev pub invariant-loop-name : goal.invariant-loop-name
invariant-loop-name l = texts l.names.items ≡ take l.name-index l.from
