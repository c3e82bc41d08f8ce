use Rattle.std.proofs.Common.{◌≡◌, ◌≤◌, ◌+◌, drop}
use Rattle.action_eval.specs.Answers.{texts}
use Rattle.answer_text.specs.Runs.{told_in}
use Rattle.outside_campaign.specs.Unmet.{unmet_count}
use Rattle.outside_campaign.proofs.unmet.count_unmet.Given as goal

abbrev pub invariant-loop-number : goal.invariant-loop-number
invariant-loop-number l = record {
  few : l.count ≤ l.number;
  counted : l.count + unmet_count (texts l.points) (told_in l.runs) (drop l.number l.plans) ≡ unmet_count (texts l.points) (told_in l.runs) l.plans;
}
