use Rattle.std.proofs.Common.{◌-◌, length}
use Rattle.action_eval.specs.Answers.{reply_of_answer}
use Rattle.answered_runs.proofs.WithoutHits.{Following}
use Rattle.answered_runs.proofs.unseen.unseen_contradiction.Given as goal

abbrev pub invariant-loop-session : goal.invariant-loop-session
invariant-loop-session l = Following l.runs l.tree l.run.scenario l.place (reply_of_answer l.answer) l.session

abbrev pub decreases-loop-session : goal.decreases-loop-session
decreases-loop-session l = length l.tree.said - l.place
