use Rattle.std.proofs.Common.{◌-◌, length}
use Rattle.action_eval.specs.Answers.{reply_of_answer}
use Rattle.answered_runs.proofs.PutHits.{Playing}
use Rattle.answered_runs.proofs.saying.put_run.Given as goal

abbrev pub invariant-loop-number : goal.invariant-loop-number
invariant-loop-number l = Playing l.runs l.fn.session.given.scenario l.run l.fn.tree l.tree l.number l.place (reply_of_answer l.answer) l.session

abbrev pub decreases-loop-number : goal.decreases-loop-number
decreases-loop-number l = length l.run.hits.now - l.number
