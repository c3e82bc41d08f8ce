use Rattle.std.proofs.Common.{◌≡◌}
use Rattle.action_eval.specs.inside.Session.{start_of}
use Rattle.action_eval.proofs.found.start_of.Given as goal

abbrev pub invariant-loop-before : goal.invariant-loop-before
invariant-loop-before l = l.start ≡ start_of l.scenario l.before
