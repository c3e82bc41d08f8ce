use Rattle.std.proofs.Common.{◌≡◌, drop}
use Rattle.action_eval.specs.Answers.{texts}
use Rattle.plan_gen.proofs.names.have_same_names.Given as goal

-- from the names that are left being the same it follows that all are
abbrev pub invariant-loop-point : goal.invariant-loop-point
invariant-loop-point l = texts (drop l.point l.own) ≡ texts (drop l.point l.other) → texts l.own ≡ texts l.other
