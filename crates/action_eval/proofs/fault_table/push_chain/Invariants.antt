use Rattle.std.proofs.Common.{◌≡◌, ◌++◌, drop}
use Rattle.action_eval.specs.RiggedScenario.{chain_from}
use Rattle.action_eval.proofs.fault_table.push_chain.Given as goal

abbrev pub invariant-loop-rig : goal.invariant-loop-rig
invariant-loop-rig l = l.terms.items ++ chain_from l.point l.done (drop l.rig-index l.rigs) ≡ l.fn.terms.items ++ chain_from l.point 0 l.rigs
