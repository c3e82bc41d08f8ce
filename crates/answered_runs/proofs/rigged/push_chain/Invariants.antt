use Rattle.std.proofs.Common.{◌≡◌, drop}
use Rattle.answered_runs.specs.Rigged.{chain_into}
use Rattle.answered_runs.proofs.rigged.push_chain.Given as goal

abbrev pub invariant-loop-term : goal.invariant-loop-term
invariant-loop-term l = chain_into l.point l.done (drop l.term-index l.terms) l.rigs.items ≡ chain_into l.point 0 l.terms l.fn.rigs.items
