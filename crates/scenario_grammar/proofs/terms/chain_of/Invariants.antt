use Rattle.std.proofs.Common.{◌≡◌, ◌+◌, ◌≤◌, map, drop}
use Rattle.scenario_grammar.specs.FirstFault.{chain_from}
use Rattle.scenario_grammar.proofs.Chains.{with_front}
use Rattle.scenario_grammar.proofs.terms.chain_of.Given as goal

abbrev pub invariant-loop-part : goal.invariant-loop-part
invariant-loop-part l = (l.faults ≤ 4096) × (l.number ≤ 256) × (with_front l.terms.items (chain_from l.entry (l.number + 1) l.faults (map (λ t. t.now) (drop l.part-index l.parts))) ≡ chain_from l.entry 1 l.fn.faults (map (λ t. t.now) l.parts))
