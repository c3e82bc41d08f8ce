use Rattle.std.proofs.Common.{◌≡◌, ◌+◌, drop}
use Rattle.scenario_grammar.specs.FirstFault.{pieces_from, nothing}
use Rattle.scenario_grammar.specs.inside.Built.{progress}
use Rattle.scenario_grammar.proofs.Chains.{bytes_of}
use Rattle.scenario_grammar.proofs.parsing.read_pieces.Given as goal

abbrev pub invariant-loop-piece : goal.invariant-loop-piece
invariant-loop-piece l = (l.entry ≡ l.piece-index) × (pieces_from (progress l.builder) (l.entry + 1) (bytes_of (drop l.piece-index l.pieces)) ≡ pieces_from nothing 1 (bytes_of l.pieces))
