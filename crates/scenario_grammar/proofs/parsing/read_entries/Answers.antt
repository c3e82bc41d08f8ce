use Rattle.scenario_grammar.proofs.Pieces.{few_pieces}
use Rattle.scenario_grammar.proofs.parsing.read_entries.Goals as goal

pub read_pieces-requires : goal.read_pieces-requires
read_pieces-requires c = rw c.deref.ensures.value (few_pieces c.args.text.now c.in_ok-pieces.pieces.items c.if-text-gt65536.false c.in_ok-pieces.ensures)
