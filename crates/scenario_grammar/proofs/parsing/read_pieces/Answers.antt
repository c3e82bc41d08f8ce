use Rattle.std.proofs.Common.{◌+◌, arith, drop, Bor, List, ℕ, []}
use Rattle.std.proofs.lemmas.Result.{err_from_is_err_and}
use Rattle.scenario_grammar.specs.inside.Built.{progress}
use Rattle.scenario_grammar.proofs.Chains.{next_of, none_left, bytes_of}
use Rattle.scenario_grammar.proofs.Pieces.{goes_on, ends, is_done}
use Rattle.scenario_grammar.proofs.parsing.read_pieces.Goals as goal

nowhere : Bor (List ℕ)
nowhere = record { ref_ptr = (0, 0); now = [] }

pub returns-in_err-add_piece : goal.returns-in_err-add_piece
unfolding nowhere
returns-in_err-add_piece c =
    let p = err_from_is_err_and c.from_residual.result c.from_residual.ensures.1 in
    let i = c.loop-piece.piece-index in
    rw (p.1, p.2) (ends c.in_err-add_piece.field-0.0 (progress c.loop-piece.builder) (c.loop-piece.entry + 1) c.trim.result.now _ (bytes_of (drop i c.args.pieces.now)) _ _ (next_of c.args.pieces.now i nowhere c.loop-piece-test.true) c.trim.ensures c.in_err-add_piece.ensures c.loop-piece.invariant.1)

pub loop-piece-preserved : goal.loop-piece-preserved
unfolding nowhere
loop-piece-preserved c =
    let i = c.loop-piece.piece-index in
    (omega arith, goes_on (progress c.loop-piece.builder) (progress c.add_piece.new.self) (c.loop-piece.entry + 1) c.trim.result.now _ (bytes_of (drop i c.args.pieces.now)) _ _ (next_of c.args.pieces.now i nowhere c.loop-piece-test.true) c.trim.ensures c.in_ok-add_piece.ensures c.loop-piece.invariant.1)

pub returns : goal.returns
returns c = is_done (progress c.loop-piece.builder) (c.loop-piece.entry + 1) (bytes_of (drop c.loop-piece.piece-index c.args.pieces.now)) _ (none_left c.args.pieces.now c.loop-piece.piece-index c.loop-piece-test.false) c.loop-piece.invariant.1
