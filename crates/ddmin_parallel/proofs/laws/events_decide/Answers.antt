use Rattle.ddmin_parallel.proofs.BoardLemmas as board
use Rattle.ddmin_parallel.proofs.laws.events_decide.Goals as goal

pub returns : goal.returns
returns c = board.events_decide
