use Rattle.std.proofs.Common.{◌≡◌, ℕ, ◌<◌, Bool, List, false, get_or}
use Rattle.ddmin_parallel.specs.Logs.{says}
use Rattle.ddmin_parallel.proofs.board.is_told_by.Given as goal

abbrev pub invariant-loop-pair : goal.invariant-loop-pair
invariant-loop-pair l = (j : ℕ) (d : List ℕ × Bool) → j < l.pair-index → says l.set l.fails (get_or l.told j d) ≡ false
