use Rattle.std.proofs.Common.{◌≡◌, ℕ, ◌<◌, List, false, get_or}
use Rattle.ddmin_parallel.specs.CoreEvents.{same_set}
use Rattle.ddmin_parallel.proofs.sets.place_of.Given as goal

abbrev pub invariant-loop-place : goal.invariant-loop-place
invariant-loop-place l = (j : ℕ) (d : List ℕ) → j < l.place → same_set l.set (get_or l.out j d) ≡ false
