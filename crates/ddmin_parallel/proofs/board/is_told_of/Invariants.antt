use Rattle.std.proofs.Common.{◌≡◌, ℕ, ◌<◌, Bool, List, false, get_or}
use Rattle.std.specs.Prelude.{Vec}
use Rattle.std.specs.Global.{Global}
use Rattle.std.specs.List.{list_any}
use Rattle.ddmin_parallel.specs.Logs.{says}
use Rattle.ddmin_parallel.proofs.board.is_told_of.Given as goal

abbrev pub invariant-loop-told : goal.invariant-loop-told
invariant-loop-told l = (j : ℕ) (d : Vec (List ℕ × Bool) Global) → j < l.told-index → list_any (says l.set l.fails) (get_or l.pairs j d).items ≡ false
