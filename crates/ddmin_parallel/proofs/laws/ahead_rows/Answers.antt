use Rattle.std.proofs.Common.{refl}
use Rattle.ddmin_parallel.specs.CoreEvents.{furthest, walk}
use Rattle.ddmin_parallel.specs.Rounds.{round, part, complement}
use Rattle.ddmin_parallel.proofs.laws.ahead_rows.Goals as goal

pub returns : goal.returns
unfolding furthest walk round part complement
returns c = record { ahead = refl; none = refl; moved = refl; finer = refl }
