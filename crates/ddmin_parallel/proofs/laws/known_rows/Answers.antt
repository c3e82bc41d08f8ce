use Rattle.std.proofs.Common.{refl}
use Rattle.ddmin_parallel.specs.Ddmin.{ddmin, ddmin2, ddmin_within}
use Rattle.ddmin_parallel.specs.Rounds.{round, part, complement}
use Rattle.ddmin_parallel.proofs.laws.known_rows.Goals as goal

pub returns : goal.returns
unfolding ddmin ddmin2 ddmin_within round part complement
returns c = record { eight = refl; three = refl; two = refl; empty_fails = refl; no_faults = refl }
