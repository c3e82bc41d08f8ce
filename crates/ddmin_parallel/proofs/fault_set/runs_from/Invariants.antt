use Rattle.std.proofs.Common.{◌≡◌, [], ◌∷◌, ◌++◌, take}
use Rattle.ddmin_parallel.specs.inside.Packing.{with_faults}
use Rattle.ddmin_parallel.proofs.fault_set.runs_from.Given as goal

-- the faults so far are added
abbrev pub invariant-loop-fault : goal.invariant-loop-fault
invariant-loop-fault l = with_faults ((l.first, l.first) ∷ []) (take l.fault-index l.rest) ≡ l.runs.items ++ l.run ∷ []
