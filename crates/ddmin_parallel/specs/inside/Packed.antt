use Rattle.std.specs.Prelude.{◌≡◌}
use Rattle.ddmin_parallel.specs.Runs.{faults_of}
use Rattle.ddmin_parallel.specs.inside.Packing.{runs_of}
use Rattle.ddmin_parallel.specs.declared.fault_set.FaultSet.TheInside.{Inside}
use Rattle.ddmin_parallel.specs.declared.reducer_core.TestRequest.TheInside as request

-- The runs are the packed form of their faults.
abbrev pub IsPacked : Inside → Type 0
IsPacked s = runs_of (faults_of s.runs.items) ≡ s.runs.items

-- Both forms of a request are of the same set.
abbrev pub IsPackedRequest : request.Inside → Type 0
IsPackedRequest c = c.packed ≡ c.set.items
