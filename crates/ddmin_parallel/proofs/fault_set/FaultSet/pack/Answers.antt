use Rattle.std.proofs.Common.{◌≡◌, sym, ◌∙◌, ap}
use Rattle.ddmin_parallel.specs.inside.Packing.{runs_of}
use Rattle.ddmin_parallel.proofs.RunLemmas.{is_packed, has_faults}
use Rattle.ddmin_parallel.proofs.fault_set.FaultSet.pack.Goals as goal

packed : (c : goal.In_ok-runs-in-Some) → c.in_ok-runs-in-Some.runs.items ≡ runs_of c.args.faults.now
packed c = c.in_ok-runs-in-Some.ensures ∙ ap runs_of (sym c.in-Some.ensures.cases.0)

pub invariant_of-result : goal.invariant_of-result
invariant_of-result c = is_packed _ c.args.faults.now (packed c)

pub returns-in_ok-runs-in-Some : goal.returns-in_ok-runs-in-Some
returns-in_ok-runs-in-Some c = has_faults _ c.args.faults.now (packed c)
