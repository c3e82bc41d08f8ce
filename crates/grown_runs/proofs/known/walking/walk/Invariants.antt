use Rattle.std.proofs.Common.{◌-◌}
use Rattle.grown_runs.proofs.KnownLemmas.Steps.{Leads}
use Rattle.grown_runs.proofs.known.walking.walk.Given as goal

abbrev pub invariant-loop : goal.invariant-loop
invariant-loop g l = Leads (g.T.RunTable.known l.table) l.rigs l.depth (l.depth - l.counter) l.plan.items
