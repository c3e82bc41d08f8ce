use Rattle.std.proofs.Common.{sym, ◌∙◌, ap, subst}
use Rattle.ddmin_parallel.specs.Runs.{faults_of, AreApart}
use Rattle.ddmin_parallel.proofs.RunLemmas.{faults_of_runs, apart_runs}
use Rattle.ddmin_parallel.proofs.fault_set.FaultSet.runs.Goals as goal

pub returns-clause-faults : goal.returns-clause-faults
returns-clause-faults c = ap faults_of c.key.ensures ∙ faults_of_runs c.args.self.now

pub returns-clause-apart : goal.returns-clause-apart
returns-clause-apart c = subst AreApart (sym c.key.ensures) (apart_runs c.args.self.now)
