use Rattle.target_trait.proofs.CutLawsLemmas.LosesAlike.{loses_by_table, loses_nothing}
use Rattle.target_trait.proofs.cut_laws.these_lose_alike.Goals as goal

pub returns-clause-by_table : goal.returns-clause-by_table
returns-clause-by_table g c setup workload each = loses_by_table (g.P.Protocol.table setup workload) (g.P.CrashProtocol.cut_table setup workload) each

pub returns-clause-nothing_pending : goal.returns-clause-nothing_pending
returns-clause-nothing_pending g c = loses_nothing
