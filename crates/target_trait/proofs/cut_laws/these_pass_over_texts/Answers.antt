use Rattle.target_trait.specs.Protocol.{by_table}
use Rattle.target_trait.proofs.CutLawsLemmas.Texts.{asks_alike, table_passes, with_cut_alike}
use Rattle.target_trait.proofs.cut_laws.these_pass_over_texts.Goals as goal

pub returns-clause-by_table : goal.returns-clause-by_table
returns-clause-by_table g c setup workload same =
    let t = g.P.Protocol.table setup workload in
    asks_alike (by_table t) (table_passes t same)

pub returns-clause-with_cut : goal.returns-clause-with_cut
returns-clause-with_cut g c setup workload keep same =
    let t = g.P.Protocol.table setup workload in
    let cut = g.P.CrashProtocol.cut_table setup workload in
    with_cut_alike (by_table t) (table_passes t same) (λ x. cut.pending x.0) (λ x kept. cut.judge x.0 kept) keep
