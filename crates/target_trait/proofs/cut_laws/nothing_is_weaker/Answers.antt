use Rattle.target_trait.proofs.CutLawsLemmas.LostAll.{same_verdict, no_room}
use Rattle.target_trait.proofs.cut_laws.nothing_is_weaker.Goals as goal

pub returns-clause-same : goal.returns-clause-same
returns-clause-same g c setup workload alike seed stream limit s lacks room =
    same_verdict (g.T.Target.asks setup workload) (g.T.CrashTarget.cut setup workload) g.T.Target.names (g.met.T.Target.within setup workload) seed stream limit s lacks alike room

pub returns-clause-less_room : goal.returns-clause-less_room
returns-clause-less_room g c setup workload seed stream limit s lacks full =
    no_room (g.T.Target.asks setup workload) (g.T.CrashTarget.cut setup workload) g.T.Target.names (g.met.T.Target.within setup workload) seed stream limit s lacks full
