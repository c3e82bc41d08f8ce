use Rattle.std.proofs.Common.{refl}
use Rattle.target_trait.proofs.CutLawsLemmas.EachSet.{leaves_just}
use Rattle.target_trait.proofs.CutLawsLemmas.Lawful.{keeps_limits}
use Rattle.target_trait.proofs.CutLawsLemmas.Shorter.{two_terms}
use Rattle.target_trait.proofs.cut_laws.each_kept_set_has_a_scenario.Goals as goal

pub returns-clause-leaves : goal.returns-clause-leaves
returns-clause-leaves g c setup workload seed stream limit s keep lacks goes room long =
    leaves_just (g.T.Target.asks setup workload) (g.T.CrashTarget.cut setup workload) g.T.Target.names (g.met.T.Target.within setup workload) g.met.T.CrashTarget.lawful_to_cut
    seed stream limit s keep lacks goes room long

pub returns-clause-row : goal.returns-clause-row
returns-clause-row g c = refl

pub returns-clause-terms : goal.returns-clause-terms
returns-clause-terms g c = two_terms

pub returns-clause-lawful : goal.returns-clause-lawful
returns-clause-lawful g c = keeps_limits
