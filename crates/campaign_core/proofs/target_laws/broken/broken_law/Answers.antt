use Rattle.std.proofs.lemmas.Result.{IfOk-weaker}
use Rattle.campaign_core.specs.target_laws.Candidates.{IsSeenIn}
use Rattle.campaign_core.proofs.TargetLawsLemmas.Candidates.{MadeOf, none_broken}
use Rattle.campaign_core.proofs.target_laws.broken.broken_law.Goals as goal

pub returns : goal.returns
returns g c =
    IfOk-weaker c.first_broken_law.result (IsSeenIn (MadeOf g.T.Target c.args.workload.now) g.T.Target.names c.args.seed c.args.max_hits _ _) _
    (λ law seen. none_broken g.T.Target c.args.workload.now _ _ c.args.seed c.args.max_hits law g.met.T.Target.lawful seen) c.first_broken_law.ensures
