use Rattle.std.proofs.Common.{◌∷◌, [], refl, subst, Option}
use Rattle.std.specs.Prelude.{IfSome}
use Rattle.scenario_values.specs.Scenario.{Entries}
use Rattle.campaign_core.specs.target_laws.Candidates.{Halts, Look, look}
use Rattle.campaign_core.proofs.TargetLawsLemmas.Candidates.{lead_one, tried_one}
use Rattle.campaign_core.proofs.target_laws.trial.asks_after_halt.Goals as goal

pub returns : goal.returns
returns g c =
    let run : Look = look c.in-Some.scenario c.args.seed 0 c.args.max_hits c.in_ok-looked.looked in
    let halts : Halts c.args.name.now c.in-Some.scenario =
    subst (λ (o : Option Entries). IfSome o (Halts c.args.name.now)) c.in-Some.is c.in_ok-scenario.ensures.halts in (
      run ∷ [],
      lead_one (g.C.Candidate.made c.args.workload.now) c.args.candidate.now c.look.new.self run c.in_ok-looked.ensures,
      tried_one c.args.seed c.args.max_hits c.args.name.now c.in-Some.scenario run run.is_asked_on halts
          (record { scenario = refl; seed_is = refl; stream = refl; limit_is = refl }) refl,
    )
