use Rattle.std.proofs.Common.{ap, ◌∙◌}
use Rattle.action_eval.specs.RiggedScenario.{Rigged, rigged_scenario}
use Rattle.target_trait.specs.Outcomes.{verdict_with}
use Rattle.target_trait.proofs.Verdicts.{verdict_is}
use Rattle.grown_runs.proofs.rigged.run_rigs.Goals as goal

pub returns-clause-verdict : goal.returns-clause-verdict
returns-clause-verdict g c =
    let limits = c.args.input.now.limits in
    let asks = g.T.Target.asks c.args.target.now c.args.input.now.workload.now in
    let names = g.T.Target.names in
    c.in_ok-verdict.ensures.ok
    ∙ ap (λ (t : Rigged). verdict_with asks names limits.seed limits.max_hits c.args.stream t.scenario) c.in_ok-load.ensures.ok
    ∙ ap (λ points. verdict_with asks names limits.seed limits.max_hits c.args.stream (rigged_scenario points c.args.rigs.now)) c.catalogue.ensures
    ∙ verdict_is asks names limits.seed limits.max_hits c.args.stream _
