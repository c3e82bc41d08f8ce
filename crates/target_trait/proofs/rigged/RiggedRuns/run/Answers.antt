use Rattle.std.proofs.Common.{ap, sym, ◌∙◌}
use Rattle.action_eval.specs.Answers.{Run, start}
use Rattle.target_trait.specs.Outcomes.{verdict_with}
use Rattle.target_trait.proofs.rigged.RiggedRuns.run.Goals as goal

pub run_session-requires-clause-new : goal.run_session-requires-clause-new
run_session-requires-clause-new g c = c.in_ok-session.ensures ∙ ap (λ (r : Run). start r.given) (sym c.in_ok-session.ensures)

pub run_session-requires-clause-points : goal.run_session-requires-clause-points
run_session-requires-clause-points g c = ap (λ (r : Run). r.given.catalogue) c.in_ok-session.ensures ∙ c.requires

pub returns-clause-ok : goal.returns-clause-ok
returns-clause-ok g c =
    let asks = g.T.Target.asks c.args.target.now c.args.workload.now in
    c.in_ok-verdict.ensures.ok
    ∙ ap (λ (r : Run). verdict_with asks g.T.Target.names r.given.seed r.given.limit r.given.stream r.given.scenario) c.in_ok-session.ensures
