use Rattle.std.proofs.Common.{ap, ◌∙◌}
use Rattle.action_eval.specs.Answers.{Run, given_of}
use Rattle.target_trait.specs.Outcomes.{outcome, verdict_with}
use Rattle.target_trait.proofs.Verdicts.{verdict_is}
use Rattle.campaign_core.proofs.target_laws.candidate.AnyCandidate.look.Goals as goal

pub returns : goal.returns
returns g c =
    let asks = g.T.Target.asks c.args.self.now c.args.workload.now in
    let names = g.T.Target.names in
    let case = c.args.case.now in (
      record {
        verdict =
            c.in_ok-verdict.ensures.ok
            ∙ ap (λ (r : Run). verdict_with asks names r.given.seed r.given.limit r.given.stream r.given.scenario) c.in_ok-session.ensures
            ∙ verdict_is asks names case.seed case.max_hits case.stream case.scenario.now;
        asked =
            c.in_ok-asked.ensures.items ∙ c.trace.ensures.value ∙ c.in_ok-verdict.ensures.asked
            ∙ ap (λ (r : Run). (outcome asks r.given).asked) c.in_ok-session.ensures
            ∙ ap (λ points. (outcome asks (given_of case.scenario.now points case.seed case.stream case.max_hits)).asked) c.catalogue.ensures;
        stays = c.was_asked_after_stop-is_asked_on.ensures;
      },
      c.run_session.ensures.setup,
    )
