use Rattle.std.proofs.Common.{ap, filter, not, ◌∙◌}
use Rattle.action_eval.specs.Answers.{given_of}
use Rattle.target_trait.specs.Outcomes.{outcome, verdict_with}
use Rattle.campaign_given.specs.Given.{Given as Settled}
use Rattle.result_book.specs.Runs.{is_asked}
use Rattle.result_book.proofs.numbered.rigged_verdict.Goals as goal

pub returns-clause-ok : goal.returns-clause-ok
returns-clause-ok g c =
    let input = c.args.input.now in
    let settings = input.settings.now in
    let scenario = c.args.runs.now.table.scenario in
    let asks = g.T.Target.asks c.args.target.now input.workload.now in
    c.in_ok-verdict.ensures.ok
    ∙ ap (λ (s : Settled). verdict_with asks g.T.Target.names s.plans.seed s.max_hits c.from.result scenario) c.given.view_is
    ∙ ap (λ n. verdict_with asks g.T.Target.names settings.plans.seed settings.max_hits n scenario) c.from.ensures

pub returns-clause-unreached : goal.returns-clause-unreached
returns-clause-unreached g c =
    let input = c.args.input.now in
    let settings = input.settings.now in
    let scenario = c.args.runs.now.table.scenario in
    let asks = g.T.Target.asks c.args.target.now input.workload.now in
    c.leave_unasked.ensures
    ∙ ap (λ asked. filter (λ p. not (is_asked p asked)) c.args.unreached.now.items)
    (c.trace.ensures ∙ c.in_ok-verdict.ensures.asked
    ∙ ap (λ (s : Settled). (outcome asks (given_of scenario g.T.Target.names s.plans.seed c.from.result s.max_hits)).asked) c.given.view_is
    ∙ ap (λ n. (outcome asks (given_of scenario g.T.Target.names settings.plans.seed n settings.max_hits)).asked) c.from.ensures)
