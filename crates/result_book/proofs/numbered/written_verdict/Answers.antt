use Rattle.std.proofs.Common.{ℕ, ap, filter, not, sym, ◌∙◌}
use Rattle.scenario_values.specs.Scenario.{Entries}
use Rattle.action_eval.specs.Answers.{Run, given_of, start, texts}
use Rattle.target_trait.specs.declared.case.Case.{Case}
use Rattle.target_trait.specs.Outcomes.{outcome, verdict_with}
use Rattle.result_book.specs.Runs.{is_asked}
use Rattle.result_book.proofs.numbered.written_verdict.Goals as goal

pub run_session-requires-clause-new : goal.run_session-requires-clause-new
run_session-requires-clause-new g c = c.in_ok-session.ensures ∙ ap (λ (r : Run). start r.given) (sym c.in_ok-session.ensures)

pub run_session-requires-clause-points : goal.run_session-requires-clause-points
run_session-requires-clause-points g c = ap (λ (r : Run). r.given.catalogue) c.in_ok-session.ensures ∙ c.catalogue.ensures

pub returns-clause-ok : goal.returns-clause-ok
returns-clause-ok g c =
    let input = c.args.input.now in
    let settings = input.settings.now in
    let asks = g.T.Target.asks c.args.target.now input.workload.now in
    let names = g.T.Target.names in
    c.in_ok-verdict.ensures.ok
    ∙ ap (λ (r : Run). verdict_with asks names r.given.seed r.given.limit r.given.stream r.given.scenario) c.in_ok-session.ensures
    ∙ ap (λ (k : Case). verdict_with asks names k.seed k.max_hits k.stream k.scenario.now) c.case-case.ensures
    ∙ ap (λ (n : ℕ). verdict_with asks names settings.plans.seed settings.max_hits n c.in_ok-scenario.scenario) c.from.ensures
    ∙ ap (λ (s : Entries). verdict_with asks names settings.plans.seed settings.max_hits c.args.number s) (c.in_ok-scenario.ensures ∙ c.plan.ensures)

pub returns-clause-unreached : goal.returns-clause-unreached
returns-clause-unreached g c =
    let input = c.args.input.now in
    let settings = input.settings.now in
    let asks = g.T.Target.asks c.args.target.now input.workload.now in
    let names = g.T.Target.names in
    c.leave_unasked.ensures
    ∙ ap (λ asked. filter (λ p. not (is_asked p asked)) c.args.unreached.now.items)
    (c.trace.ensures.value ∙ c.in_ok-verdict.ensures.asked
    ∙ ap (λ (r : Run). (outcome asks r.given).asked) c.in_ok-session.ensures
    ∙ ap (λ (k : Case). (outcome asks (given_of k.scenario.now (texts c.catalogue.result.now) k.seed k.stream k.max_hits)).asked) c.case-case.ensures
    ∙ ap (λ (n : ℕ). (outcome asks (given_of c.in_ok-scenario.scenario (texts c.catalogue.result.now) settings.plans.seed n settings.max_hits)).asked) c.from.ensures
    ∙ ap (λ points. (outcome asks (given_of c.in_ok-scenario.scenario points settings.plans.seed c.args.number settings.max_hits)).asked) c.catalogue.ensures
    ∙ ap (λ (s : Entries). (outcome asks (given_of s names settings.plans.seed c.args.number settings.max_hits)).asked) (c.in_ok-scenario.ensures ∙ c.plan.ensures))
