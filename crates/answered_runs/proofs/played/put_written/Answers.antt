use Rattle.std.proofs.Common.{◌∙◌, List, ℕ, ap, length, subst, sym}
use Rattle.scenario_values.specs.Scenario.{Entries, IsScenario}
use Rattle.scenario_values.specs.Tidied.{tidied}
use Rattle.action_eval.specs.Answers.{given_of, start}
use Rattle.answered_runs.specs.inside.Trees.{IsSeen}
use Rattle.answered_runs.proofs.PutHits.{has_begun, put_so, scenario_begun}
use Rattle.answered_runs.proofs.played.put_written.Goals as goal

pub put_run-requires-clause-begun : goal.put_run-requires-clause-begun
put_run-requires-clause-begun c =
    let n : ℕ = length c.args.run.now.hits.now in
    has_begun c.args.runs.now.points n c.args.scenario.now c.in_ok-session.session
    (c.in_ok-session.ensures ∙ ap (λ (points : List (List ℕ)). start (given_of c.args.scenario.now points 0 0 n)) c.points.ensures.names)

pub put_run-requires-clause-lawful : goal.put_run-requires-clause-lawful
put_run-requires-clause-lawful c =
    subst IsScenario (sym (scenario_begun _ _ c.args.scenario.now c.in_ok-session.session c.in_ok-session.ensures)) c.entries.ensures.limits

pub put_run-requires-clause-seen : goal.put_run-requires-clause-seen
put_run-requires-clause-seen c =
    let is = ap tidied (scenario_begun _ _ c.args.scenario.now c.in_ok-session.session c.in_ok-session.ensures) ∙ c.requires.tidy in
    subst (λ (s : Entries). IsSeen c.args.runs.now s c.args.run.now) (sym is) c.requires.seen

pub returns : goal.returns
returns c =
    let is = ap tidied (scenario_begun _ _ c.args.scenario.now c.in_ok-session.session c.in_ok-session.ensures) ∙ c.requires.tidy in
    put_so c.args.runs.now c.args.tree.now c.put_run.new.tree c.args.run.now _ c.args.scenario.now c.put_run.result is c.put_run.ensures
