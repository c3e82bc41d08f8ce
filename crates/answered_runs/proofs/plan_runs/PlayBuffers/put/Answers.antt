use Rattle.std.proofs.Common.{◌∙◌, List, ℕ, ap, length, subst, sym}
use Rattle.scenario_values.specs.Scenario.{Entries, IsScenario}
use Rattle.scenario_values.specs.Tidied.{tidied}
use Rattle.action_eval.specs.Answers.{given_of, start}
use Rattle.answered_runs.specs.inside.Trees.{IsPut, IsSeen, line_seen}
use Rattle.answered_runs.proofs.PutHits.{has_begun, scenario_begun}
use Rattle.answered_runs.proofs.plan_runs.PlayBuffers.put.Goals as goal

pub put_run-requires-clause-begun : goal.put_run-requires-clause-begun
put_run-requires-clause-begun c =
    let n : ℕ = length c.args.run.now.hits.now in
    has_begun c.args.runs.now.points n c.args.self.now.table.scenario c.in_ok-session.session
    (c.in_ok-session.ensures ∙ ap (λ (points : List (List ℕ)). start (given_of c.args.self.now.table.scenario points 0 0 n)) c.requires.names)

pub put_run-requires-clause-lawful : goal.put_run-requires-clause-lawful
put_run-requires-clause-lawful c =
    subst IsScenario (sym (scenario_begun _ _ c.args.self.now.table.scenario c.in_ok-session.session c.in_ok-session.ensures)) c.requires.lawful

pub put_run-requires-clause-seen : goal.put_run-requires-clause-seen
put_run-requires-clause-seen c =
    let is = ap tidied (scenario_begun _ _ c.args.self.now.table.scenario c.in_ok-session.session c.in_ok-session.ensures) in
    subst (λ (s : Entries). IsSeen c.args.runs.now s c.args.run.now) (sym is) c.requires.seen

pub returns : goal.returns
returns c =
    let is = ap tidied (scenario_begun _ _ c.args.self.now.table.scenario c.in_ok-session.session c.in_ok-session.ensures) in
    subst (λ (s : Entries). IsPut c.args.runs.now c.args.tree.now c.put_run.new.tree (line_seen s c.args.run.now) c.in_ok-found.found) is c.in_ok-found.ensures
