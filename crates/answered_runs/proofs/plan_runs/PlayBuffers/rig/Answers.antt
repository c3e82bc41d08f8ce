use Rattle.std.proofs.Common.{◌≡◌, ◌∙◌, ◌<◌, ℕ, List, [], ap, get_or, length, subst, sym}
use Rattle.std.specs.List.{AllByRecursion}
use Rattle.std.proofs.lemmas.Result.{on_ok_weaker}
use Rattle.action_eval.specs.Answers.{texts}
use Rattle.action_eval.specs.Catalogue.{IsCatalogue}
use Rattle.action_eval.specs.declared.rig.Rig.{Rig}
use Rattle.action_eval.specs.RiggedScenario.{CanBeRigged, rigged_as, rigged_scenario}
use Rattle.action_eval.proofs.Rigged.{rigged_scenario_keeps}
use Rattle.grown_plans.specs.GrownPlans.{rigs_of}
use Rattle.grown_plans.specs.declared.grown_list.GrownList.{GrownList}
use Rattle.answered_runs.specs.Answered.{Answered}
use Rattle.answered_runs.proofs.GrownLemmas.Caused.{all_at}
use Rattle.answered_runs.proofs.plan_runs.PlayBuffers.rig.Goals as goal

plan_can : (plans : List (List Rig)) (number : ℕ) → number < length plans → AllByRecursion (λ plan. CanBeRigged (rigs_of plan)) plans → CanBeRigged (rigs_of (get_or plans number []))
plan_can plans number less can = all_at (λ (plan : List Rig). CanBeRigged (rigs_of plan)) plans number [] less can

pub load-requires-clause-small : goal.load-requires-clause-small
load-requires-clause-small c =
    let plans : List (List Rig) = c.args.known.now.list.plans in
    let plan : List Rig = get_or plans c.args.number [] in
    let own : c.list.result.now.plans ≡ plans = ap (λ (l : GrownList). l.plans) c.list.ensures.same in
    let rigs : c.as_slice-rigs.result.now ≡ rigs_of plan = c.as_slice-rigs.ensures.value ∙ c.in_ok-put.ensures.rigs ∙ ap (λ (ps : List (List Rig)). rigs_of (get_or ps c.args.number [])) own in
    subst CanBeRigged (sym rigs) (plan_can plans c.args.number c.requires c.list.ensures.known.rigs)

pub returns-clause-table : goal.returns-clause-table
returns-clause-table c =
    let a : Answered = c.args.known.now.answered in
    let plans : List (List Rig) = c.args.known.now.list.plans in
    let plan : List Rig = get_or plans c.args.number [] in
    let own : c.list.result.now.plans ≡ plans = ap (λ (l : GrownList). l.plans) c.list.ensures.same in
    let rigs : c.as_slice-rigs.result.now ≡ rigs_of plan = c.as_slice-rigs.ensures.value ∙ c.in_ok-put.ensures.rigs ∙ ap (λ (ps : List (List Rig)). rigs_of (get_or ps c.args.number [])) own in
    let names : texts c.points.result.now ≡ a.points = c.points.ensures.names ∙ ap (λ (b : Answered). b.points) c.runs.ensures in
    on_ok_weaker c.load.result
    (λ is. is ∙ ap (λ (n : List (List ℕ)). rigged_as n (rigged_scenario n c.as_slice-rigs.result.now)) names
    ∙ ap (λ (rs : List Rig). rigged_as a.points (rigged_scenario a.points rs)) rigs)
    c.load.ensures.ok

pub returns-clause-lawful : goal.returns-clause-lawful
returns-clause-lawful c =
    let a : Answered = c.args.known.now.answered in
    let plans : List (List Rig) = c.args.known.now.list.plans in
    let can = plan_can plans c.args.number c.requires c.list.ensures.known.rigs in
    let catalogue : IsCatalogue a.points = subst IsCatalogue (ap (λ (b : Answered). b.points) c.runs.ensures) c.points.ensures.lawful in
    on_ok_weaker c.load.result (λ _. rigged_scenario_keeps a.points (rigs_of (get_or plans c.args.number [])) catalogue can.0 can.1 can.2) c.load.ensures.ok
