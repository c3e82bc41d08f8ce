use Rattle.std.proofs.Common.{◌≡◌, ◌∙◌, List, [], Some, ap, get_or, refl, subst, sym}
use Rattle.std.specs.Prelude.{option_map}
use Rattle.scenario_values.specs.Scenario.{Entries}
use Rattle.scenario_values.specs.Tidied.{tidied}
use Rattle.action_eval.specs.declared.rig.Rig.{Rig}
use Rattle.grown_plans.specs.numbered.GrownScenarios.{grown_scenario}
use Rattle.answer_text.specs.declared.runs.ToldRun.{ToldRun}
use Rattle.answered_runs.specs.Answered.{Answered, plan_told}
use Rattle.answered_runs.specs.Lines.{AreLinesOf}
use Rattle.answered_runs.specs.declared.played.Played.{Played}
use Rattle.answered_runs.specs.inside.Played.{Adds, IsAdded}
use Rattle.answered_runs.proofs.PlayedRuns.{plan_added, plan_recorded}
use Rattle.answered_runs.proofs.told_lines.add_plan.Goals as goal

pub add_told-requires-clause-recorded : goal.add_told-requires-clause-recorded
add_told-requires-clause-recorded c = sym c.told.ensures ∙ ap (option_map (λ r. r.now)) c.in-Some.is

pub returns : goal.returns
returns c =
    let a : Answered = c.args.known.now.answered in
    let plan : List Rig = get_or c.args.known.now.list.plans c.args.number [] in
    let x : Played = c.args.played.now in
    let y : Played = c.add_told.new.played in
    let s : Entries = tidied (grown_scenario a.points plan) in
    let r : ToldRun = c.in-Some.run'.now in
    let of : AreLinesOf c.lines.result.codes.now c.lines.result.points.now c.lines.result.text.now a.book =
    subst (λ (b : Answered). AreLinesOf c.lines.result.codes.now c.lines.result.points.now c.lines.result.text.now b.book) c.runs.ensures c.lines.ensures.of
    in
    let found : plan_told a plan ≡ Some r = sym c.told.ensures ∙ ap (option_map (λ r. r.now)) c.in-Some.is in
    let adds : Adds a x y s r = subst (IsAdded a x y s r) c.in_default-2.is c.in_ok-broken.ensures.added in
    plan_added a c.lines.result.codes.now c.lines.result.points.now c.lines.result.text.now of x y _ s r c.requires.marked adds c.in_ok-broken.ensures.lawful (plan_recorded a plan r found) refl refl c.in_ok-mark.ensures
