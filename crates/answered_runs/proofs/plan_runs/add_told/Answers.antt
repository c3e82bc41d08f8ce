use Rattle.std.proofs.Common.{refl, ◌≡◌, ◌∙◌, List, [], ℕ, Some, Result, Ok, Err, ap, get_or, sym, subst}
use Rattle.std.specs.Prelude.{OnOk}
use Rattle.std.specs.declared.alloc.AllocError.{AllocError}
use Rattle.scenario_values.specs.Scenario.{Entries, IsScenario}
use Rattle.scenario_values.specs.Tidied.{tidied}
use Rattle.scenario_values.proofs.Limits.{tidied_scenario}
use Rattle.action_eval.specs.declared.rig.Rig.{Rig}
use Rattle.action_eval.specs.RiggedScenario.{Rigged}
use Rattle.grown_runs.specs.known.Looks.{IsLook, told}
use Rattle.grown_plans.specs.GrownPlans.{rigs_of}
use Rattle.grown_plans.specs.numbered.GrownScenarios.{grown_scenario}
use Rattle.answer_text.specs.Runs.{told_in}
use Rattle.answer_text.specs.declared.runs.ToldRun.{ToldRun}
use Rattle.answer_text.proofs.TidyAgain.{tidied_again}
use Rattle.answered_runs.specs.Answered.{Answered, plan_told, told_of}
use Rattle.answered_runs.specs.declared.saying.SeenRun.{SeenRun}
use Rattle.answered_runs.specs.inside.Trees.{IsSeen, IsTold}
use Rattle.answered_runs.proofs.CertainAnswers.{rigs_certain}
use Rattle.answered_runs.proofs.PlayedRuns.{known_points, plan_recorded, seen_points, seen_run}
use Rattle.answered_runs.proofs.plan_runs.add_told.Goals as goal

-- the recorded run of a plan, which is lawful
told_plan : (a : Answered) (plan : List Rig) (r : ToldRun) → IsScenario (grown_scenario a.points plan) → plan_told a plan ≡ Some r → IsTold a (tidied (grown_scenario a.points plan)) r
told_plan a plan r lawful found = record {
  lawful = tidied_scenario (grown_scenario a.points plan) lawful;
  certain = rigs_certain a.points (rigs_of plan);
  recorded = plan_recorded a plan r found;
}

pub put-requires-clause-known : goal.put-requires-clause-known
put-requires-clause-known c =
    let a : Answered = c.runs-runs.result.now in
    let own : Answered = c.args.known.now.answered in
    let r : ToldRun = c.args.run.now in
    let plan : List Rig = get_or c.args.known.now.list.plans c.args.number [] in
    let s : Entries = tidied (grown_scenario own.points plan) in
    let recorded : told_in a.book s ≡ Some r = ap (λ (b : Answered). told_in b.book s) c.runs-runs.ensures ∙ plan_recorded own plan r c.requires.recorded in
    let seen_so : Some (told_of r) ≡ Some (told c.in-Seen.verdict (Some c.read.new.hits.items)) = subst (IsLook (Some (told_of r)) c.read.new.hits.items) c.in-Seen.is c.in_ok-verdict.ensures.told in
    let same : Some (told_of r) ≡ Some (told c.in-Seen.verdict (Some c.as_slice-hits.result.now)) = seen_so ∙ ap (λ (h : List ℕ). Some (told c.in-Seen.verdict (Some h))) (sym c.as_slice-hits.ensures.value) in
    seen_points a s r c.in-Seen.verdict c.as_slice-hits.result.now (known_points a _ _ _ c.lines.ensures.of c.lines.ensures.names) recorded same

pub put-requires-clause-names : goal.put-requires-clause-names
put-requires-clause-names c = ap (λ (t : Rigged). t.names) c.in_ok-rig.ensures.table ∙ ap (λ (a : Answered). a.points) (sym c.runs-runs.ensures)

pub put-requires-clause-lawful : goal.put-requires-clause-lawful
put-requires-clause-lawful c = subst IsScenario (sym (ap (λ (t : Rigged). t.scenario) c.in_ok-rig.ensures.table)) c.in_ok-rig.ensures.lawful

pub put-requires-clause-seen : goal.put-requires-clause-seen
put-requires-clause-seen c =
    let a : Answered = c.runs-runs.result.now in
    let own : Answered = c.args.known.now.answered in
    let r : ToldRun = c.args.run.now in
    let plan : List Rig = get_or c.args.known.now.list.plans c.args.number [] in
    let s : Entries = tidied (grown_scenario own.points plan) in
    let seen_so : Some (told_of r) ≡ Some (told c.in-Seen.verdict (Some c.read.new.hits.items)) = subst (IsLook (Some (told_of r)) c.read.new.hits.items) c.in-Seen.is c.in_ok-verdict.ensures.told in
    let same : Some (told_of r) ≡ Some (told c.in-Seen.verdict (Some c.as_slice-hits.result.now)) = seen_so ∙ ap (λ (h : List ℕ). Some (told c.in-Seen.verdict (Some h))) (sym c.as_slice-hits.ensures.value) in
    let told_is : IsTold a s r = subst (λ (b : Answered). IsTold b s r) (sym c.runs-runs.ensures) (told_plan own plan r c.in_ok-rig.ensures.lawful c.requires.recorded) in
    let seen : SeenRun = record { line = r.line; verdict = c.in-Seen.verdict; hits = c.as_slice-hits.result } in
    subst (λ (u : Entries). IsSeen a u seen) (sym (ap (λ (t : Rigged). tidied t.scenario) c.in_ok-rig.ensures.table)) (seen_run a s seen r told_is refl same)

pub add_run-requires-clause-tidy : goal.add_run-requires-clause-tidy
add_run-requires-clause-tidy c = ap tidied c.in_ok-scenario-in-Unseen.ensures ∙ tidied_again _ ∙ sym c.in_ok-scenario-in-Unseen.ensures

pub add_run-requires-clause-recorded : goal.add_run-requires-clause-recorded
add_run-requires-clause-recorded c =
    let own : Answered = c.args.known.now.answered in
    let r : ToldRun = c.args.run.now in
    let plan : List Rig = get_or c.args.known.now.list.plans c.args.number [] in
    ap (λ (b : Answered). told_in b.book c.in_ok-scenario-in-Unseen.scenario) c.runs-runs.ensures ∙ ap (told_in own.book) c.in_ok-scenario-in-Unseen.ensures ∙ plan_recorded own plan r c.requires.recorded

always : {X : Type 0} (P : Type 0) (r : Result X AllocError) → P → OnOk r P
always P (Ok x) p = p
always P (Err e) p = tt

pub returns-in-Seen-clause-lawful : goal.returns-in-Seen-clause-lawful
returns-in-Seen-clause-lawful c = always _ c.put.result (tidied_scenario _ c.in_ok-rig.ensures.lawful)
