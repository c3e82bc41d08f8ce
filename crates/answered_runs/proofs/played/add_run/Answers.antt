use Rattle.std.proofs.Common.{refl, ◌≡◌, ◌∙◌, List, ℕ, Some, None, ap, sym, subst}
use Rattle.grown_runs.specs.known.Looks.{IsLook, told}
use Rattle.answer_text.specs.declared.runs.ToldRun.{ToldRun}
use Rattle.answered_runs.specs.Answered.{Answered, told_of}
use Rattle.answered_runs.specs.declared.unseen.UnseenRun.{UnseenRun}
use Rattle.answered_runs.specs.inside.Trees.{IsTold}
use Rattle.answered_runs.proofs.PlayedRuns.{known_points, list_added, passed_over, seen_points, seen_run}
use Rattle.answered_runs.proofs.Tests.{scenario_certain}
use Rattle.answered_runs.proofs.played.add_run.Goals as goal

pub returns-then-not-is_certain : goal.returns-then-not-is_certain
returns-then-not-is_certain c = passed_over c.args.runs.now c.args.played.now c.args.scenario c.args.run.now c.requires.state (sym c.is_certain.ensures.certain ∙ c.if-not-is_certain.true)

pub put_written-requires-clause-known : goal.put_written-requires-clause-known
put_written-requires-clause-known c =
    let a : Answered = c.args.runs.now in
    let r : ToldRun = c.args.run.now in
    let seen_so : Some (told_of r) ≡ Some (told c.in-Seen.verdict (Some c.read.new.hits.items)) = subst (IsLook (Some (told_of r)) c.read.new.hits.items) c.in-Seen.is c.in_ok-verdict.ensures.told in
    let same : Some (told_of r) ≡ Some (told c.in-Seen.verdict (Some c.as_slice-hits.result.now)) = seen_so ∙ ap (λ (h : List ℕ). Some (told c.in-Seen.verdict (Some h))) (sym c.as_slice-hits.ensures.value) in
    seen_points a c.args.scenario r c.in-Seen.verdict c.as_slice-hits.result.now (known_points a _ _ _ c.lines.ensures.of c.lines.ensures.names) c.requires.recorded same

pub put_written-requires-clause-seen : goal.put_written-requires-clause-seen
put_written-requires-clause-seen c =
    let a : Answered = c.args.runs.now in
    let r : ToldRun = c.args.run.now in
    let seen_so : Some (told_of r) ≡ Some (told c.in-Seen.verdict (Some c.read.new.hits.items)) = subst (IsLook (Some (told_of r)) c.read.new.hits.items) c.in-Seen.is c.in_ok-verdict.ensures.told in
    let same : Some (told_of r) ≡ Some (told c.in-Seen.verdict (Some c.as_slice-hits.result.now)) = seen_so ∙ ap (λ (h : List ℕ). Some (told c.in-Seen.verdict (Some h))) (sym c.as_slice-hits.ensures.value) in
    let told_is : IsTold a c.args.scenario r =
    record { lawful = c.is_certain.ensures.lawful; certain = scenario_certain c.args.scenario (sym c.is_certain.ensures.certain ∙ c.if-not-is_certain.false); recorded = c.requires.recorded }
    in
    seen_run a c.args.scenario _ r told_is refl same

pub returns-in_ok-push-in-Unseen : goal.returns-in_ok-push-in-Unseen
returns-in_ok-push-in-Unseen c =
    let a : Answered = c.args.runs.now in
    let r : ToldRun = c.args.run.now in
    let u : UnseenRun = record { line = r.line; scenario = c.args.scenario; verdict = c.in-Unseen.verdict } in
    let seen_so : Some (told_of r) ≡ Some (told c.in-Unseen.verdict None) = subst (IsLook (Some (told_of r)) c.read.new.hits.items) c.in-Unseen.is c.in_ok-verdict.ensures.told in
    let told_is : IsTold a c.args.scenario r =
    record { lawful = c.is_certain.ensures.lawful; certain = scenario_certain c.args.scenario (sym c.is_certain.ensures.certain ∙ c.if-not-is_certain.false); recorded = c.requires.recorded }
    in
    list_added a c.args.played.now _ u r c.in-Unseen.verdict c.requires.state told_is refl refl seen_so refl c.in_ok-push-in-Unseen.ensures.items refl
