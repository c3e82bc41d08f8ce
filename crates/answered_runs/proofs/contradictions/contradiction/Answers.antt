use Rattle.std.proofs.Common.{◌≡◌, Option, None, Some, Result, Ok, Err, IfNone, IfOk, IfSome, List, ℕ, ◌≤◌, ◌∙◌, ap, subst, sym}
use Rattle.std.specs.declared.alloc.AllocError.{AllocError}
use Rattle.answer_text.specs.Runs.{known_runs, told_in}
use Rattle.grown_plans.specs.GrownPlans.{Subject}
use Rattle.answered_runs.specs.Agreement.{AreContradicted, IsContradiction}
use Rattle.answered_runs.specs.Components.{AgreesWithRuns, IsComponent}
use Rattle.answered_runs.specs.declared.broken.BrokenRun.{BrokenRun}
use Rattle.answered_runs.specs.SomeComponent.{HasComponent, WereRead}
use Rattle.answered_runs.proofs.SomeComponent.{agreeing}
use Rattle.answered_runs.proofs.Disagreeing.{contradicted_by_none}
use Rattle.answered_runs.specs.Answered.{Answered}
use Rattle.answered_runs.specs.inside.Played.{AreAdded, AreDone, AreMarked, Stands}
use Rattle.answered_runs.proofs.PlayedRuns.{begun_state}
use Rattle.answered_runs.proofs.contradictions.contradiction.Goals as goal

pub add_plans-requires-clause-state : goal.add_plans-requires-clause-state
add_plans-requires-clause-state c = begun_state c.args.known.now.answered c.new-played.result c.new-played.ensures

pub add_lines-requires-clause-marked : goal.add_lines-requires-clause-marked
add_lines-requires-clause-marked c =
    let a : Answered = c.args.known.now.answered in
    let stands : Stands AreMarked a c.add_plans.new.played = subst (AreAdded AreMarked a c.add_plans.new.played) c.in_default.is c.in_ok-broken.ensures in
    subst (λ (b : Answered). AreMarked b c.add_plans.new.played) (sym c.runs-runs.ensures) stands.done

pub find_unseen-requires-clause-done : goal.find_unseen-requires-clause-done
find_unseen-requires-clause-done c =
    let stands : Stands AreDone c.runs-runs.result.now c.add_lines.new.played = subst (AreAdded AreDone c.runs-runs.result.now c.add_lines.new.played) c.in_default-2.is c.in_ok-broken-2.ensures in
    subst (λ (b : Answered). AreDone b c.add_lines.new.played) (sym c.runs-runs.ensures) (subst (λ (b : Answered). AreDone b c.add_lines.new.played) c.runs-runs.ensures stands.done)

-- no component agrees where a contradiction was found
refuted : (a b : Answered) → a ≡ b → (found : Result (Option BrokenRun) AllocError) → IfOk found (AreContradicted a)
    → IfOk found (λ o. IfSome o (λ broken. (t : Subject) → IsComponent b.points b.listed t → AgreesWithRuns t (told_in b.book) → ⊥))
refuted a b same (Ok None) h = tt
refuted a b same (Ok (Some broken)) h = contradicted_by_none b broken (subst (λ (x : Answered). IsContradiction x broken) same h)
refuted a b same (Err e) h = tt

pub returns-in-Some-clause-none : goal.returns-in-Some-clause-none
returns-in-Some-clause-none c =
    let a : Answered = c.args.known.now.answered in
    contradicted_by_none a c.in-Some.broken (subst (AreAdded AreMarked a c.add_plans.new.played) c.in-Some.is c.in_ok-broken.ensures)

pub returns-in-Some-2-clause-none : goal.returns-in-Some-2-clause-none
returns-in-Some-2-clause-none c =
    contradicted_by_none c.args.known.now.answered c.in-Some-2.broken
    (subst (λ (x : Answered). IsContradiction x c.in-Some-2.broken) c.runs-runs.ensures (subst (AreAdded AreDone c.runs-runs.result.now c.add_lines.new.played) c.in-Some-2.is c.in_ok-broken-2.ensures))

pub returns-clause-none : goal.returns-clause-none
returns-clause-none c = refuted c.runs-runs.result.now c.args.known.now.answered c.runs-runs.ensures c.find_unseen.result c.find_unseen.ensures

-- some component agrees where no contradiction was found
agreed : (a b : Answered) (depth : ℕ) → a ≡ b → depth ≤ 64 → WereRead a → (found : Result (Option BrokenRun) AllocError) → IfOk found (AreContradicted a) → IfOk found (λ o. IfNone o (HasComponent b depth))
agreed a b depth same low read (Ok None) h = subst (λ (x : Answered). HasComponent x depth) same (agreeing a depth low read h)
agreed a b depth same low read (Ok (Some broken)) h = tt
agreed a b depth same low read (Err e) h = tt

pub returns-clause-some : goal.returns-clause-some
returns-clause-some c =
    let a : Answered = c.runs-runs.result.now in
    let lines = c.lines.ensures in
    let read : WereRead a = record {
      points = c.points.ensures.lawful;
      listed = c.points.ensures.listed;
      names = c.lines.result.codes.now;
      text = c.lines.result.text.now;
      read = lines.of.told ∙ ap (λ (ps : List (List ℕ)). known_runs c.lines.result.codes.now ps c.lines.result.text.now) lines.names;
    } in
    agreed a c.args.known.now.answered c.args.known.now.depth c.runs-runs.ensures c.list.ensures.low read c.find_unseen.result c.find_unseen.ensures
