use Rattle.std.proofs.Common.{◌≡◌, ◌∙◌, List, Bool, Option, Some, None, ap, sym, false}
use Rattle.std.specs.Prelude.{option_map, slice_index_or}
use Rattle.std.proofs.lemmas.Result.{IfOk-weaker}
use Rattle.scenario_values.specs.Scenario.{Entries}
use Rattle.scenario_values.specs.Tidied.{tidied}
use Rattle.answer_text.specs.Runs.{told_in}
use Rattle.answer_text.specs.declared.runs.ToldRun.{ToldRun}
use Rattle.answered_runs.specs.Answered.{Answered}
use Rattle.answered_runs.proofs.LineReading.{tidy_on}
use Rattle.answered_runs.proofs.PlayedRuns.{line_added, other_line, own_line}
use Rattle.answered_runs.proofs.told_lines.add_line.Goals as goal

some_same : (x y : ToldRun) → (let o : Option ToldRun = Some x in o) ≡ Some y → x ≡ y
some_same x y e = cc

pub returns-then-is_own : goal.returns-then-is_own
returns-then-is_own c =
    own_line c.args.names.now.codes.now c.args.names.now.points c.args.runs.now c.args.played.now c.args.line.now.text.now c.args.line.now.number c.requires.state c.requires.marked
    (ap (λ (l : List Bool). slice_index_or l c.args.line.now.number false) (sym c.as_slice.ensures.value) ∙ sym c.is_own.ensures ∙ c.if-is_own.true)

pub returns-in_default-2 : goal.returns-in_default-2
returns-in_default-2 c =
    let a : Answered = c.args.runs.now in
    let u : Entries = c.in-Some.scenario in
    let tidy : tidied u ≡ u = tidy_on c.args.names.now.codes.now c.args.names.now.points c.args.line.now.text.now c.in_ok-scenario.field-0 u c.in-Some.is c.in_ok-scenario.ensures in
    other_line c.args.names.now.codes.now c.args.names.now.points a c.args.played.now c.args.line.now.text.now c.args.line.now.number c.requires.state c.in_ok-scenario.field-0 u c.in-Some.is c.in_ok-scenario.ensures
    (λ r e same.
    let w : None ≡ Some r = ap (option_map (λ r. r.now)) (sym c.in_default-2.is) ∙ c.in_ok-run.ensures ∙ ap (told_in a.book) tidy ∙ e in
    absurd cc)

pub returns-then-run-line : goal.returns-then-run-line
returns-then-run-line c =
    let a : Answered = c.args.runs.now in
    let u : Entries = c.in-Some.scenario in
    let tidy : tidied u ≡ u = tidy_on c.args.names.now.codes.now c.args.names.now.points c.args.line.now.text.now c.in_ok-scenario.field-0 u c.in-Some.is c.in_ok-scenario.ensures in
    other_line c.args.names.now.codes.now c.args.names.now.points a c.args.played.now c.args.line.now.text.now c.args.line.now.number c.requires.state c.in_ok-scenario.field-0 u c.in-Some.is c.in_ok-scenario.ensures
    (λ r e same.
    let found : Some c.in-Some-2.run'.now ≡ Some r = ap (option_map (λ r. r.now)) (sym c.in-Some-2.is) ∙ c.in_ok-run.ensures ∙ ap (told_in a.book) tidy ∙ e in
    let own : c.in-Some-2.run'.now ≡ r = some_same c.in-Some-2.run'.now r found in
    c.if-run-line.true (ap (λ (x : ToldRun). x.line) own ∙ same))

pub add_run-requires-clause-recorded : goal.add_run-requires-clause-recorded
add_run-requires-clause-recorded c =
    let a : Answered = c.args.runs.now in
    let u : Entries = c.in-Some.scenario in
    let tidy : tidied u ≡ u = tidy_on c.args.names.now.codes.now c.args.names.now.points c.args.line.now.text.now c.in_ok-scenario.field-0 u c.in-Some.is c.in_ok-scenario.ensures in
    sym (ap (told_in a.book) tidy) ∙ sym c.in_ok-run.ensures ∙ ap (option_map (λ r. r.now)) c.in-Some-2.is

pub add_run-requires-clause-tidy : goal.add_run-requires-clause-tidy
add_run-requires-clause-tidy c =
    tidy_on c.args.names.now.codes.now c.args.names.now.points c.args.line.now.text.now c.in_ok-scenario.field-0 c.in-Some.scenario c.in-Some.is c.in_ok-scenario.ensures

pub returns : goal.returns
returns c =
    let a : Answered = c.args.runs.now in
    let u : Entries = c.in-Some.scenario in
    let tidy : tidied u ≡ u = tidy_on c.args.names.now.codes.now c.args.names.now.points c.args.line.now.text.now c.in_ok-scenario.field-0 u c.in-Some.is c.in_ok-scenario.ensures in
    let recorded : told_in a.book u ≡ Some c.in-Some-2.run'.now = sym (ap (told_in a.book) tidy) ∙ sym c.in_ok-run.ensures ∙ ap (option_map (λ r. r.now)) c.in-Some-2.is in
    IfOk-weaker c.add_run.result _ _
    (λ found adds.
    line_added c.args.names.now.codes.now c.args.names.now.points a c.args.played.now c.args.line.now.text.now c.args.line.now.number c.requires.state c.add_run.new.played c.in_ok-scenario.field-0 u c.in-Some.is c.in_ok-scenario.ensures
    c.in-Some-2.run'.now recorded found adds)
    c.add_run.ensures
