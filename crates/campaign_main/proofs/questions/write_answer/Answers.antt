use Rattle.std.proofs.Common.{◌≡◌, ◌∙◌, ap, subst, sym}
use Rattle.std.specs.String.{string_bytes}
use Rattle.campaign_core.specs.Writes.{WritesPart, WritesWhole, change}
use Rattle.campaign_main.specs.declared.exit.Exit.{Exit}
use Rattle.campaign_main.specs.Ends.{EndsAs, IsNoted, TellsAs}
use Rattle.campaign_main.specs.Exit.{concluded, exit_of}
use Rattle.campaign_main.specs.QuestionNotes.{is_question_doubted}
use Rattle.campaign_main.specs.Questions.{written_for}
use Rattle.campaign_main.proofs.QuestionLemmas.{whole-ends, whole-tells}
use Rattle.campaign_main.proofs.questions.write_answer.Goals as goal

pub returns-in-Ok-clause-end : goal.returns-in-Ok-clause-end
returns-in-Ok-clause-end g c =
    let a = c.args.answer.now in
    let question = c.args.question.now in
    let w = change g.W.Sink c.args.output.now c.write_report.new.sink in
    let ended : c.exit_of.result ≡ exit_of (concluded a.found (is_question_doubted question (string_bytes a.notes))) =
    c.exit_of.ensures ∙ ap exit_of (c.concluded.ensures ∙ ap (concluded a.found) (c.is_question_doubted.ensures ∙ ap (is_question_doubted question) c.as_str-notes.ensures.value)) in
    subst (λ (e : Exit). EndsAs e (written_for question a.text.items a.found (string_bytes a.notes)) w) (sym ended)
    (whole-ends a.text.items (string_bytes a.notes) _ w (subst (λ t. WritesWhole t w) c.as_slice.ensures.value (c.in-Ok.ensures.ok, c.in-Ok.ensures.ok_sound)))

pub returns-in-Ok-clause-told : goal.returns-in-Ok-clause-told
returns-in-Ok-clause-told g c =
    let a = c.args.answer.now in
    let question = c.args.question.now in
    let w = change g.E.Sink c.args.faults.now c.note.new.faults in
    let ended : c.exit_of.result ≡ exit_of (concluded a.found (is_question_doubted question (string_bytes a.notes))) =
    c.exit_of.ensures ∙ ap exit_of (c.concluded.ensures ∙ ap (concluded a.found) (c.is_question_doubted.ensures ∙ ap (is_question_doubted question) c.as_str-notes.ensures.value)) in
    subst (λ (e : Exit). TellsAs e (written_for question a.text.items a.found (string_bytes a.notes)) w) (sym ended)
    (whole-tells a.text.items (string_bytes a.notes) _ w (subst (λ t. IsNoted t w) c.as_str-notes.ensures.value c.note.ensures))

pub returns-in-Err-clause-end : goal.returns-in-Err-clause-end
returns-in-Err-clause-end g c =
    let a = c.args.answer.now in
    let w = change g.W.Sink c.args.output.now c.write_report.new.sink in
    subst (λ (e : Exit). EndsAs e (written_for c.args.question.now a.text.items a.found (string_bytes a.notes)) w) (sym c.cut_off.ensures.end)
    (subst (λ t. WritesPart t c.in-Err.fault.written w) c.as_slice.ensures.value (c.in-Err.ensures.fault, c.in-Err.ensures.fault_bound, c.in-Err.ensures.fault_cause))

pub returns-in-Err-clause-told : goal.returns-in-Err-clause-told
returns-in-Err-clause-told g c =
    let a = c.args.answer.now in
    let w = change g.E.Sink c.args.faults.now c.cut_off.new.faults in
    subst (λ (e : Exit). TellsAs e (written_for c.args.question.now a.text.items a.found (string_bytes a.notes)) w) (sym c.cut_off.ensures.end) c.cut_off.ensures.told
