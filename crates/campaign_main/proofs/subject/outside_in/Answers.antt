use Rattle.std.proofs.Common.{◌∙◌, IfErr, Result, subst, sym}
use Rattle.std.proofs.lemmas.Result.{IfOk-weaker}
use Rattle.campaign_core.specs.Writes.{change}
use Rattle.command_words.specs.declared.words.Question.TheVariants.{Asks}
use Rattle.campaign_main.specs.Commands.{Refusal}
use Rattle.campaign_main.specs.FaultLines.{settings_line}
use Rattle.campaign_main.specs.Questions.{Subject}
use Rattle.campaign_main.specs.inside.Looks.{IsRefusedSubject}
use Rattle.campaign_main.proofs.QuestionLemmas.{chosen-is, settings-fault-tells-question, settings-fault-why}
use Rattle.campaign_main.proofs.subject.outside_in.Goals as goal

pub returns-in-Ok-clause-ok : goal.returns-in-Ok-clause-ok
returns-in-Ok-clause-ok g c =
    IfOk-weaker c.chosen_outside.result _ _ (λ s h. chosen-is c.args.text.now c.in-Ok.settings c.in-Ok.ensures.ok ∙ h) c.chosen_outside.ensures.ok

pub returns-in-Ok-clause-cause : goal.returns-in-Ok-clause-cause
returns-in-Ok-clause-cause g c =
    let w = change g.E.Sink c.args.faults.now c.chosen_outside.new.faults in
    let P : Result Subject Refusal → Type 0 = λ r. IfErr c.chosen_outside.result (λ end. IsRefusedSubject r end w) in
    subst P (sym (chosen-is c.args.text.now c.in-Ok.settings c.in-Ok.ensures.ok)) c.chosen_outside.ensures.cause

pub returns-in-Err-clause-end : goal.returns-in-Err-clause-end
returns-in-Err-clause-end g c = (settings_line c.in-Err.fault, c.end_bad_settings.ensures.end)

pub returns-in-Err-clause-cause : goal.returns-in-Err-clause-cause
returns-in-Err-clause-cause g c =
    λ question known refused.
    settings-fault-why c.args.text.now question c.end_bad_settings.result _ c.in-Err.fault c.in-Err.ensures.refused c.end_bad_settings.ensures.memory c.end_bad_settings.ensures.end known refused

pub returns-in-Err-clause-told : goal.returns-in-Err-clause-told
returns-in-Err-clause-told g c =
    settings-fault-tells-question c.args.text.now Asks c.end_bad_settings.result _ c.in-Err.fault c.in-Err.ensures.refused c.end_bad_settings.ensures.memory c.end_bad_settings.ensures.end
