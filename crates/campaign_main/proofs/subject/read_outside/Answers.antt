use Rattle.std.proofs.Common.{◌≡◌, Err, IfSome, Ok, Result, ap}
use Rattle.std.proofs.lemmas.Result.{IfErr-weaker, IfOk-weaker}
use Rattle.campaign_core.specs.Writes.{change}
use Rattle.campaign_main.specs.Commands.{Refusal}
use Rattle.campaign_main.specs.FaultLines.{read_fault_line}
use Rattle.campaign_main.specs.Questions.{IsNotAnswered, Subject}
use Rattle.campaign_main.proofs.QuestionLemmas.{read-fault-tells-question, read-fault-why, read-subject}
use Rattle.campaign_main.proofs.subject.read_outside.Goals as goal

pub returns-in-Ok-clause-ok : goal.returns-in-Ok-clause-ok
returns-in-Ok-clause-ok g c =
    IfOk-weaker c.outside_in.result _ _
    (λ s h.
    let P : Result Subject Refusal → Type 0 = λ r. r ≡ Ok (s.campaign, s.outside) in
    read-subject _ _ _ P c.as_str.ensures.value c.in-Ok.ensures.ok c.in-Ok.ensures.limit c.as_str.utf8 h)
    c.outside_in.ensures.ok

pub returns-in-Ok-clause-cause : goal.returns-in-Ok-clause-cause
returns-in-Ok-clause-cause g c =
    let w = change g.E.Sink c.args.faults.now c.outside_in.new.faults in
    IfErr-weaker c.outside_in.result _ _
    (λ end h. λ question known refused.
    let P : Result Subject Refusal → Type 0 = λ r. IfSome known (λ answers. IsNotAnswered question r answers w) in
    read-subject _ _ _ P c.as_str.ensures.value c.in-Ok.ensures.ok c.in-Ok.ensures.limit c.as_str.utf8 (h question known refused))
    c.outside_in.ensures.cause

pub returns-in-Err-clause-end : goal.returns-in-Err-clause-end
returns-in-Err-clause-end g c = (read_fault_line c.in-Err.fault, c.end_unreadable_settings.ensures.end)

pub returns-in-Err-clause-cause : goal.returns-in-Err-clause-cause
returns-in-Err-clause-cause g c =
    λ question known refused.
    read-fault-why question _ known c.end_unreadable_settings.result _ refused c.in-Err.fault (λ e. c.in-Err.ensures.too_long (ap (λ f. Err f) e))
    (λ e. c.in-Err.ensures.not_text (ap (λ f. Err f) e)) c.end_unreadable_settings.ensures.end c.end_unreadable_settings.ensures.memory

pub returns-in-Err-clause-told : goal.returns-in-Err-clause-told
returns-in-Err-clause-told g c = read-fault-tells-question c.end_unreadable_settings.result _ c.in-Err.fault c.end_unreadable_settings.ensures.end c.end_unreadable_settings.ensures.memory
