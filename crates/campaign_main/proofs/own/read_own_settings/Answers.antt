use Rattle.std.proofs.Common.{◌≡◌, Result, Ok, Err, IfOk, IfErr, ap, inl}
use Rattle.campaign_main.specs.declared.exit.Exit.TheVariants as exit
use Rattle.campaign_main.specs.Commands.{Answer}
use Rattle.campaign_main.specs.Ends.{IsRefused}
use Rattle.campaign_main.specs.OwnTarget.{worded_answer, worded_text_answer}
use Rattle.campaign_main.proofs.EndLemmas.{read-fault-cause, read-answer}
use Rattle.campaign_core.specs.Writes.{change}
use Rattle.campaign_main.proofs.own.read_own_settings.Goals as goal

ok-up : {X Y : Type 0} (r : Result X Y) (P Q : X → Type 0) → ((x : X) → P x → Q x) → IfOk r P → IfOk r Q
ok-up (Ok x) P Q f h = f x h
ok-up (Err y) P Q f h = tt

err-up : {X Y : Type 0} (r : Result X Y) (P Q : Y → Type 0) → ((y : Y) → P y → Q y) → IfErr r P → IfErr r Q
err-up (Ok x) P Q f h = tt
err-up (Err y) P Q f h = f y h

pub returns-in-Ok-clause-ok : goal.returns-in-Ok-clause-ok
unfolding worded_answer
returns-in-Ok-clause-ok g c =
    λ answer.
    ok-up c.read_worded_text.result _ _
    (λ settings h. read-answer (worded_text_answer answer) _ _ _ (λ a. a ≡ answer settings) c.as_str-text.ensures.value c.in-Ok.ensures.ok c.in-Ok.ensures.limit c.as_str-text.utf8 h)
    (c.read_worded_text.ensures.ok answer)

pub returns-in-Ok-clause-cause : goal.returns-in-Ok-clause-cause
unfolding worded_answer
returns-in-Ok-clause-cause g c =
    λ answer.
    let E = g.E.Sink in
    let w = change E c.args.faults.now c.read_worded_text.new.faults in
    let P : Answer → Type 0 = λ a. IsRefused a w in
    err-up c.read_worded_text.result _ _
    (λ end h refused. read-answer (worded_text_answer answer) _ _ _ P c.as_str-text.ensures.value c.in-Ok.ensures.ok c.in-Ok.ensures.limit c.as_str-text.utf8 (inl (h refused)))
    (c.read_worded_text.ensures.cause answer)

pub returns-in-Err-clause-told : goal.returns-in-Err-clause-told
returns-in-Err-clause-told g c = (_, c.end_unreadable_settings.ensures.end)

pub returns-in-Err-clause-cause : goal.returns-in-Err-clause-cause
unfolding worded_answer
returns-in-Err-clause-cause g c =
    λ answer refused.
    read-fault-cause (worded_text_answer answer) _ _ _ c.in-Err.fault (λ e. c.in-Err.ensures.too_long (ap (λ f. Err f) e)) (λ e. c.in-Err.ensures.not_text (ap (λ f. Err f) e))
    c.end_unreadable_settings.ensures.end c.end_unreadable_settings.ensures.memory refused
