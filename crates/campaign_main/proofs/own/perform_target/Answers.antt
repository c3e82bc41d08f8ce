use Rattle.std.proofs.Common.{List, ℕ, Err, ap, inl, refl, subst}
use Rattle.campaign_main.specs.declared.exit.Exit.{Exit}
use Rattle.campaign_main.specs.Commands.{Answer}
use Rattle.campaign_main.specs.Ends.{EndsAs, IsRefused, TellsAs, TellsNotes}
use Rattle.campaign_main.specs.OwnTarget.{OwnKeepsPromises, own_answer, own_text_answer, target_answer}
use Rattle.campaign_core.specs.Headline.{campaign_on}
use Rattle.campaign_main.proofs.EndLemmas.{read-fault-cause, read-answer, read-whole, refuses-by, refuses-leaves, refuses-whole, tells-read-fault, whole-map}
use Rattle.campaign_main.proofs.NoteLemmas.{may-own, some-tells, told-notes}
use Rattle.campaign_core.specs.Writes.{change}
use Rattle.campaign_main.proofs.own.perform_target.Goals as goal

pub returns-in-Ok-clause-end : goal.returns-in-Ok-clause-end
unfolding own_answer
returns-in-Ok-clause-end g c =
    let W = g.W.Sink in
    let new = c.target_text.new.output in
    let meaning = own_text_answer c.args.order.now (campaign_on g.T.Target c.args.target.now c.args.workload.now) in
    let P : Answer → Type 0 = λ a. EndsAs c.target_text.result a (change W c.args.output.now new) in
    read-answer meaning _ _ _ P c.as_str-text.ensures.value c.in-Ok.ensures.ok c.in-Ok.ensures.limit c.as_str-text.utf8 c.target_text.ensures.end

pub returns-in-Ok-clause-cause : goal.returns-in-Ok-clause-cause
unfolding own_answer
returns-in-Ok-clause-cause g c =
    λ refused.
    let E = g.E.Sink in
    let w = change E c.args.faults.now c.target_text.new.faults in
    let meaning = own_text_answer c.args.order.now (campaign_on g.T.Target c.args.target.now c.args.workload.now) in
    let P : Answer → Type 0 = λ a. IsRefused a w in
    let Q : Exit → Type 0 = λ e. TellsAs e (meaning c.as_str-text.result.now) w in
    read-answer meaning _ _ _ P c.as_str-text.ensures.value c.in-Ok.ensures.ok c.in-Ok.ensures.limit c.as_str-text.utf8 (inl (subst Q refused c.target_text.ensures.told))

pub returns-in-Err-clause-cause : goal.returns-in-Err-clause-cause
unfolding own_answer
returns-in-Err-clause-cause g c =
    λ refused.
    let meaning = own_text_answer c.args.order.now (campaign_on g.T.Target c.args.target.now c.args.workload.now) in
    read-fault-cause meaning _ _ _ c.in-Err.fault (λ e. c.in-Err.ensures.too_long (ap (λ f. Err f) e)) (λ e. c.in-Err.ensures.not_text (ap (λ f. Err f) e))
    c.end_unreadable_settings.ensures.end c.end_unreadable_settings.ensures.memory refused

pub returns-in-Err-clause-told : goal.returns-in-Err-clause-told
returns-in-Err-clause-told g c = tells-read-fault c.args.order.now c.in-Err.fault c.end_unreadable_settings.result _ c.end_unreadable_settings.ensures.end c.end_unreadable_settings.ensures.memory

pub returns-in-Ok-clause-promises : goal.returns-in-Ok-clause-promises
returns-in-Ok-clause-promises g c =
    let P : List ℕ → Type 0 = OwnKeepsPromises c.args.order.now (campaign_on g.T.Target c.args.target.now c.args.workload.now) in
    whole-map c.target_text.result _ _ (λ h. read-whole _ _ _ P c.as_str-text.ensures.value c.in-Ok.ensures.ok h) c.target_text.ensures.promises

pub returns-in-Ok-clause-told : goal.returns-in-Ok-clause-told
returns-in-Ok-clause-told g c = some-tells _ c.args.order.now _ c.target_text.result (may-own c.args.order.now (campaign_on g.T.Target c.args.target.now c.args.workload.now) c.as_str-text.result.now) c.target_text.ensures.told

pub returns-in-Ok-clause-noted : goal.returns-in-Ok-clause-noted
unfolding own_answer
returns-in-Ok-clause-noted g c =
    let E = g.E.Sink in
    let w = change E c.args.faults.now c.target_text.new.faults in
    let meaning = (own_text_answer c.args.order.now (campaign_on g.T.Target c.args.target.now c.args.workload.now)) in
    let P : Answer → Type 0 = λ a. TellsNotes a w in
    whole-map c.target_text.result _ _
    (λ h. read-answer meaning _ _ _ P c.as_str-text.ensures.value c.in-Ok.ensures.ok c.in-Ok.ensures.limit c.as_str-text.utf8 h)
    (told-notes w (meaning c.as_str-text.result.now) c.target_text.result c.target_text.ensures.told)

pub returns-in-Err-clause-noted : goal.returns-in-Err-clause-noted
returns-in-Err-clause-noted g c = refuses-whole _ c.end_unreadable_settings.result _ _ c.end_unreadable_settings.ensures.end

pub returns-in-Err-clause-end : goal.returns-in-Err-clause-end
returns-in-Err-clause-end g c =
    let w = change g.W.Sink c.args.output.now c.args.output.now in
    refuses-by _ c.end_unreadable_settings.result _ (target_answer g.T.Target c.args.target.now c.args.workload.now c.args.order.now) _ w c.end_unreadable_settings.ensures.end (refl, c.requires.output)

pub returns-in-Err-clause-output : goal.returns-in-Err-clause-output
returns-in-Err-clause-output g c =
    let w = change g.W.Sink c.args.output.now c.args.output.now in
    refuses-leaves _ c.end_unreadable_settings.result _ w c.end_unreadable_settings.ensures.end (refl, c.requires.output)
