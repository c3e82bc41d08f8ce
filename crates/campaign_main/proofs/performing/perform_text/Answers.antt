use Rattle.std.proofs.Common.{refl, subst, sym}
use Rattle.campaign_main.specs.Commands.{Answer}
use Rattle.campaign_main.specs.Ends.{EndsAs, TellsAs}
use Rattle.campaign_main.proofs.EndLemmas.{answer-chosen, outcome-ends, outcome-tells, settings-fault-tells, refuses-ends, tells-of}
use Rattle.campaign_core.specs.Writes.{change}
use Rattle.campaign_main.proofs.performing.perform_text.Goals as goal

pub returns-in-Err-clause-told : goal.returns-in-Err-clause-told
returns-in-Err-clause-told g c =
    tells-of _ _ _ _ _ c.end_bad_settings.ensures.end
    (λ refused. settings-fault-tells _ _ _ _ refused c.in-Err.fault c.in-Err.ensures.refused c.end_bad_settings.ensures.memory c.end_bad_settings.ensures.end)

pub returns-in-Ok-clause-end : goal.returns-in-Ok-clause-end
returns-in-Ok-clause-end g c =
    let w = change g.W.Sink c.args.output.now c.chosen_command-outcome.new.output in
    let v = change g.E.Sink c.args.faults.now c.end_outcome.new.faults in
    let P : Answer → Type 0 = λ a. EndsAs c.end_outcome.result a w in
    subst P (sym (answer-chosen _ _ c.in-Ok.settings c.in-Ok.ensures.ok))
    (outcome-ends c.chosen_command-outcome.result c.end_outcome.result v _ w c.end_outcome.ensures c.chosen_command-outcome.ensures.text)

pub returns-in-Ok-clause-told : goal.returns-in-Ok-clause-told
returns-in-Ok-clause-told g c =
    let w = change g.W.Sink c.args.output.now c.chosen_command-outcome.new.output in
    let v = change g.E.Sink c.args.faults.now c.end_outcome.new.faults in
    let P : Answer → Type 0 = λ a. TellsAs c.end_outcome.result a v in
    subst P (sym (answer-chosen _ _ c.in-Ok.settings c.in-Ok.ensures.ok))
    (outcome-tells c.chosen_command-outcome.result c.end_outcome.result v _ w c.end_outcome.ensures c.chosen_command-outcome.ensures.text)

pub returns-in-Err-clause-end : goal.returns-in-Err-clause-end
returns-in-Err-clause-end g c =
    let w = change g.W.Sink c.args.output.now c.args.output.now in
    refuses-ends _ c.end_bad_settings.result _ _ w c.end_bad_settings.ensures.end (refl, c.requires.output)
