use Rattle.std.proofs.Common.{◌∙◌, Bool, true, false, OnOk, ap, if◌then◌else◌, subst, sym}
use Rattle.campaign_core.specs.Headline.{Campaign, campaign_in}
use Rattle.campaign_core.specs.Writes.{change}
use Rattle.campaign_given.specs.Given.{Given}
use Rattle.campaign_main.specs.Commands.{campaign_with_cut_in, cut_answer, order_answer}
use Rattle.campaign_main.specs.Ends.{ComesTo}
use Rattle.campaign_main.specs.Promises.{KeepsPromises}
use Rattle.campaign_main.proofs.chosen.bundled_command.Goals as goal

pub returns-then-settings-clause-text : goal.returns-then-settings-clause-text
returns-then-settings-clause-text g c =
    let s = c.args.subject.now in
    let calls = g.T.TellsWrites.calls s.target.now s.workload.now in
    let w = change g.W.Sink c.args.output.now c.command_to_cut.new.output in
    let tried : Bool → Campaign = λ b. if b then campaign_with_cut_in g.T.Target g.T.CrashTarget.cut s else campaign_in g.T.Target s in
    subst (λ b. ComesTo (if b then cut_answer calls g.T.Target.names c.args.order.now (tried b) else order_answer c.args.order.now (tried b)) w c.command_to_cut.result)
    (sym (sym (ap (λ (given : Given). given.crash_states) c.settings.view_is) ∙ c.if-settings.true)) c.command_to_cut.ensures.text

pub returns-then-settings-clause-promises : goal.returns-then-settings-clause-promises
returns-then-settings-clause-promises g c =
    let s = c.args.subject.now in
    let tried : Bool → Campaign = λ b. if b then campaign_with_cut_in g.T.Target g.T.CrashTarget.cut s else campaign_in g.T.Target s in
    subst (λ b. OnOk c.command_to_cut.result (KeepsPromises c.args.order.now (tried b)))
    (sym (sym (ap (λ (given : Given). given.crash_states) c.settings.view_is) ∙ c.if-settings.true)) c.command_to_cut.ensures.promises

pub returns-else-settings-clause-text : goal.returns-else-settings-clause-text
returns-else-settings-clause-text g c =
    let s = c.args.subject.now in
    let calls = g.T.TellsWrites.calls s.target.now s.workload.now in
    let w = change g.W.Sink c.args.output.now c.command.new.output in
    let tried : Bool → Campaign = λ b. if b then campaign_with_cut_in g.T.Target g.T.CrashTarget.cut s else campaign_in g.T.Target s in
    subst (λ b. ComesTo (if b then cut_answer calls g.T.Target.names c.args.order.now (tried b) else order_answer c.args.order.now (tried b)) w c.command.result)
    (sym (sym (ap (λ (given : Given). given.crash_states) c.settings.view_is) ∙ c.if-settings.false)) c.command.ensures.text
