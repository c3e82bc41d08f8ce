use Rattle.std.proofs.Common.{◌∙◌, subst}
use Rattle.campaign_core.specs.Writes.{change}
use Rattle.campaign_main.specs.Commands.{campaign_with_cut, cut_answer}
use Rattle.campaign_main.specs.Ends.{ComesTo}
use Rattle.campaign_main.proofs.chosen.command_to_cut.Goals as goal

pub returns-clause-text : goal.returns-clause-text
returns-clause-text g c =
    let T = g.T.Target in
    let s = c.args.subject.now in
    let work = s.workload.now in
    let w = change g.W.Sink c.args.output.now c.command.new.output in
    let calls = g.T.TellsWrites.calls s.target.now work in
    subst (λ t. ComesTo (cut_answer calls T.names c.args.order.now
    (campaign_with_cut (T.asks t work) (g.T.CrashTarget.cut t work) T.names T.code_text (T.label_of t) s.settings.now)) w c.command.result)
    (c.new-target.ensures ∙ c.in_ok-twin.ensures) c.command.ensures.text
