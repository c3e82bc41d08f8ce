use Rattle.std.proofs.Common.{◌∙◌, rules, ap}
use Rattle.target_trait.specs.Outcomes.{Told}
use Rattle.campaign_main.specs.Commands.{keeps_asked}
use Rattle.campaign_main.proofs.KeepLemmas.{keeps-told}
use Rattle.campaign_main.proofs.cut_end.keeps_text.Goals as goal

pub returns : goal.returns
returns g c =
    let T = g.T.Target in
    let met_in : Told → _ = λ o. keeps_asked T.names o.asked in
    keeps-told c.args.calls.now c.min-met.result c.keeps_asked-asked.result _ _ _ (search rules) c.in_ok-write_keeps.ensures (search rules)
    (c.keeps_asked-asked.ensures ∙ ap (keeps_asked T.names) c.as_slice.ensures.value ∙ ap met_in c.outcome.view_is)
