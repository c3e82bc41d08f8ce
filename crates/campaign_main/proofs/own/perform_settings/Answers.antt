use Rattle.campaign_core.specs.Writes.{change}
use Rattle.campaign_main.proofs.EndLemmas.{outcome-ends, outcome-tells, outcome-whole}
use Rattle.campaign_main.proofs.own.perform_settings.Goals as goal

pub returns-clause-end : goal.returns-clause-end
returns-clause-end g c =
    let w = change g.W.Sink c.args.output.now c.own_command-outcome.new.output in
    let v = change g.E.Sink c.args.faults.now c.end_outcome.new.faults in
    outcome-ends c.own_command-outcome.result c.end_outcome.result v _ w c.end_outcome.ensures c.own_command-outcome.ensures.text

pub returns-clause-told : goal.returns-clause-told
returns-clause-told g c =
    let w = change g.W.Sink c.args.output.now c.own_command-outcome.new.output in
    let v = change g.E.Sink c.args.faults.now c.end_outcome.new.faults in
    outcome-tells c.own_command-outcome.result c.end_outcome.result v _ w c.end_outcome.ensures c.own_command-outcome.ensures.text

pub returns-clause-promises : goal.returns-clause-promises
returns-clause-promises g c =
    let v = change g.E.Sink c.args.faults.now c.end_outcome.new.faults in
    outcome-whole c.own_command-outcome.result c.end_outcome.result v _ c.end_outcome.ensures c.own_command-outcome.ensures.promises
