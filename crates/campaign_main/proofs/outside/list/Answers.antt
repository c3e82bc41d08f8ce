use Rattle.campaign_core.specs.Writes.{change}
use Rattle.campaign_main.specs.declared.fault.CommandFault.TheVariants.{Campaign}
use Rattle.campaign_main.proofs.AnswerLemmas.{outside-done, outside-short, short-up}
use Rattle.campaign_main.proofs.outside.list.Goals as goal

pub returns : goal.returns
returns g c =
    let w = change g.W.Sink c.args.output.now c.list_plans.new.sink in
    outside-done _ _ w _ c.in_ok-list_plans.ensures.few c.in_ok-list_plans.ensures.text c.in_ok-list_plans.ensures.sound c.in_ok-notes.ensures

pub returns-in_err-list_plans : goal.returns-in_err-list_plans
returns-in_err-list_plans g c =
    let w = change g.W.Sink c.args.output.now c.list_plans.new.sink in
    short-up _ w _ (Campaign c.in_err-list_plans.field-0.0) c.from_residual-in_err-list_plans.ensures.1 (outside-short _ _ w _ c.in_err-list_plans.ensures.fault)
