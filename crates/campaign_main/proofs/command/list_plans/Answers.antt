use Rattle.campaign_core.specs.Writes.{change}
use Rattle.campaign_main.specs.declared.fault.CommandFault.TheVariants.{Campaign}
use Rattle.campaign_main.proofs.AnswerLemmas.{plans-done, plans-short, short-up}
use Rattle.campaign_main.proofs.command.list_plans.Goals as goal

pub returns : goal.returns
returns g c =
    let w = change g.W.Sink c.args.output.now c.plan_list.new.sink in
    plans-done _ w _ c.in_ok-plan_list.ensures.few c.in_ok-plan_list.ensures.text c.in_ok-notes.ensures

pub returns-in_err-plan_list : goal.returns-in_err-plan_list
returns-in_err-plan_list g c =
    let w = change g.W.Sink c.args.output.now c.plan_list.new.sink in
    short-up _ w _ (Campaign c.in_err-plan_list.field-0.0) c.from_residual-in_err-plan_list.ensures.1 (plans-short _ w _ c.in_err-plan_list.ensures.fault)
