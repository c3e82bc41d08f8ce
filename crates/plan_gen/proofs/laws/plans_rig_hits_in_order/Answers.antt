use Rattle.plan_gen.proofs.PlanOrder.{list_of_hits}
use Rattle.plan_gen.proofs.laws.plans_rig_hits_in_order.Goals as goal

pub returns : goal.returns
returns c = list_of_hits
