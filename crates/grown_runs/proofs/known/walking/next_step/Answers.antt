use Rattle.std.proofs.Common.{◌∙◌, None, ap}
use Rattle.grown_plans.specs.GrownPlans.{usual_at}
use Rattle.grown_plans.specs.Kept.{kept_children}
use Rattle.grown_runs.proofs.KnownLemmas.Steps.{sees_acts, sees_end}
use Rattle.grown_runs.proofs.known.walking.next_step.Goals as goal

pub returns-in-Some : goal.returns-in-Some
returns-in-Some g c =
    let plan = c.args.plan.now in
    sees_acts (g.T.RunTable.known c.args.table.now) c.args.rigs.now plan c.look_up.new.hits.items c.in_ok-look_up.field-0 c.in-Seen.verdict c.as_slice.result.now c.in-Some.fault c.in-Seen.is c.in_ok-look_up.ensures.told
    (c.as_slice.ensures.value ∙ c.in_ok-put_children-in-Seen.ensures.children ∙ ap (kept_children (usual_at None) 0 plan) c.as_slice-hits.ensures.value)
    c.in-Some.ensures

pub returns-in-None : goal.returns-in-None
returns-in-None g c =
    let plan = c.args.plan.now in
    sees_end (g.T.RunTable.known c.args.table.now) c.args.rigs.now plan c.look_up.new.hits.items c.in_ok-look_up.field-0 c.in-Seen.verdict c.as_slice.result.now c.in-Seen.is c.in_ok-look_up.ensures.told
    (c.as_slice.ensures.value ∙ c.in_ok-put_children-in-Seen.ensures.children ∙ ap (kept_children (usual_at None) 0 plan) c.as_slice-hits.ensures.value)
    c.in-None.ensures
