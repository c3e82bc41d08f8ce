use Rattle.std.proofs.Common.{◌∙◌, [], None, ap, sym, true, false}
use Rattle.grown_plans.specs.GrownPlans.{usual_at}
use Rattle.grown_plans.specs.Kept.{kept_children}
use Rattle.grown_runs.proofs.KnownLemmas.Steps.{sees_alike}
use Rattle.grown_runs.proofs.known.walking.verdict_alike.Goals as goal

pub returns-then-do_alike : goal.returns-then-do_alike
returns-then-do_alike g c =
    sees_alike (g.T.RunTable.known c.args.table.now) c.args.rigs.now c.args.plan.now c.look_up.new.hits.items c.in_ok-verdict.field-0 c.in-Seen.verdict c.as_slice.result.now true c.in-Seen.is c.in_ok-verdict.ensures.told
    (c.as_slice.ensures.value ∙ c.in_ok-put_children.ensures.children ∙ ap (kept_children (usual_at None) 0 []) c.as_slice-hits.ensures.value)
    (sym c.if-do_alike.ensures)

pub returns-else-do_alike : goal.returns-else-do_alike
returns-else-do_alike g c =
    sees_alike (g.T.RunTable.known c.args.table.now) c.args.rigs.now c.args.plan.now c.look_up.new.hits.items c.in_ok-verdict.field-0 c.in-Seen.verdict c.as_slice.result.now false c.in-Seen.is c.in_ok-verdict.ensures.told
    (c.as_slice.ensures.value ∙ c.in_ok-put_children.ensures.children ∙ ap (kept_children (usual_at None) 0 []) c.as_slice-hits.ensures.value)
    (sym c.if-do_alike.ensures)
