use Rattle.std.proofs.Common.{rules, ◌&&◌, ◌++◌, ◌∙◌, List, ap, sym, get_or, [], map}
use Rattle.action_eval.specs.declared.rig.Rig.{Rig}
use Rattle.grown_plans.specs.AskedPoints.{is_last_return, onward_if}
use Rattle.grown_plans.specs.GrownPlans.{kinds_at}
use Rattle.grown_plans.specs.Kept.{plan_of}
use Rattle.grown_runs.specs.known.Known.{hits_of}
use Rattle.grown_runs.proofs.KnownLemmas.Kept.{count_step, onward_step}
use Rattle.grown_runs.proofs.KnownLemmas.Steps.{told_onward}
use Rattle.grown_runs.proofs.known.growing.ends_from.Goals as goal

pub loop-number-preserved : goal.loop-number-preserved
loop-number-preserved g c =
    let looked = c.args.looked.now in
    let known = g.T.RunTable.known looked.table.now in
    let plans : List (List Rig) = looked.plans.now in
    let of = map (plan_of plans) in
    let old = c.loop-number.onward.items in
    let plan : List Rig = get_or plans c.loop-number.number [] in
    record {
      plans =
          onward_step known plans c.args.first c.loop-number.number (of old) (of c.push_onward.new.onward.items) c.loop-number.auto.number c.loop-number.invariant.plans
          (c.in_ok-push_onward.ensures.plans ∙ ap (λ b. of old ++ onward_if (is_last_return plan && b) plan) c.in_ok-is_again.ensures.again
          ∙ ap (λ (ps : List (List Rig)). of old ++ ps) (sym (told_onward plan (hits_of known plan))));
      parents = c.in_ok-push_onward.ensures.parents c.loop-number.invariant.parents;
      beyond =
          count_step (kinds_at looked.kinds.now) known plans c.args.first c.loop-number.number c.loop-number.beyond c.in-Some.more c.clear.new.self.items c.add_children_of.new.children.items c.loop-number.auto.number
          c.loop-number.invariant.beyond c.clear.ensures.items c.in_ok-is_again.ensures.children (search rules);
    }
