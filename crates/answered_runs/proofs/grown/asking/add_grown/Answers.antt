use Rattle.std.proofs.Common.{ℕ, zero, suc, ◌<◌, ◌≤◌, ◌∙◌, List, [], ◌∷◌, ap, arith, length, get_or}
use Rattle.std.specs.List.{AllByRecursion}
use Rattle.action_eval.specs.declared.rig.Rig.{Rig}
use Rattle.grown_plans.specs.declared.grown_list.GrownList.{GrownList}
use Rattle.answered_runs.proofs.grown.asking.add_grown.Goals as goal

short_at : (most : ℕ) (plans : List (List Rig)) (i : ℕ) → i < length plans → AllByRecursion (λ plan. length plan ≤ most) plans → length (get_or plans i []) ≤ most
short_at most [] i less all = absurd (omega (arith, less))
short_at most (plan ∷ plans) zero less all = all.0
short_at most (plan ∷ plans) (suc i) less all = short_at most plans i (omega (arith, less)) all.1

pub plan_scenario-requires-clause-few : goal.plan_scenario-requires-clause-few
plan_scenario-requires-clause-few c =
    let list : GrownList = c.args.known.now.list in
    let low = c.list.ensures.low in
    let short = short_at c.args.known.now.depth list.plans c.args.number c.requires c.list.ensures.known.short in
    let plan = ap length (c.as_slice.ensures.value ∙ c.in_ok-faults_of-in-None.ensures) in
    let same = ap (λ (l : GrownList). length (get_or l.plans c.args.number [])) c.list.ensures.same in
    omega (arith, low, short, plan, same)
