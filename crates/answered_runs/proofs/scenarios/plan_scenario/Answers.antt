use Rattle.std.proofs.Common.{◌≤◌, List, length, subst, sym, ◌∙◌}
use Rattle.action_eval.specs.declared.rig.Rig.{Rig}
use Rattle.grown_plans.proofs.Rigged.{rigs_short}
use Rattle.answered_runs.proofs.scenarios.plan_scenario.Goals as goal

pub rigged_scenario-requires-clause-few : goal.rigged_scenario-requires-clause-few
rigged_scenario-requires-clause-few c =
    subst (λ (rs : List Rig). length rs ≤ 64) (sym (c.as_slice.ensures.value ∙ c.in_ok-rigs_of.ensures)) (rigs_short c.args.faults.now c.requires.few)
