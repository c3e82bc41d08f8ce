-- Plans of whose runs nothing is told.
use Rattle.std.proofs.Common.{◌≡◌, ◌<◌, ℕ, zero, suc, Bool, true, false, cond, List, [], ◌∷◌, Some, None, Option, length, ap, sym, subst, arith, is_none}
use Rattle.std.specs.Prelude.{Contains, filter, slice_index_or}
use Rattle.scenario_values.specs.Scenario.{Entries}
use Rattle.scenario_values.specs.Tidied.{tidied}
use Rattle.action_eval.specs.declared.rig.Rig.{Rig}
use Rattle.grown_plans.specs.numbered.GrownScenarios.{grown_scenario}
use Rattle.grown_plans.proofs.Members.{contains_head, contains_map, contains_tail}
use Rattle.grown_runs.specs.known.Known.{KnownRuns}
use Rattle.answered_runs.specs.Answered.{Answered, runs_in}
use Rattle.answered_runs.specs.WholeList.{AreTold, IsGap}
use Rattle.answered_runs.specs.grown.Asked.{unrun}

unrun_plan : (runs : KnownRuns) (plans : List (List Rig)) (n : ℕ) → n < length plans → runs (slice_index_or plans n []) ≡ None
    → Contains (filter (λ plan. is_none (runs plan)) plans) (slice_index_or plans n [])
unrun_plan runs [] n within none = absurd (omega (arith, within))
unrun_plan runs (p ∷ ps) zero within none =
    subst (λ (b : Bool). Contains (cond b (p ∷ filter (λ plan. is_none (runs plan)) ps) (filter (λ plan. is_none (runs plan)) ps)) p) (sym (ap is_none none))
    (contains_head p (filter (λ plan. is_none (runs plan)) ps))
unrun_plan runs (p ∷ ps) (suc n) within none = by_first (is_none (runs p)) (unrun_plan runs ps n (omega (arith, within)) none)
  where
    by_first : (b : Bool) → Contains (filter (λ plan. is_none (runs plan)) ps) (slice_index_or ps n [])
        → Contains (cond b (p ∷ filter (λ plan. is_none (runs plan)) ps) (filter (λ plan. is_none (runs plan)) ps)) (slice_index_or ps n [])
    by_first true there = contains_tail p (slice_index_or ps n []) (filter (λ plan. is_none (runs plan)) ps) there
    by_first false there = there

gap_at : (runs : KnownRuns) (plans : List (List Rig)) (o : Option ℕ) (n : ℕ) → o ≡ Some n → AreTold runs plans o → IsGap runs plans n
gap_at runs plans o n is told = subst (AreTold runs plans) is told

pub gap_within : (runs : KnownRuns) (plans : List (List Rig)) (o : Option ℕ) (n : ℕ) → o ≡ Some n → AreTold runs plans o → n < length plans
gap_within runs plans o n is told = (gap_at runs plans o n is told).within

-- the plan at a gap is one that is to be run
pub gap_unrun : (a : Answered) (plans : List (List Rig)) (o : Option ℕ) (n : ℕ) (s : Entries) → o ≡ Some n → AreTold (runs_in a) plans o
    → s ≡ tidied (grown_scenario a.points (slice_index_or plans n [])) → Contains (unrun a plans) s
gap_unrun a plans o n s is told same =
    let gap = gap_at (runs_in a) plans o n is told in
    subst (Contains (unrun a plans)) (sym same)
    (contains_map (λ plan. tidied (grown_scenario a.points plan)) (filter (λ plan. is_none (runs_in a plan)) plans) (slice_index_or plans n [])
    (unrun_plan (runs_in a) plans n gap.within gap.untold))
