-- What a report says of a list of plans whose runs differ: each number has its behaviour, and a plan that is the only one with a behaviour is that of
-- the only number with it.
use Rattle.std.proofs.Common.{◌≡◌, ◌≢◌, ℕ, Some, List, ◌∷◌, ◌++◌, map, length, ap, sym, ◌∙◌, subst, arith, length-append}
use Rattle.std.specs.Prelude.{slice_get}
use Rattle.std.specs.List.{AllByRecursion}
use Rattle.std.proofs.lemmas.List.{length-map}
use Rattle.action_eval.specs.declared.rig.Rig.{Rig}
use Rattle.target_trait.specs.declared.judgement.Verdict.{Verdict}
use Rattle.grown_plans.specs.Runs.{Met}
use Rattle.grown_plans.specs.GrownPlans.{Subject, run_of_plan}
use Rattle.grown_plans.specs.Promises.{EachTwo, IsOfKinds, IsOfOne, IsLawful, FaultCase, run_in, verdict_in, IsTried, verdict_of_plan}
use Rattle.grown_plans.proofs.Members.{all_contains, all_map, all_weaker, two_map}
use Rattle.grown_plans.proofs.PlanRuns.{plan_judged, plan_path}
use Rattle.grown_plans.proofs.RiggedScenarios.{CanAct}
use Rattle.campaign_core.specs.promises.Behaviours.{IsBehaviourOfKinds, verdict_at_end}
use Rattle.campaign_core.specs.promises.Told.{HasBehaviour, HasVerdict, Told, count_of_levels, count_of_all, IsToldOnce}
use Rattle.campaign_core.proofs.PromisesLemmas.AsPaths.{behaviour_of}
use Rattle.campaign_core.proofs.PromisesLemmas.Numbers.{contains_at, get_map, get_split, get_front, get_unmapped, one_number}
use Rattle.campaign_core.proofs.PromisesLemmas.Cases.{case_for, case_runs, case_ends}

-- the facts of plans of which the first are those of the levels, and the others have a sticky fault
pub record Lists (t : Subject) (first behind : List (List Rig)) (told : Told) : Type 0 where
  pub first_are : count_of_levels told ≡ length first
  pub behind_are : told.growth.onward ≡ length behind
  pub behaves : told.behaviours ≡ map (run_of_plan t) (first ++ behind)
  pub comes : (n : ℕ) (plan : List Rig) → slice_get (first ++ behind) n ≡ Some plan → slice_get told.report.verdicts n ≡ Some (verdict_of_plan t told.report.seed n plan)
  pub apart : EachTwo (λ a b. run_of_plan t a ≢ run_of_plan t b) (first ++ behind)

module _ (t : Subject) (l : IsLawful t) (first behind : List (List Rig)) (told : Told) (g : Lists t first behind told) where
  pub all_are : count_of_all told ≡ length (first ++ behind)
  all_are =
      let a = g.first_are in
      let b = g.behind_are in
      let c = length-append first behind in
      omega (arith, a, b, c)

  pub no_two : EachTwo (λ a b. a ≢ b) told.behaviours
  no_two = subst (λ (l : List (List Met)). EachTwo (λ a b. a ≢ b) l) (sym g.behaves) (two_map (λ a b. a ≢ b) (run_of_plan t) (first ++ behind) g.apart)

  pub all_counted : length told.behaviours ≡ count_of_all told
  all_counted = ap (λ (l : List (List Met)). length l) g.behaves ∙ length-map (first ++ behind) (run_of_plan t) ∙ sym all_are

  pub has_behaviour : (n : ℕ) (plan : List Rig) → slice_get (first ++ behind) n ≡ Some plan → slice_get told.behaviours n ≡ Some (run_of_plan t plan)
  has_behaviour n plan e = ap (λ (l : List (List Met)). slice_get l n) g.behaves ∙ get_map (run_of_plan t) (first ++ behind) n plan e

  -- what is told is so
  pub each_behaves : AllByRecursion (λ plan. IsOfKinds t.kinds (run_of_plan t plan)) (first ++ behind) → AllByRecursion (IsBehaviourOfKinds t) told.behaviours
  each_behaves kinds =
      subst (AllByRecursion (IsBehaviourOfKinds t)) (sym g.behaves)
      (all_map (IsBehaviourOfKinds t) (run_of_plan t) (first ++ behind)
      (all_weaker (λ plan. IsOfKinds t.kinds (run_of_plan t plan)) (λ plan. IsBehaviourOfKinds t (run_of_plan t plan))
      (λ plan of. record { behaves = behaviour_of t (run_of_plan t plan) (plan_path t plan); of_kinds = of }) (first ++ behind) kinds))

  pub each_judged : AllByRecursion CanAct (first ++ behind) → (number : ℕ) (hits : List Met) → HasBehaviour told number hits → HasVerdict told number (verdict_at_end t hits)
  each_judged can number hits b =
      let of = get_unmapped (run_of_plan t) (first ++ behind) number hits (ap (λ (l : List (List Met)). slice_get l number) (sym g.behaves) ∙ b) in
      g.comes number of.0 of.1
      ∙ ap (λ (v : Verdict). Some v) (plan_judged t l of.0 (all_contains CanAct (first ++ behind) of.0 can (contains_at (first ++ behind) number of.0 of.1)) told.report.seed number)
      ∙ ap (λ (ms : List Met). Some (verdict_at_end t ms)) of.2

  -- exactly one plan of those in front, so exactly one number
  pub told_once : (xs ys : List (List Rig)) (bound : ℕ) (c : FaultCase t) → first ++ behind ≡ xs ++ ys → bound ≡ length xs → IsOfOne (IsTried t c) xs → IsToldOnce told bound (run_in t c) (verdict_in t c)
  told_once xs ys bound c e b o =
      let n : ℕ = length o.before in
      let in_xs : slice_get xs n ≡ Some o.one = ap (λ (l : List (List Rig)). slice_get l n) o.split ∙ get_split o.before o.one o.after in
      let here : slice_get (first ++ behind) n ≡ Some o.one = ap (λ (l : List (List Rig)). slice_get l n) e ∙ get_front xs ys n o.one in_xs in
      let size : length xs ≡ length (o.before ++ o.one ∷ o.after) = ap (λ (l : List (List Rig)). length l) o.split in
      let sum_is = length-append o.before (o.one ∷ o.after) in
      let told_so : slice_get told.behaviours n ≡ Some (run_in t c) = has_behaviour n o.one here ∙ ap (λ (ms : List Met). Some ms) o.is.0 in
      record {
        number = n;
        below = omega (arith, size, sum_is, b);
        behaves = told_so;
        comes = g.comes n o.one here ∙ ap (λ (v : Verdict). Some v) (o.is.1 told.report.seed n);
        no_other = λ other low same. one_number told.behaviours other n (run_in t c) no_two same told_so;
      }

  -- for a behaviour, by its case
  pub by_case : (bound : ℕ) (hits : List Met) (b : IsBehaviourOfKinds t hits) → IsToldOnce told bound (run_in t (case_for t l hits b)) (verdict_in t (case_for t l hits b))
      → IsToldOnce told bound hits (verdict_at_end t hits)
  by_case bound hits b o =
      subst (λ (v : Verdict). IsToldOnce told bound hits v) (case_ends t l hits b)
      (subst (λ (ms : List Met). IsToldOnce told bound ms (verdict_in t (case_for t l hits b))) (case_runs t l hits b) o)
