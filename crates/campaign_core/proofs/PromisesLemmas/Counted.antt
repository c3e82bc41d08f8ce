-- How many behaviours have so many acting faults.
use Rattle.std.proofs.Common.{◌≡◌, ◌≢◌, ℕ, zero, suc, ◌+◌, false, Some, List, [], map, length, ap, sym, ◌∙◌, subst, arith}
use Rattle.std.specs.Prelude.{Contains, slice_get}
use Rattle.std.specs.List.{AllByRecursion, range_with_len}
use Rattle.std.proofs.lemmas.List.{length-map}
use Rattle.action_eval.specs.declared.rig.Rig.{Rig}
use Rattle.plan_gen.specs.RiggedAnswers.{is_onward}
use Rattle.grown_plans.specs.Runs.{Met, acting}
use Rattle.grown_plans.specs.GrownPlans.{Subject, rigs_of, run_of_plan, in_order, level, levels, levels_to}
use Rattle.grown_plans.specs.Promises.{EachTwo, IsLawful, IsOfKinds, run_in}
use Rattle.grown_plans.proofs.Members.{all_weaker, all_map, two_map, two_right, contains_map}
use Rattle.grown_plans.proofs.Paths.{some_is}
use Rattle.grown_plans.proofs.RiggedScenarios.{all_in_order, merged_once, rigs_order}
use Rattle.grown_plans.proofs.PlanRuns.{plan_path, rigs_answered}
use Rattle.grown_plans.proofs.Faults.{faults as faults_of, faults_length}
use Rattle.grown_plans.proofs.Levels.{IsGrown, level_grown}
use Rattle.grown_plans.proofs.Apart.{RunApart, levels_run_apart}
use Rattle.grown_plans.proofs.Cases.{case_in_level, case_plan, kinds_once, rigs_kinds}
use Rattle.campaign_core.specs.promises.Behaviours.{HasActing, AreSoMany}
use Rattle.campaign_core.specs.promises.Told.{Told}
use Rattle.campaign_core.proofs.PromisesLemmas.AsPaths.{behaviour_of}
use Rattle.campaign_core.proofs.PromisesLemmas.Numbers.{get_unmapped}
use Rattle.campaign_core.proofs.PromisesLemmas.Cases.{case_for, case_runs}
use Rattle.campaign_core.proofs.PromisesLemmas.Grew.{Grew}

-- the kinds of rigged hits are those of the plan
pub rigs_tried : (t : Subject) (n : ℕ) (plan : List Rig) → IsGrown t n plan → AllByRecursion (λ r. Contains (t.kinds r.site.point) r.kind) (rigs_of plan)
rigs_tried t n plan g =
    subst (AllByRecursion (λ (r : Rig). Contains (t.kinds r.site.point) r.kind)) (sym (merged_once (in_order plan) (all_in_order (λ r. is_onward r.kind ≡ false) plan g.once)))
    (all_in_order (λ r. Contains (t.kinds r.site.point) r.kind) plan g.kinds)

of_kinds : (t : Subject) → IsLawful t → (n : ℕ) (plan : List Rig) → IsGrown t n plan → IsOfKinds t.kinds (run_of_plan t plan)
unfolding run_of_plan
of_kinds t l n plan g =
    let tried = rigs_tried t n plan g in
    rigs_kinds t.kinds (rigs_of plan) (kinds_once t l (rigs_of plan) tried) tried (run_of_plan t plan) (rigs_answered t l (rigs_of plan) (rigs_order plan g.can) 0 0)

pub has_acting : (t : Subject) → IsLawful t → (n : ℕ) (plan : List Rig) → IsGrown t n plan → HasActing t n (run_of_plan t plan)
has_acting t l n plan g = (
  record { behaves = behaviour_of t (run_of_plan t plan) (plan_path t plan); of_kinds = of_kinds t l n plan g },
  sym (faults_length (run_of_plan t plan)) ∙ ap (λ (x : List Rig). length x) g.runs ∙ g.count,
)

-- a level stands at the end of the levels up to it
level_apart : (t : Subject) → IsLawful t → (n : ℕ) → EachTwo (λ a b. run_of_plan t a ≢ run_of_plan t b) (level t n)
unfolding levels_to
level_apart t l zero = levels_run_apart t l 0
level_apart t l (suc n) = two_right (RunApart t) (levels t n) (level t (suc n)) (levels_run_apart t l (suc n))

pub so_many : (t : Subject) → IsLawful t → (n : ℕ) → AreSoMany (length (level t n)) (HasActing t n)
so_many t l n = record {
  each = map (run_of_plan t) (level t n);
  many = length-map (level t n) (run_of_plan t);
  are = all_map (HasActing t n) (run_of_plan t) (level t n) (all_weaker (IsGrown t n) (λ plan. HasActing t n (run_of_plan t plan)) (λ plan g. has_acting t l n plan g) (level t n) (level_grown t l n));
  once = two_map (λ hits others. hits ≢ others) (run_of_plan t) (level t n) (level_apart t l n);
  no_other = λ hits h.
      let c = case_for t l hits h.0 in
      let runs : run_in t c ≡ hits = case_runs t l hits h.0 in
      let size : acting (run_in t c) ≡ n = ap (λ (ms : List Met). acting ms) runs ∙ h.1 in
      let plan : List Rig = faults_of [] (run_in t c) in
      subst (Contains (map (run_of_plan t) (level t n))) ((case_plan t l c).0 ∙ runs)
      (contains_map (run_of_plan t) (level t n) plan (subst (λ k. Contains (level t k) plan) size (case_in_level t l c)));
}

pub in_range : (from n k x : ℕ) → slice_get (range_with_len from n) k ≡ Some x → x ≡ from + k
in_range from zero k x e = absurd cc
in_range from (suc n) zero x e = let same : from ≡ x = some_is from x e in omega (arith, same)
in_range from (suc n) (suc k) x e = let same = in_range (from + 1) n k x e in omega (arith, same)

module _ (t : Subject) (l : IsLawful t) (d : ℕ) (told : Told) (g : Grew t d told) where
  pub level_sizes : (n size : ℕ) → slice_get told.growth.levels n ≡ Some size → AreSoMany size (HasActing t n)
  level_sizes n size at =
      let from = get_unmapped (λ k. length (level t k)) (range_with_len 0 (d + 1)) n size (ap (λ (ns : List ℕ). slice_get ns n) (sym g.sizes) ∙ at) in
      let same : from.0 ≡ 0 + n = in_range 0 (d + 1) n from.0 from.1 in
      subst (λ k. AreSoMany k (HasActing t n)) (ap (λ k. length (level t k)) (let goal : n ≡ from.0 = omega (arith, same) in goal) ∙ from.2) (so_many t l n)

  pub size_beyond : AreSoMany told.growth.beyond (HasActing t (suc d))
  size_beyond = subst (λ k. AreSoMany k (HasActing t (suc d))) (sym g.beyond_is) (so_many t l (suc d))
