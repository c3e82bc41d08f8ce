-- What a report says of failures: each has a cause that is listed, and what fails first has fewest faults.
use Rattle.std.proofs.Common.{◌≡◌, ◌≢◌, ℕ, zero, suc, ◌<◌, ◌≤◌, inl, inr, Some, List, [], ◌∷◌, ◌++◌, length, ap, sym, ◌∙◌, subst, arith, length-append, append_assoc}
use Rattle.std.specs.Prelude.{Contains, slice_get}
use Rattle.std.specs.List.{AllByRecursion}
use Rattle.std.proofs.lemmas.Bool.{cases_lt}
use Rattle.std.proofs.lemmas.List.{append-nil}
use Rattle.action_eval.specs.declared.rig.Rig.{Rig}
use Rattle.target_trait.specs.declared.judgement.Verdict.{Verdict}
use Rattle.target_trait.specs.declared.judgement.Verdict.TheVariants.{Fail}
use Rattle.grown_plans.specs.Runs.{Met, acting}
use Rattle.grown_plans.specs.GrownPlans.{Subject, run_of_plan, level, levels, levels_to, onward, grown}
use Rattle.grown_plans.specs.Promises.{IsLawful, verdict_of_plan, FaultCase, run_in}
use Rattle.grown_plans.proofs.Members.{all_contains}
use Rattle.grown_plans.proofs.Paths.{some_is}
use Rattle.grown_plans.proofs.Faults.{faults as faults_of, faults_length}
use Rattle.grown_plans.proofs.Apart.{IsGrownTo, levels_grown}
use Rattle.grown_plans.proofs.Cases.{skips_nothing}
use Rattle.grown_plans.proofs.Causes.{has_causes}
use Rattle.campaign_core.specs.promises.Behaviours.{IsBehaviourOfKinds, verdict_at_end}
use Rattle.campaign_core.specs.promises.Told.{Told, count_of_levels, HasBehaviour, HasVerdict}
use Rattle.campaign_core.specs.promises.Promises.{HasCause}
use Rattle.campaign_core.proofs.PromisesLemmas.Numbers.{get_unmapped, get_split, get_front, get_in_front, contains_at, at_contained}
use Rattle.campaign_core.proofs.PromisesLemmas.Cases.{case_for, case_runs, case_ends}
use Rattle.campaign_core.proofs.PromisesLemmas.Faults.{faults_among}
use Rattle.campaign_core.proofs.PromisesLemmas.Grew.{Grew, levels_told, behaves_at}

-- the plan of a number of the levels
pub record OfLevel (t : Subject) (d number : ℕ) (hits : List Met) : Type 0 where
  pub plan : List Rig
  pub at_level : slice_get (levels t d) number ≡ Some plan
  pub at_grown : slice_get (grown t d) number ≡ Some plan
  pub runs : run_of_plan t plan ≡ hits
  pub is : IsGrownTo t d plan

-- fewer levels stand in front
levels_begin : (t : Subject) (n d : ℕ) → n ≤ d → (rest : List (List Rig)) × (levels t d ≡ levels t n ++ rest)
unfolding levels_to
levels_begin t n zero h = ([], ap (levels t) (let goal : 0 ≡ n = omega (arith, h) in goal) ∙ sym (append-nil (levels t n)))
levels_begin t n (suc d) h = elim (cases_lt d n) [
  | inl more ↦ ([], ap (levels t) (let goal : suc d ≡ n = omega (arith, h, more) in goal) ∙ sym (append-nil (levels t n)))
  | inr less ↦
      let r = levels_begin t n d (omega (arith, less)) in
      (r.0 ++ level t (suc d), ap (λ (x : List (List Rig)). x ++ level t (suc d)) r.1 ∙ append_assoc (levels t n) r.0 (level t (suc d)))
]

-- a plan of more faults stands behind them
not_before : (t : Subject) → IsLawful t → (n number : ℕ) (plan : List Rig) (rest : List (List Rig)) → n < length plan → slice_get (levels t n ++ rest) number ≡ Some plan → length (levels t n) ≤ number
not_before t l n number plan rest many at = elim (cases_lt number (length (levels t n))) [
  | inl low ↦
      let here = contains_at (levels t n) number plan (get_in_front (levels t n) rest number plan low at) in
      let is = all_contains (IsGrownTo t n) (levels t n) plan (levels_grown t l n) here in
      let count = is.2.count in
      let small : is.0 ≤ n = is.1 in
      absurd (omega (arith, count, small, many))
  | inr past ↦ omega (arith, past)
]

module _ (t : Subject) (l : IsLawful t) (d : ℕ) (told : Told) (g : Grew t d told) where
  pub of_level : (number : ℕ) (hits : List Met) → number < count_of_levels told → HasBehaviour told number hits → OfLevel t d number hits
  of_level number hits low b =
      let at = get_unmapped (run_of_plan t) (grown t d) number hits (ap (λ (l : List (List Met)). slice_get l number) (sym g.behaves) ∙ b) in
      let size = levels_told t l d told g in
      let there = get_in_front (levels t d) (onward t d) number at.0 (omega (arith, low, size)) at.1 in
      record {
        plan = at.0;
        at_level = there;
        at_grown = at.1;
        runs = at.2;
        is = all_contains (IsGrownTo t d) (levels t d) at.0 (levels_grown t l d) (contains_at (levels t d) number at.0 there);
      }

  -- its verdict
  pub verdict_of : (number : ℕ) (plan : List Rig) (v : Verdict) → slice_get (grown t d) number ≡ Some plan → HasVerdict told number v → verdict_of_plan t told.report.seed number plan ≡ v
  verdict_of number plan v at c = some_is (verdict_of_plan t told.report.seed number plan) v (sym (g.comes number plan at) ∙ c)

  pub has_cause : (number code : ℕ) (hits : List Met) → number < count_of_levels told → HasBehaviour told number hits → HasVerdict told number (Fail code) → HasCause told code hits
  has_cause number code hits low b c =
      let own = of_level number hits low b in
      let why = has_causes t l d told.report.seed number code own.plan (contains_at (levels t d) number own.plan own.at_level) (verdict_of number own.plan (Fail code) own.at_grown c) in
      let cause : List Rig = why.0 in
      let place = at_contained (levels t d) cause why.1 in
      let n : ℕ = place.0 in
      let here : slice_get (grown t d) n ≡ Some cause = get_front (levels t d) (onward t d) n cause place.2 in
      let listed = g.causes_listed n code cause here (why.3 n) in
      let grew = all_contains (IsGrownTo t d) (levels t d) cause (levels_grown t l d) why.1 in
      record {
        cause = listed.0;
        listed = listed.1;
        code_is = listed.3;
        among = λ found told_so.
            let at : slice_get told.behaviours n ≡ Some found = subst (λ k. slice_get told.behaviours k ≡ Some found) listed.2 told_so in
            let runs : run_of_plan t cause ≡ found = some_is (run_of_plan t cause) found (sym (behaves_at t l d told g n cause here) ∙ at) in
            let part : AllByRecursion (Contains (faults_of [] hits)) (faults_of [] found) =
            subst (λ (rigs : List Rig). AllByRecursion (Contains rigs) (faults_of [] found)) (sym own.is.2.runs ∙ ap (faults_of []) own.runs)
            (subst (λ (rigs : List Rig). AllByRecursion (Contains own.plan) rigs) (sym grew.2.runs ∙ ap (faults_of []) runs) why.2)
            in
            faults_among found hits part;
      }

  -- a number that is the least to fail with a code has fewest faults
  pub fewest : (number code : ℕ) → ((other : ℕ) → other < number → HasVerdict told other (Fail code) → ⊥) → number < count_of_levels told → (found hits : List Met) → HasBehaviour told number found
      → IsBehaviourOfKinds t hits → acting hits < acting found → verdict_at_end t hits ≢ Fail code
  fewest number code least low found hits b h few fails =
      let own = of_level number found low b in
      let c : FaultCase t = case_for t l hits h in
      let n : ℕ = acting hits in
      let same : acting (run_in t c) ≡ n = ap (λ (ms : List Met). acting ms) (case_runs t l hits h) in
      let o = skips_nothing t l n c (omega (arith, same)) in
      let k : ℕ = length o.before in
      let in_levels : slice_get (levels t n) k ≡ Some o.one = ap (λ (x : List (List Rig)). slice_get x k) o.split ∙ get_split o.before o.one o.after in
      let size : length (levels t n) ≡ length (o.before ++ o.one ∷ o.after) = ap (λ (x : List (List Rig)). length x) o.split in
      let parts = length-append o.before (o.one ∷ o.after) in
      let count : length own.plan ≡ acting found = ap (λ (x : List Rig). length x) (sym own.is.2.runs) ∙ faults_length (run_of_plan t own.plan) ∙ ap (λ (ms : List Met). acting ms) own.runs in
      let whole : length own.plan ≡ own.is.0 = own.is.2.count in
      let small : own.is.0 ≤ d = own.is.1 in
      let rest = levels_begin t n d (omega (arith, few, count, whole, small)) in
      let past : length (levels t n) ≤ number = not_before t l n number own.plan rest.0 (omega (arith, few, count)) (sym (ap (λ (x : List (List Rig)). slice_get x number) rest.1) ∙ own.at_level) in
      let before : k < number = omega (arith, size, parts, past) in
      let here : slice_get (grown t d) k ≡ Some o.one =
      get_front (levels t d) (onward t d) k o.one (ap (λ (x : List (List Rig)). slice_get x k) rest.1 ∙ get_front (levels t n) rest.0 k o.one in_levels)
      in
      let ends : verdict_of_plan t told.report.seed k o.one ≡ Fail code = o.is.1 told.report.seed k ∙ case_ends t l hits h ∙ fails in
      least k before (g.comes k o.one here ∙ ap (λ (v : Verdict). Some v) ends)
