-- A scenario of rigged hits without one of its faults has the verdict of those rigged hits without one of them.
use Rattle.std.proofs.Common.{◌≡◌, ◌≢◌, ℕ, zero, suc, ◌+◌, ◌<◌, ◌==◌, ◌||◌, Bool, true, false, cond, List, [], ◌∷◌, length, get_or, refl, ap, sym, ◌∙◌, arith}
use Rattle.std.specs.Prelude.{remove}
use Rattle.std.specs.List.{AllByRecursion, range_with_len}
use Rattle.std.proofs.lemmas.Bool.Decides.{nat_tests}
use Rattle.std.proofs.lemmas.List.{get_or-map}
use Rattle.scenario_values.specs.Scenario.{Entries, all_faults}
use Rattle.scenario_values.specs.Keep.{holds, kept}
use Rattle.scenario_values.specs.Tidied.{tidied}
use Rattle.action_eval.specs.declared.rig.Rig.{Rig}
use Rattle.action_eval.specs.RiggedScenario.{rigged_scenario}
use Rattle.action_eval.proofs.RunLaws.{tidied_means}
use Rattle.target_trait.specs.declared.judgement.Verdict.TheVariants.{Fail}
use Rattle.target_trait.proofs.Verdicts.{verdict_same}
use Rattle.grown_plans.specs.GrownPlans.{Subject, rigs_of, scenario_of}
use Rattle.grown_plans.specs.Promises.{IsCause, IsLawful, lesser, verdict_of_plan, verdict_of_rigs}
use Rattle.grown_runs.proofs.Lesser.{lesser_length}
use Rattle.campaign_core.specs.promises.Told.{Told}
use Rattle.campaign_core.specs.promises.Further.{IsLeast, verdict_of, without}
use Rattle.campaign_core.proofs.Minimal.{kept_distinct}
use Rattle.campaign_core.proofs.PlanNames.{rigged_scenario_distinct}
use Rattle.campaign_core.proofs.PromisesLemmas.KeptRigs.{AreInPlace, chosen, kept_rigs, rigged_faults}

-- ---- all rigged hits but one

-- a number below a range isn't in it
none_below : (n from count : ℕ) → n < from → holds (range_with_len from count) n ≡ false
none_below n from zero low = refl
none_below n from (suc count) low =
    let other : (from == n) ≡ false = grind (arith, nat_tests, low) in
    ap (λ (b : Bool). b || holds (range_with_len (from + 1) count) n) other ∙ none_below n (from + 1) count (omega (arith, low))

-- a number before those that are asked for makes no difference
one_before : (set : List ℕ) (k n : ℕ) (rs : List Rig) → k < n → chosen (k ∷ set) n rs ≡ chosen set n rs
one_before set k n [] low = refl
one_before set k n (r ∷ rs) low =
    let other : (k == n) ≡ false = grind (arith, nat_tests, low) in
    ap (λ (b : Bool). cond (b || holds set n) (r ∷ chosen (k ∷ set) (n + 1) rs) (chosen (k ∷ set) (n + 1) rs)) other
    ∙ ap (λ (l : List Rig). cond (holds set n) (r ∷ l) l) (one_before set k (n + 1) rs (omega (arith, low)))

-- the first of them is there
with_first : (set : List ℕ) (n : ℕ) (r : Rig) (rs : List Rig) → chosen (n ∷ set) n (r ∷ rs) ≡ r ∷ chosen set (n + 1) rs
with_first set n r rs =
    let own : (n == n) ≡ true = grind (arith, nat_tests) in
    ap (λ (b : Bool). cond (b || holds set n) (r ∷ chosen (n ∷ set) (n + 1) rs) (chosen (n ∷ set) (n + 1) rs)) own
    ∙ ap (λ (l : List Rig). r ∷ l) (one_before set n (n + 1) rs (omega arith))

all_chosen : (n : ℕ) (rs : List Rig) → chosen (range_with_len n (length rs)) n rs ≡ rs
all_chosen n [] = refl
all_chosen n (r ∷ rs) = with_first (range_with_len (n + 1) (length rs)) n r rs ∙ ap (λ (l : List Rig). r ∷ l) (all_chosen (n + 1) rs)

chosen_lesser : (n fault : ℕ) (rs : List Rig) → fault < length rs → chosen (remove (range_with_len n (length rs)) fault) n rs ≡ get_or (lesser rs) fault []
chosen_lesser n fault [] low = absurd (omega (arith, low))
chosen_lesser n zero (r ∷ rs) low =
    let set : List ℕ = range_with_len (n + 1) (length rs) in
    ap (λ (b : Bool). cond b (r ∷ chosen set (n + 1) rs) (chosen set (n + 1) rs)) (none_below n (n + 1) (length rs) (omega arith)) ∙ all_chosen (n + 1) rs
chosen_lesser n (suc fault) (r ∷ rs) low =
    let many = lesser_length rs in
    with_first (remove (range_with_len (n + 1) (length rs)) fault) n r rs
    ∙ ap (λ (l : List Rig). r ∷ l) (chosen_lesser (n + 1) fault rs (omega (arith, low)))
    ∙ sym (get_or-map (λ (less : List Rig). r ∷ less) (lesser rs) fault [] [] (omega (arith, low, many)))

-- ---- members of a list by their numbers

all_numbered : {A : Type 0} (P : A → Type 0) (none : A) (xs : List A) → ((i : ℕ) → i < length xs → P (get_or xs i none)) → AllByRecursion P xs
all_numbered P none [] h = tt
all_numbered P none (x ∷ xs) h = (h 0 (omega arith), all_numbered P none xs (λ i low. h (suc i) (omega (arith, low))))

pub numbered : {A : Type 0} (P : A → Type 0) (none : A) (xs : List A) → AllByRecursion P xs → (i : ℕ) → i < length xs → P (get_or xs i none)
numbered P none [] a i low = absurd (omega (arith, low))
numbered P none (x ∷ xs) a zero low = a.0
numbered P none (x ∷ xs) a (suc i) low = numbered P none xs a.1 i (omega (arith, low))

-- ---- causes

-- rigged hits of points of the catalogue, in their places
pub record CanBeLeft (t : Subject) (rigs : List Rig) : Type 0 where
  pub in_place : AreInPlace rigs
  pub within : AllByRecursion (λ r. r.site.point < length t.names) rigs

module _ (t : Subject) (l : IsLawful t) (told : Told) (number : ℕ) (rigs : List Rig) (can : CanBeLeft t rigs) where
  abbrev scenario : Entries
  scenario = rigged_scenario t.names rigs

  many : all_faults scenario ≡ length rigs
  many = rigged_faults t.names rigs can.in_place can.within

  without_is : (fault : ℕ) → fault < length rigs → verdict_of t told number (without fault scenario) ≡ verdict_of_rigs t told.report.seed number (get_or (lesser rigs) fault [])
  without_is fault low =
      let set : List ℕ = remove (range_with_len 0 (all_faults scenario)) fault in
      sym (verdict_same (tidied (kept set scenario)) (kept set scenario)
      (tidied_means (kept set scenario) (kept_distinct set 0 scenario (rigged_scenario_distinct t.names rigs l.catalogue.distinct))) t.asks t.names told.report.seed t.limit number)
      ∙ ap (λ (es : Entries). verdict_of t told number es) (kept_rigs t.names set rigs can.in_place)
      ∙ ap (λ (n : ℕ). verdict_of t told number (rigged_scenario t.names (chosen (remove (range_with_len 0 n) fault) 0 rigs))) many
      ∙ ap (λ (less : List Rig). verdict_of t told number (rigged_scenario t.names less)) (chosen_lesser 0 fault rigs low)

  -- no rigged hit can be left out where no fault can
  lesser_pass : (code : ℕ) → IsLeast t told number code scenario → AllByRecursion (λ less. verdict_of_rigs t told.report.seed number less ≢ Fail code) (lesser rigs)
  lesser_pass code least =
      all_numbered (λ (less : List Rig). verdict_of_rigs t told.report.seed number less ≢ Fail code) [] (lesser rigs)
      (λ fault low.
      let size = lesser_length rigs in
      let inside : fault < length rigs = omega (arith, low, size) in
      λ fails. least fault (omega (arith, inside, many)) (without_is fault inside ∙ fails))

  faults_pass : (code : ℕ) → AllByRecursion (λ less. verdict_of_rigs t told.report.seed number less ≢ Fail code) (lesser rigs) → IsLeast t told number code scenario
  faults_pass code each fault low fails =
      let size = lesser_length rigs in
      let inside : fault < length rigs = omega (arith, low, many) in
      numbered (λ (less : List Rig). verdict_of_rigs t told.report.seed number less ≢ Fail code) [] (lesser rigs) each fault (omega (arith, inside, size)) (sym (without_is fault inside) ∙ fails)

-- a plan is a cause if and only if its scenario fails, and doesn't without any one of its faults
pub cause_least : (t : Subject) → IsLawful t → (told : Told) (number code : ℕ) (plan : List Rig) → CanBeLeft t (rigs_of plan) → IsCause t told.report.seed number code plan
    → IsLeast t told number code (scenario_of t plan)
cause_least t l told number code plan can is = faults_pass t l told number (rigs_of plan) can code is.1

pub least_cause : (t : Subject) → IsLawful t → (told : Told) (number code : ℕ) (plan : List Rig) → CanBeLeft t (rigs_of plan) → verdict_of_plan t told.report.seed number plan ≡ Fail code
    → IsLeast t told number code (scenario_of t plan) → IsCause t told.report.seed number code plan
least_cause t l told number code plan can fails least = (fails, lesser_pass t l told number (rigs_of plan) can code least)
