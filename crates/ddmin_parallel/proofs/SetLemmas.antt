use Rattle.std.proofs.Common.{◌≡◌, ℕ, Bool, true, ◌&&◌, List, refl, sym, ◌∙◌, ap}
use Rattle.std.specs.Bool.{nat_eq, Decides}
use Rattle.std.specs.declared.cmp.Ordering.{Ordering}
use Rattle.std.specs.declared.cmp.Ordering.TheVariants.{Less, Equal, Greater}
use Rattle.std.specs.Ordering.{nat_cmp, is_eq, ordering_then}
use Rattle.std.specs.Cmp.{IsTotalOrder}
use Rattle.std.specs.Cmp.Lexicographic.{slice_cmp, pointwise}
use Rattle.std.specs.FinMap.{IsAntisymmetric, slice_cmp-IsAntisymmetric, nat_cmp-IsAntisymmetric}
use Rattle.std.proofs.lemmas.Bool.Decides.{same_from_decides, Decides-like, Decides-and, Decides-eqb}
use Rattle.std.proofs.lemmas.Cmp.{nat_list_cmp_total, nat_cmp_total, lists_total, then_total, on_total, tied_itself}
use Rattle.std.proofs.lemmas.Slice.Eq.{slice_eq-Decides}
use Rattle.ddmin_parallel.specs.Runs.{faults_of}
use Rattle.ddmin_parallel.specs.inside.Packing.{runs_of}
use Rattle.ddmin_parallel.proofs.RunLemmas.{same_runs, faults_of_runs}

abbrev pub set_cmp : List ℕ → List ℕ → Ordering
set_cmp = slice_cmp nat_cmp

abbrev pub run_eq : ℕ × ℕ → ℕ × ℕ → Bool
run_eq x y = nat_eq x.0 y.0 && nat_eq x.1 y.1

abbrev pub run_cmp : ℕ × ℕ → ℕ × ℕ → Ordering
run_cmp x y = ordering_then (nat_cmp x.0 y.0) (nat_cmp x.1 y.1)

abbrev pub runs_cmp : List (ℕ × ℕ) → List (ℕ × ℕ) → Ordering
runs_cmp = slice_cmp run_cmp

same_run : (x y : ℕ × ℕ) → x.0 ≡ y.0 → x.1 ≡ y.1 → x ≡ y
same_run x y p q = λ i. (p i, q i)

run_eq-Decides : (x y : ℕ × ℕ) → Decides (run_eq x y) (x ≡ y)
run_eq-Decides x y = Decides-like (run_eq x y) (λ both. same_run x y both.0 both.1) (λ (e : x ≡ y). (ap (λ p. p.0) e, ap (λ p. p.1) e))
    (Decides-and _ _ (Decides-eqb x.0 y.0) (Decides-eqb x.1 y.1))

run_cmp-IsAntisymmetric : IsAntisymmetric run_cmp
run_cmp-IsAntisymmetric x y is = at (nat_cmp x.0 y.0) refl is
  where
    at : (r : Ordering) → nat_cmp x.0 y.0 ≡ r → ordering_then r (nat_cmp x.1 y.1) ≡ Equal → x ≡ y
    at Less p e = cc
    at Equal p e = same_run x y (nat_cmp-IsAntisymmetric x.0 y.0 p) (nat_cmp-IsAntisymmetric x.1 y.1 e)
    at Greater p e = cc

runs_total : IsTotalOrder runs_cmp
runs_total = lists_total (then_total (on_total (λ (x : ℕ × ℕ). x.0) nat_cmp_total) (on_total (λ (x : ℕ × ℕ). x.1) nat_cmp_total))

pub is_equal : (r : Ordering) → is_eq r ≡ true → r ≡ Equal
is_equal Less e = cc
is_equal Equal e = refl
is_equal Greater e = cc

pub exact_sets : (s t : List ℕ) → set_cmp s t ≡ Equal → s ≡ t
exact_sets = slice_cmp-IsAntisymmetric nat_cmp-IsAntisymmetric

pub exact_runs : (rs ss : List (ℕ × ℕ)) → runs_cmp rs ss ≡ Equal → rs ≡ ss
exact_runs = slice_cmp-IsAntisymmetric run_cmp-IsAntisymmetric

tie-Decides : {K : Type 0} {R : K → K → Ordering} → IsAntisymmetric R → IsTotalOrder R → (x y : K) → Decides (is_eq (R x y)) (x ≡ y)
tie-Decides {K} {R} exact total x y =
    (λ is. exact x y (is_equal (R x y) is), λ same. ap is_eq (ap (R x) (sym same) ∙ tied_itself total x))

pub set_tie-Decides : (s t : List ℕ) → Decides (is_eq (set_cmp s t)) (s ≡ t)
set_tie-Decides = tie-Decides exact_sets nat_list_cmp_total

pub runs_tie-Decides : (rs ss : List (ℕ × ℕ)) → Decides (is_eq (runs_cmp rs ss)) (rs ≡ ss)
runs_tie-Decides = tie-Decides exact_runs runs_total

-- packed runs are compared as their faults
pub runs_equal : (rs ss : List (ℕ × ℕ)) (b : Bool) → runs_of (faults_of rs) ≡ rs → runs_of (faults_of ss) ≡ ss → b ≡ pointwise run_eq rs ss
    → b ≡ is_eq (set_cmp (faults_of rs) (faults_of ss))
runs_equal rs ss b packed too is =
    same_from_decides b _ (Decides-like b (ap faults_of) (same_runs rs ss packed too) (slice_eq-Decides run_eq-Decides rs ss b is))
    (set_tie-Decides (faults_of rs) (faults_of ss))

-- a set's runs and packed runs are compared as their faults
pub runs_tie : (s : List ℕ) (rs : List (ℕ × ℕ)) → runs_of (faults_of rs) ≡ rs → is_eq (runs_cmp (runs_of s) rs) ≡ is_eq (set_cmp s (faults_of rs))
runs_tie s rs packed =
    same_from_decides _ _
    (Decides-like _ (λ same. sym (faults_of_runs s) ∙ ap faults_of same) (λ same. ap runs_of same ∙ packed) (runs_tie-Decides (runs_of s) rs))
    (set_tie-Decides s (faults_of rs))
