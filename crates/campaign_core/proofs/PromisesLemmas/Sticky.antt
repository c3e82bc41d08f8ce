-- The numbers behind the levels are those of plans with a sticky fault.
use Rattle.std.proofs.Common.{◌≡◌, ℕ, ◌-◌, ◌≤◌, Some, List, ◌++◌, length, ap, sym, ◌∙◌, subst, arith}
use Rattle.std.specs.Prelude.{slice_get}
use Rattle.std.specs.List.{AllByRecursion}
use Rattle.action_eval.specs.declared.rig.Rig.{Rig}
use Rattle.grown_plans.specs.Runs.{Met}
use Rattle.grown_plans.specs.GrownPlans.{Subject, onward, run_of_plan}
use Rattle.grown_plans.specs.Promises.{IsLawful}
use Rattle.grown_plans.proofs.Members.{all_weaker}
use Rattle.grown_plans.proofs.Onward.{IsOnwardAt, ReturnsFrom, onward_all}
use Rattle.campaign_core.specs.promises.Promises.{IsSticky}
use Rattle.campaign_core.specs.promises.Told.{HasBehaviour, Told, count_of_levels}
use Rattle.campaign_core.proofs.PromisesLemmas.Listed.{Lists}
use Rattle.campaign_core.proofs.PromisesLemmas.Numbers.{all_at, get_behind, get_unmapped}

is_sticky : (d n : ℕ) (hits : List Met) → n ≡ d → ReturnsFrom n hits → IsSticky d hits
is_sticky d n hits same from =
    let earlier = from.earlier in (from.before, from.hit, from.after, from.text, from.split, omega (arith, earlier, same), from.returns, from.onward)

pub onward_sticky : (t : Subject) → IsLawful t → (d : ℕ) → AllByRecursion (λ plan. IsSticky d (run_of_plan t plan)) (onward t d)
onward_sticky t l d =
    all_weaker (IsOnwardAt t d) (λ plan. IsSticky d (run_of_plan t plan)) (λ plan at. is_sticky d (length at.0) (run_of_plan t plan) at.1.count at.2.sticky) (onward t d) (onward_all t l d)

pub each_sticky : (t : Subject) → IsLawful t → (first behind : List (List Rig)) (told : Told) → Lists t first behind told → (d : ℕ)
    → AllByRecursion (λ plan. IsSticky d (run_of_plan t plan)) behind
    → (number : ℕ) (hits : List Met) → count_of_levels told ≤ number → HasBehaviour told number hits → IsSticky d hits
each_sticky t l first behind told g d each number hits past b =
    let of = get_unmapped (run_of_plan t) (first ++ behind) number hits (ap (λ (l : List (List Met)). slice_get l number) (sym g.behaves) ∙ b) in
    let size = g.first_are in
    let at : slice_get behind (number - length first) ≡ Some of.0 = get_behind first behind number of.0 (omega (arith, past, size)) of.1 in
    subst (IsSticky d) of.2 (all_at (λ plan. IsSticky d (run_of_plan t plan)) behind (number - length first) of.0 each at)
