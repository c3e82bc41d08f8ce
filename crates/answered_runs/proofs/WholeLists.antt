-- Plans that are looked through one after another, and what is recorded of their runs.
use Rattle.std.proofs.Common.{◌≡◌, ℕ, ◌<◌, List, [], length, map, get_or, Option, ap, sym, ◌∙◌, subst}
use Rattle.std.specs.Prelude.{option_map}
use Rattle.std.specs.Borrow.{Bor}
use Rattle.action_eval.specs.declared.rig.Rig.{Rig}
use Rattle.grown_runs.specs.known.Known.{KnownRuns, Told}
use Rattle.grown_runs.specs.known.Looks.{IsLook}
use Rattle.grown_runs.specs.declared.known.table.Look.{Look}
use Rattle.grown_runs.proofs.KnownLemmas.Found.{found_at}
use Rattle.answer_text.specs.declared.runs.ToldRun.{ToldRun}
use Rattle.answered_runs.specs.Answered.{Answered, plan_told}
use Rattle.answered_runs.specs.KnownLists.{verdict_told}

-- ---- a run that was found of a plan, by the plan's number

module _ {A : Type 0} (f : A → Option Told) (known : KnownRuns) (runs : List A) (plans : List (List Rig)) (n : ℕ) (x : A) (found : map f runs ≡ map known plans) (less : n < length plans) (is : x ≡ get_or runs n x) where
  found_here : f x ≡ known (get_or plans n [])
  found_here = ap f is ∙ found_at f known runs plans n x found less

  pub look_here : (hits : List ℕ) (l : Look) → IsLook (f x) hits l → IsLook (known (get_or plans n [])) hits l
  look_here hits l look = subst (λ (o : Option Told). IsLook o hits l) found_here look

  pub verdict_here : (y : A) → x ≡ y → option_map (λ told. told.verdict) (f y) ≡ verdict_told known (get_or plans n [])
  verdict_here y e = ap (option_map (λ told. told.verdict)) (ap f (sym e) ∙ found_here)

-- what is recorded of a plan's run
pub told_here : (a : Answered) (runs : List (Option (Bor ToldRun))) (plans : List (List Rig)) (n : ℕ) (x : Option (Bor ToldRun)) → map (option_map (λ r. r.now)) runs ≡ map (plan_told a) plans → n < length plans
    → x ≡ get_or runs n x → option_map (λ r. r.now) x ≡ plan_told a (get_or plans n [])
told_here a runs plans n x found less is = ap (option_map (λ r. r.now)) is ∙ found_at (option_map (λ r. r.now)) (plan_told a) runs plans n x found less
