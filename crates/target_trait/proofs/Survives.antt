-- What judges nothing but that all was kept, at its own end and after a power cut, never fails, whatever the cut keeps.
use Rattle.std.specs.Prelude.{nat_lt}
use Rattle.std.proofs.Common.{◌≡◌, ℕ, Bool, true, false, cond, List, [], ◌∷◌, ◌++◌, map, length, sym, ◌∙◌}
use Rattle.action_eval.specs.Answers.{Given, Reply}
use Rattle.target_trait.specs.declared.judgement.Judgement.{Judgement}
use Rattle.target_trait.specs.declared.judgement.Judgement.TheVariants.{Kept}
use Rattle.target_trait.specs.declared.judgement.Verdict.TheVariants as verdict
use Rattle.target_trait.specs.Play.{Move, Ask, Done, Unknown}
use Rattle.target_trait.specs.Outcomes.{outcome}
use Rattle.target_trait.specs.Cuts.{Cut, asks_from, asks_with, by_own, cut_asks, keeps}
use Rattle.target_trait.proofs.Never.{IsKept, never_fails}

same_kept : (m cut : Move) → IsKept cut → IsKept (by_own m m cut)
same_kept (Ask p) cut k = λ j e. absurd cc
same_kept (Done i) cut k = k
same_kept Unknown cut k = λ j e. absurd cc

own_kept : (m own cut : Move) → IsKept own → IsKept cut → IsKept (by_own m own cut)
own_kept (Ask p) own cut a b = a
own_kept (Done i) own cut a b = b
own_kept Unknown own cut a b = λ j e. absurd cc

cut_kept : (b : Bool) (p : ℕ) (i : Judgement) → i ≡ Kept → IsKept (cond b (Ask p) (Done i))
cut_kept true p i k = λ j e. absurd cc
cut_kept false p i k = λ j e. let same : i ≡ j = cc in sym same ∙ k

module _ (asks : List Reply → Move) (cut : Cut) (n : ℕ) (kept : (own : List Reply) (keep : List Bool) → cut.judge own keep ≡ Kept) where
  from_kept : (own rest : List Reply) → IsKept (asks_from asks cut n own rest)
  from_kept own [] = same_kept (asks own) (cut_asks cut n own []) (cut_kept (nat_lt 0 (cut.pending own)) n (cut.judge own []) (kept own []))
  from_kept own (a ∷ rest) =
      own_kept (asks own) (asks_from asks cut n (own ++ a ∷ []) rest) (cut_asks cut n own (a ∷ rest)) (from_kept (own ++ a ∷ []) rest)
      (cut_kept (nat_lt (length (a ∷ rest)) (cut.pending own)) n (cut.judge own (map keeps (a ∷ rest))) (kept own (map keeps (a ∷ rest))))

  pub survives : (g : Given) (code : ℕ) → (outcome (asks_with asks cut n) g).verdict ≡ verdict.Fail code → ⊥
  survives = never_fails (asks_with asks cut n) (from_kept [])
