-- The law that each question is of a point of the catalogue, for targets whose power cut is asked.
use Rattle.std.specs.Prelude.{codes}
use Rattle.std.proofs.Common.{◌≡◌, ℕ, suc, ◌+◌, Bool, true, false, cond, List, [], ◌∷◌, ◌++◌, length, sym, ◌∙◌, subst, arith, length-append}
use Rattle.action_eval.specs.Answers.{Reply}
use Rattle.target_trait.specs.declared.judgement.Judgement.{Judgement}
use Rattle.target_trait.specs.Play.{Move, Ask, Done, Unknown, IsWithin}
use Rattle.target_trait.specs.Cuts.{Cut, with_keep, asks_with, asks_from, by_own, cut_asks}

within_own : (m own cut : Move) (n : ℕ) → IsWithin n m → IsWithin n own → IsWithin n cut → IsWithin n (by_own m own cut)
within_own (Ask p) own cut n judged a b = a
within_own (Done j) own cut n judged a b = b
within_own Unknown own cut n judged a b = absurd judged

one_more : (n : ℕ) (m : Move) → IsWithin n m → IsWithin (suc n) m
one_more n (Ask p) h = omega (arith, h)
one_more n (Done j) h = tt
one_more n Unknown h = absurd h

within_cut : (b : Bool) (n : ℕ) (j : Judgement) → IsWithin (suc n) (cond b (Ask n) (Done j))
within_cut true n j = omega arith
within_cut false n j = tt

within_from : (asks : List Reply → Move) (cut : Cut) (n : ℕ) → ((answers : List Reply) → IsWithin n (asks answers)) → (own rest : List Reply)
    → IsWithin (suc n) (asks_from asks cut n own rest)
within_from asks cut n each own [] =
    let more : IsWithin (suc n) (asks own) = one_more n (asks own) (each own) in
    within_own (asks own) (asks own) (cut_asks cut n own []) (suc n) more more (within_cut _ n _)
within_from asks cut n each own (a ∷ rest) =
    within_own (asks own) (asks_from asks cut n (own ++ a ∷ []) rest) (cut_asks cut n own (a ∷ rest)) (suc n) (one_more n (asks own) (each own))
    (within_from asks cut n each (own ++ a ∷ []) rest) (within_cut _ n _)

pub within_with : (names : List (List ℕ)) (asks : List Reply → Move) (cut : Cut) → ((answers : List Reply) → IsWithin (length names) (asks answers))
    → (answers : List Reply) → IsWithin (length (with_keep names)) (asks_with asks cut (length names) answers)
within_with names asks cut each answers =
    let longer : length (with_keep names) ≡ suc (length names) = length-append names (codes "power::keep" ∷ []) ∙ add_one (length names) in
    subst (λ (n : ℕ). IsWithin n (asks_with asks cut (length names) answers)) (sym longer) (within_from asks cut (length names) each [] answers)
  where
    add_one : (n : ℕ) → n + 1 ≡ suc n
    add_one n = omega arith
