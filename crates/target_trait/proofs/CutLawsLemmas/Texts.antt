-- A machine whose steps pass over the text of a return asks the same whatever the text is, also when its power cut is asked.
use Rattle.std.proofs.Common.{◌≡◌, ℕ, nat_lt, Bool, cond, None, List, [], ◌∷◌, ◌++◌, map, length, true, false, Option, refl, ap, sym, ◌∙◌}
use Rattle.std.proofs.lemmas.List.{map-append, length-map}
use Rattle.action_eval.specs.Answers.{Reply, Go, Return, Halt}
use Rattle.target_trait.specs.declared.judgement.Judgement.{Judgement}
use Rattle.target_trait.specs.Protocol.{Table, table_step}
use Rattle.target_trait.specs.Machine.{Machine, led, after, asks_by}
use Rattle.target_trait.specs.Play.{Move, Ask, Done}
use Rattle.target_trait.specs.Cuts.{Cut, keeps, by_own, asks_from, asks_with}
use Rattle.target_trait.specs.cut_laws.Texts.{without_text, PassesOverTexts}

kept_alike : (answers : List Reply) → map keeps (map without_text answers) ≡ map keeps answers
kept_alike [] = refl
kept_alike (Go ∷ answers) = ap (λ ks. keeps Go ∷ ks) (kept_alike answers)
kept_alike (Return text ∷ answers) = ap (λ ks. keeps (Return text) ∷ ks) (kept_alike answers)
kept_alike (Halt ∷ answers) = ap (λ ks. keeps Halt ∷ ks) (kept_alike answers)

module _ {S : Type 0} (m : Machine S) (same : (s : S) (a : Reply) → m.step s (without_text a) ≡ m.step s a) where
  led_alike : (s : S) (answers : List Reply) → led m s (map without_text answers) ≡ led m s answers
  led_alike s [] = refl
  led_alike s (a ∷ answers) = ap (λ x. led m x (map without_text answers)) (same s a) ∙ led_alike (m.step s a) answers

  after_alike : (answers : List Reply) → after m (map without_text answers) ≡ after m answers
  after_alike answers = led_alike m.first answers

  pub asks_alike : PassesOverTexts (asks_by m)
  asks_alike answers = ap m.move (after_alike answers)

  module _ (pending : S → ℕ) (judge : S → List Bool → Judgement) (keep : ℕ) where
    abbrev cut : Cut
    cut = record { pending = λ own. pending (after m own); judge = λ own kept. judge (after m own) kept }

    -- what is asked in a state, if the target doesn't ask any more and so many answers were given to the cut
    abbrev asked : S → Move → List Reply → Move
    asked s further answers = by_own (m.move s) further (cond (nat_lt (length answers) (pending s)) (Ask keep) (Done (judge s (map keeps answers))))

    answers_alike : (s : S) (further : Move) (answers : List Reply) → asked s further (map without_text answers) ≡ asked s further answers
    answers_alike s further answers =
        ap (λ n. by_own (m.move s) further (cond (nat_lt n (pending s)) (Ask keep) (Done (judge s (map keeps (map without_text answers)))))) (length-map answers without_text)
        ∙ ap (λ ks. by_own (m.move s) further (cond (nat_lt (length answers) (pending s)) (Ask keep) (Done (judge s ks)))) (kept_alike answers)

    from_alike : (own answers : List Reply) → asks_from (asks_by m) cut keep (map without_text own) (map without_text answers) ≡ asks_from (asks_by m) cut keep own answers
    from_alike own [] = ap (λ s. asked s (m.move s) []) (after_alike own)
    from_alike own (a ∷ answers) =
        ap (λ s. asked s (asks_from (asks_by m) cut keep (map without_text own ++ without_text a ∷ []) (map without_text answers)) (map without_text (a ∷ answers))) (after_alike own)
        ∙ answers_alike (after m own) (asks_from (asks_by m) cut keep (map without_text own ++ without_text a ∷ []) (map without_text answers)) (a ∷ answers)
        ∙ ap (λ x. asked (after m own) x (a ∷ answers))
        (ap (λ l. asks_from (asks_by m) cut keep l (map without_text answers)) (sym (map-append without_text own (a ∷ []))) ∙ from_alike (own ++ a ∷ []) answers)

    pub with_cut_alike : PassesOverTexts (asks_with (asks_by m) cut keep)
    with_cut_alike answers = from_alike [] answers

-- A table's step passes over the text of a return if its failing steps do.
pub table_passes : {S : Type 0} (t : Table S) → ((s : S) (text : Option (List ℕ)) → t.fail s None ≡ t.fail s text)
    → (x : S × Bool) (a : Reply) → table_step t x (without_text a) ≡ table_step t x a
table_passes t same (s, true) a = refl
table_passes t same (s, false) Go = refl
table_passes t same (s, false) (Return text) = ap (λ next. (next, false)) (same s text)
table_passes t same (s, false) Halt = refl
