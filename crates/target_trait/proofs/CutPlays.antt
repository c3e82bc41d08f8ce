-- Laws of what the cut asks.
use Rattle.std.proofs.Common.{◌≡◌, ℕ, Bool, true, false, cond, List, [], ◌∷◌, ◌++◌, map, length, refl, ap, sym, subst, ◌∙◌, suc, append_assoc, arith}
use Rattle.std.proofs.lemmas.List.{append-nil}
use Rattle.std.proofs.lemmas.Bool.{le-ltb}
use Rattle.action_eval.specs.Answers.{Reply}
use Rattle.target_trait.specs.Play.{Move, Ask, Done, Unknown, IsDone}
use Rattle.target_trait.specs.Cuts.{Cut, no_cut, judgement_of, keeps, cut_asks, by_own, asks_from, asks_with, IsAsking, AsksAll, answer_to}

pub asks_on : (m own cut : Move) → IsAsking m → by_own m own cut ≡ own
asks_on (Ask p) own cut h = refl
asks_on (Done j) own cut h = absurd h
asks_on Unknown own cut h = absurd h

ends : (m own cut : Move) → IsDone m → by_own m own cut ≡ cut
ends (Ask p) own cut h = absurd h
ends (Done j) own cut h = refl
ends Unknown own cut h = absurd h

-- after a target's own answers the cut asks
after_own : (asks : List Reply → Move) (cut : Cut) (keep : ℕ) (done rest answers : List Reply) → AsksAll asks done rest → IsDone (asks (done ++ rest))
    → asks_from asks cut keep done (rest ++ answers) ≡ cut_asks cut keep (done ++ rest) answers
after_own asks cut keep done [] answers h over = here answers
  where
    stop : IsDone (asks done)
    stop = subst (λ own. IsDone (asks own)) (append-nil done) over

    here : (answers : List Reply) → asks_from asks cut keep done answers ≡ cut_asks cut keep (done ++ []) answers
    here [] = ends (asks done) (asks done) (cut_asks cut keep done []) stop ∙ ap (λ own. cut_asks cut keep own []) (sym (append-nil done))
    here (a ∷ rest) =
        ends (asks done) (asks_from asks cut keep (done ++ a ∷ []) rest) (cut_asks cut keep done (a ∷ rest)) stop
        ∙ ap (λ own. cut_asks cut keep own (a ∷ rest)) (sym (append-nil done))
after_own asks cut keep done (a ∷ rest) answers h over =
    asks_on (asks done) (asks_from asks cut keep (done ++ a ∷ []) (rest ++ answers)) (cut_asks cut keep done (a ∷ (rest ++ answers))) h.0
    ∙ after_own asks cut keep (done ++ a ∷ []) rest answers h.1 (subst (λ own. IsDone (asks own)) (sym (append_assoc done (a ∷ []) rest)) over)
    ∙ ap (λ own. cut_asks cut keep own answers) (append_assoc done (a ∷ []) rest)

pub cut_follows : (asks : List Reply → Move) (cut : Cut) (keep : ℕ) (own answers : List Reply) → AsksAll asks [] own → IsDone (asks own)
    → asks_with asks cut keep (own ++ answers) ≡ cut_asks cut keep own answers
cut_follows asks cut keep own answers h over = after_own asks cut keep [] own answers h over

kept_again : (keep : List Bool) → map keeps (map answer_to keep) ≡ keep
kept_again [] = refl
kept_again (true ∷ keep) = ap (λ (l : List Bool). true ∷ l) (kept_again keep)
kept_again (false ∷ keep) = ap (λ (l : List Bool). false ∷ l) (kept_again keep)

as_long : (keep : List Bool) → length (map answer_to keep) ≡ length keep
as_long [] = refl
as_long (k ∷ keep) = ap suc (as_long keep)

-- each set of pending writes is judged, by the answers that keep it
pub each_set : (asks : List Reply → Move) (cut : Cut) (point : ℕ) (own : List Reply) (keep : List Bool) → AsksAll asks [] own → IsDone (asks own)
    → length keep ≡ cut.pending own → asks_with asks cut point (own ++ map answer_to keep) ≡ Done (cut.judge own keep)
each_set asks cut point own keep h over long =
    cut_follows asks cut point own (map answer_to keep) h over
    ∙ ap (λ b. cond b (Ask point) (Done (cut.judge own (map keeps (map answer_to keep)))))
    (le-ltb (length (map answer_to keep)) (cut.pending own) (omega (arith, as_long keep, long)))
    ∙ ap (λ (l : List Bool). Done (cut.judge own l)) (kept_again keep)

-- If nothing is pending, what is asked is what the target asks.
same_end : (m : Move) → by_own m m (Done (judgement_of m)) ≡ m
same_end (Ask p) = refl
same_end (Done j) = refl
same_end Unknown = refl

unchanged_from : (asks : List Reply → Move) (point : ℕ) (done rest : List Reply) → AsksAll asks done rest
    → asks_from asks (no_cut asks) point done rest ≡ asks (done ++ rest)
unchanged_from asks point done [] h = same_end (asks done) ∙ ap asks (sym (append-nil done))
unchanged_from asks point done (a ∷ rest) h =
    asks_on (asks done) (asks_from asks (no_cut asks) point (done ++ a ∷ []) rest) (cut_asks (no_cut asks) point done (a ∷ rest)) h.0
    ∙ unchanged_from asks point (done ++ a ∷ []) rest h.1
    ∙ ap asks (append_assoc done (a ∷ []) rest)

pub unchanged : (asks : List Reply → Move) (point : ℕ) (answers : List Reply) → AsksAll asks [] answers
    → asks_with asks (no_cut asks) point answers ≡ asks answers
unchanged asks point answers h = unchanged_from asks point [] answers h
