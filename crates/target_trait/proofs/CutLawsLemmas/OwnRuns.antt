-- A case's run is the hits that were asked, up to its end or until it was cut short; and its hits are asked with the cut behind it too.
use Rattle.std.proofs.Common.{◌≡◌, ℕ, zero, suc, ◌+◌, ◌<◌, ◌≤◌, nat_lt, Bool, true, false, cond, List, [], ◌∷◌, ◌++◌, length, Some, refl, ap, sym, ◌∙◌, subst, arith, append_assoc}
use Rattle.std.proofs.lemmas.Bool.Decides.{nat_tests}
use Rattle.std.proofs.lemmas.List.{append-nil, length_push}
use Rattle.scenario_values.specs.Scenario.{Entries}
use Rattle.action_eval.specs.declared.answer.Stop.TheVariants as stop
use Rattle.action_eval.specs.Answers.{Given, Run, Reply, hit, replies, reply_to, stopped_by, history_of, is_over, cuts_short, is_cut_short}
use Rattle.action_eval.proofs.CallerLemmas.{replies_open}
use Rattle.target_trait.specs.declared.judgement.Judgement.TheVariants.{Kept}
use Rattle.target_trait.specs.Play.{Move, Ask, Done, Unknown, FollowsOn, IsDone, IsWithin, move_in}
use Rattle.target_trait.specs.Outcomes.{play, moved}
use Rattle.target_trait.specs.Cuts.{Cut, IsAsking, AsksAll, asks_with}
use Rattle.target_trait.proofs.CutLawsLemmas.Names.{AreBelow, HaveChains, at, below_more, own_given, longer_given, short_same, replies_same}
use Rattle.target_trait.proofs.CutRuns.{asks_more, asks_own, within_limit}

-- ---- a play, by its hits

pub record Played (asks : List Reply → Move) (g : Given) (n : ℕ) (done : List ℕ) (out : Run) : Type 0 where
  pub hits : List ℕ
  pub few : length hits ≤ n
  pub is : out ≡ at g (done ++ hits)
  pub asked : FollowsOn asks g done hits
  pub ended : is_cut_short out ≡ false → IsDone (asks (replies out))

pub past_limit : (g : Given) (hits : List ℕ) → g.limit < length hits → is_cut_short (at g hits) ≡ true
past_limit g hits h =
    let over : nat_lt g.limit (length hits) ≡ true = grind (arith, nat_tests) in
    ap (λ b. cuts_short (cond b (Some stop.Limit) (stopped_by (history_of (at g hits))))) over

no_further : (asks : List Reply → Move) (g : Given) (n : ℕ) (done : List ℕ) → (is_cut_short (at g done) ≡ false → IsDone (asks (replies (at g done)))) → Played asks g n done (at g done)
no_further asks g n done over = record { hits = []; few = omega arith; is = ap (at g) (sym (append-nil done)); asked = tt; ended = over }

one_further : (asks : List Reply → Move) (g : Given) (n : ℕ) (done : List ℕ) (p : ℕ) (out : Run) → move_in asks (at g done) ≡ Ask p → Played asks g n (done ++ p ∷ []) out
    → Played asks g (suc n) done out
one_further asks g n done p out e k =
    record { hits = p ∷ k.hits; few = omega (arith, k.few); is = k.is ∙ ap (at g) (append_assoc done (p ∷ []) k.hits); asked = (e, k.asked); ended = k.ended }

by_move : (asks : List Reply → Move) (g : Given) (n : ℕ) (done : List ℕ) (further : ℕ → Run) → ((p : ℕ) → Played asks g n (done ++ p ∷ []) (further p))
    → (points : ℕ) (short : Bool) → is_cut_short (at g done) ≡ short → (move : Move) → asks (replies (at g done)) ≡ move → IsWithin points move
    → Played asks g (suc n) done (moved (cond short (Done Kept) move) (at g done) further)
by_move asks g n done further each points true s move m judged = no_further asks g (suc n) done (λ goes. let no : true ≡ false = sym s ∙ goes in absurd cc)
by_move asks g n done further each points false s Unknown m judged = absurd judged
by_move asks g n done further each points false s (Done j) m judged = no_further asks g (suc n) done (λ goes. subst IsDone (sym m) tt)
by_move asks g n done further each points false s (Ask p) m judged =
    one_further asks g n done p (further p) (ap (λ b. cond b (Done Kept) (asks (replies (at g done)))) s ∙ m) (each p)

pub played : (asks : List Reply → Move) (points : ℕ) → ((answers : List Reply) → IsWithin points (asks answers)) → (g : Given) (n : ℕ) (done : List ℕ)
    → g.limit < length done + n → Played asks g n done (play n asks (at g done))
unfolding play
played asks points within g zero done h =
    no_further asks g zero done (λ goes. let no : true ≡ false = sym (past_limit g done (omega (arith, h))) ∙ goes in absurd cc)
played asks points within g (suc n) done h =
    by_move asks g n done (λ p. play n asks (hit (at g done) p)) (λ p. played asks points within g n (done ++ p ∷ []) (omega (arith, h, length_push done p)))
    points (is_cut_short (at g done)) refl (asks (replies (at g done))) refl (within (replies (at g done)))

-- ---- with the cut behind

asked_by : (b : Bool) (move : Move) (p : ℕ) → cond b (Done Kept) move ≡ Ask p → (b ≡ false) × (move ≡ Ask p)
asked_by true move p e = absurd cc
asked_by false move p e = (refl, e)

-- the same hits of the target are hits of the longer run
pub record Own (asks all : List Reply → Move) (names : List (List ℕ)) (own longer : Given) (done hits : List ℕ) : Type 0 where
  pub asked : FollowsOn all longer done hits
  pub asking : AsksAll asks [] (replies (at own (done ++ hits)))
  pub below : AreBelow (length names) (done ++ hits)

module _ (asks : List Reply → Move) (cut : Cut) (names : List (List ℕ)) (within : (answers : List Reply) → IsWithin (length names) (asks answers))
    (seed stream limit : ℕ) (s t : Entries) (chains : HaveChains names s t) where
  pub own_asked : (done hits : List ℕ) → AreBelow (length names) done → AsksAll asks [] (replies (at (own_given names seed stream limit s) done))
      → FollowsOn asks (own_given names seed stream limit s) done hits
      → Own asks (asks_with asks cut (length names)) names (own_given names seed stream limit s) (longer_given names seed stream limit t) done hits
  own_asked done [] below all f =
      let same : done ≡ done ++ [] = sym (append-nil done) in
      record {
        asked = tt;
        asking = subst (λ (l : List ℕ). AsksAll asks [] (replies (at (own_given names seed stream limit s) l))) same all;
        below = subst (AreBelow (length names)) same below;
      }
  own_asked done (p ∷ hits) below all f =
      let r : Run = at (own_given names seed stream limit s) done in
      let q : Run = at (longer_given names seed stream limit t) done in
      let both : List Reply → Move = asks_with asks cut (length names) in
      let k = asked_by (is_cut_short r) (asks (replies r)) p f.0 in
      let asking : IsAsking (asks (replies r)) = subst IsAsking (sym k.1) tt in
      let p_below : p < length names = subst (IsWithin (length names)) k.1 (within (replies r)) in
      let more : replies (hit r p) ≡ replies r ++ reply_to r p ∷ [] = replies_open r p (within_limit (is_over r) (stopped_by (history_of r)) k.0) in
      let next = own_asked (done ++ p ∷ []) hits (below_more (length names) done p below p_below)
      (subst (AsksAll asks []) (sym more) (asks_more asks [] (replies r) (reply_to r p) all asking)) f.1 in
      let joined : (done ++ p ∷ []) ++ hits ≡ done ++ p ∷ hits = append_assoc done (p ∷ []) hits in
      record {
        asked = (
          ap (λ b. cond b (Done Kept) (both (replies q))) (short_same names seed stream limit s t chains done below ∙ k.0)
              ∙ ap both (replies_same names seed stream limit s t chains done below) ∙ asks_own asks cut (length names) [] (replies r) all asking ∙ k.1,
          next.asked,
        );
        asking = subst (λ (l : List ℕ). AsksAll asks [] (replies (at (own_given names seed stream limit s) l))) joined next.asking;
        below = subst (AreBelow (length names)) joined next.below;
      }
