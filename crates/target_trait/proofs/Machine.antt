-- What each target proves of its play, once for all of them.
use Rattle.std.proofs.Common.{◌≡◌, ℕ, List, [], ◌∷◌, ◌++◌, refl, ap, sym, ◌∙◌, subst, append_assoc}
use Rattle.std.proofs.lemmas.List.{append-nil}
use Rattle.action_eval.specs.Answers.{Reply, Go, Run, Given, start, hit, hits_of, AllGo, replies}
use Rattle.target_trait.specs.declared.judgement.Judgement.{Judgement}
use Rattle.target_trait.specs.Play.{Ask, Done, Follows, IsPlay}
use Rattle.target_trait.specs.Machine.{Machine, led, after, asks_by, Reached, AsksInTurn}
pub use Rattle.target_trait.specs.MachineLaws.{within_by, halts_by}
use Rattle.target_trait.proofs.Plays.{follows_more}

pub led_more : {S : Type 0} (m : Machine S) (s : S) (answers : List Reply) (a : Reply) → led m s (answers ++ a ∷ []) ≡ m.step (led m s answers) a
led_more m s [] a = refl
led_more m s (b ∷ answers) a = led_more m (m.step s b) answers a

pub reached_more : {S : Type 0} (m : Machine S) (r : Run) (s : S) (p : ℕ) → Reached m r s → m.move s ≡ Ask p
    → (r' : Run) → r' ≡ hit r p → (a : Reply) → replies r' ≡ replies r ++ a ∷ [] → Reached m r' (m.step s a)
reached_more {S} m r s p k asks r' same a told = record {
  asked =
      let P : Run → Type 0 = λ x. Follows (asks_by m) x.given [] x.hits in
      subst P (sym same) (follows_more (asks_by m) r.given [] r.hits p k.asked (ap m.move k.here ∙ asks));
  here = ap (after m) told ∙ led_more m m.first (replies r) a ∙ ap (λ (x : S). m.step x a) k.here;
}

-- a new run is in the first state
pub reached_first : {S : Type 0} (m : Machine S) (g : Given) → replies (start g) ≡ [] → Reached m (start g) m.first
reached_first m g none = record { asked = tt; here = ap (after m) none }

-- after so many answers to go on
abbrev pub gone : {S : Type 0} → Machine S → S → List ℕ → S
gone m s [] = s
gone m s (p ∷ ps) = gone m (m.step s Go) ps

-- several questions at once, each answered to go on
pub reached_on : {S : Type 0} (m : Machine S) (ps : List ℕ) (r : Run) (s : S) → Reached m r s → AsksInTurn m s ps → AllGo r ps → Reached m (hits_of r ps) (gone m s ps)
reached_on m [] r s k asks goes = subst (λ (x : Run). Reached m x s) (ap (λ (l : List ℕ). let x : Run = record { given = r.given; hits = l } in x) (sym (append-nil r.hits))) k
reached_on m (p ∷ ps) r s k asks goes =
    let more : Reached m (hits_of (hit r p) ps) (gone m (m.step s Go) ps) = reached_on m ps (hit r p) (m.step s Go) (reached_more m r s p k asks.0 (hit r p) refl Go goes.0) asks.1 goes.1 in
    subst (λ (x : Run). Reached m x (gone m (m.step s Go) ps)) (ap (λ (l : List ℕ). let x : Run = record { given = r.given; hits = l } in x) (append_assoc r.hits (p ∷ []) ps)) more

pub reached_end : {S : Type 0} (m : Machine S) (r : Run) (s : S) (j : Judgement) → Reached m r s → m.move s ≡ Done j → IsPlay (asks_by m) r j
reached_end m r s j k done = record { asked = k.asked; ended = ap m.move k.here ∙ done }
