-- A run by a table, step by step.
use Rattle.std.proofs.Common.{◌≡◌, ℕ, ◌<◌, Bool, true, false, List, [], ◌∷◌, ◌++◌, Option, Some, None, option_map, Bor, refl, ap, sym, ◌∙◌, subst}
use Rattle.action_eval.specs.Answers.{Run, hit, replies, reply_of_answer}
use Rattle.action_eval.specs.declared.answer.Answer.{Answer}
use Rattle.action_eval.specs.declared.answer.Answer.TheVariants as answer
use Rattle.target_trait.specs.Play.{IsPlay, IsWithin, move_by}
use Rattle.target_trait.specs.Machine.{asks_by, Reached}
use Rattle.target_trait.specs.Protocol.{Table, table_step, by_table, state_after}
use Rattle.target_trait.proofs.Machine.{reached_more, reached_end}

pub asked_within : {S : Type 0} (t : Table S) (points : ℕ) (s : S) (p : ℕ) → IsWithin points (move_by (t.judge s) (t.point s)) → t.point s ≡ Some p → p < points
asked_within t points s p within e = subst (λ (o : Option ℕ). IsWithin points (move_by (t.judge s) o)) e within

answered : {S : Type 0} (t : Table S) (r : Run) (s : S) (p : ℕ) → Reached (by_table t) r (s, false) → t.point s ≡ Some p
    → (r' : Run) → r' ≡ hit r p → (a : Answer) → replies r' ≡ replies r ++ reply_of_answer a ∷ [] → Reached (by_table t) r' (table_step t (s, false) (reply_of_answer a))
answered t r s p k e r' same a told = reached_more (by_table t) r (s, false) p k (ap (move_by (t.judge s)) e) r' same (reply_of_answer a) told

pub answered_go : {S : Type 0} (t : Table S) (r : Run) (s : S) (p : ℕ) → Reached (by_table t) r (s, false) → t.point s ≡ Some p → (r' : Run) → r' ≡ hit r p → (a : Answer) → replies r' ≡ replies r ++ reply_of_answer a ∷ []
    → a ≡ answer.Go → (s' : S) → s' ≡ t.go s → Reached (by_table t) r' (s', false)
answered_go {S} t r s p k e r' same a told is s' done =
    subst (λ (x : S × Bool). Reached (by_table t) r' x) (ap (λ (x : Answer). table_step t (s, false) (reply_of_answer x)) is ∙ ap (λ (x : S). let y : S × Bool = (x, false) in y) (sym done)) (answered t r s p k e r' same a told)

returned : {S : Type 0} (t : Table S) (s : S) (text : Option (Bor (List ℕ))) → table_step t (s, false) (reply_of_answer (answer.Return text)) ≡ (t.fail s (option_map (λ x. x.now) text), false)
returned t s None = refl
returned t s (Some text) = refl

pub answered_return : {S : Type 0} (t : Table S) (r : Run) (s : S) (p : ℕ) → Reached (by_table t) r (s, false) → t.point s ≡ Some p → (r' : Run) → r' ≡ hit r p → (a : Answer) → replies r' ≡ replies r ++ reply_of_answer a ∷ []
    → (text : Option (Bor (List ℕ))) → a ≡ answer.Return text → (s' : S) → s' ≡ t.fail s (option_map (λ x. x.now) text) → Reached (by_table t) r' (s', false)
answered_return {S} t r s p k e r' same a told text is s' done =
    subst (λ (x : S × Bool). Reached (by_table t) r' x)
    (ap (λ (x : Answer). table_step t (s, false) (reply_of_answer x)) is ∙ returned t s text ∙ ap (λ (x : S). let y : S × Bool = (x, false) in y) (sym done)) (answered t r s p k e r' same a told)

-- a run that is halted has come to the same state
pub reached_halt : {S : Type 0} (t : Table S) (r : Run) (s : S) (p : ℕ) → Reached (by_table t) r (s, false) → t.point s ≡ Some p → (r' : Run) → r' ≡ hit r p → (a : Answer) → replies r' ≡ replies r ++ reply_of_answer a ∷ []
    → a ≡ answer.Halt → Reached (by_table t) r' (s, true)
reached_halt {S} t r s p k e r' same a told is =
    subst (λ (x : S × Bool). Reached (by_table t) r' x) (ap (λ (x : Answer). table_step t (s, false) (reply_of_answer x)) is) (answered t r s p k e r' same a told)

-- and is over
pub halted : {S : Type 0} (t : Table S) (r : Run) (s : S) → Reached (by_table t) r (s, true) → IsPlay (asks_by (by_table t)) r (t.judge s)
halted t r s k = reached_end (by_table t) r (s, true) (t.judge s) k refl

-- and so is one without a further step
pub nothing_asked : {S : Type 0} (t : Table S) (r : Run) (s : S) → Reached (by_table t) r (s, false) → t.point s ≡ None → IsPlay (asks_by (by_table t)) r (t.judge s)
nothing_asked t r s k e = reached_end (by_table t) r (s, false) (t.judge s) k (ap (move_by (t.judge s)) e)

-- the state that a run has come to is that to which its answers lead
pub state_is : {S : Type 0} (t : Table S) (r : Run) (s : S) (over : Bool) → Reached (by_table t) r (s, over) → s ≡ state_after t (replies r)
state_is {S} t r s over k = sym (ap (λ (x : S × Bool). x.0) k.here)
