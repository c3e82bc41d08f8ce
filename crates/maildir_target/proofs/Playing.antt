-- A run, told as far as the code has come.
use Rattle.std.proofs.Common.{◌≡◌, ℕ, ◌≤◌, Bool, is_some, length, List, [], ◌∷◌, ◌++◌, Option, None, Some, Bor, refl, ap, sym, ◌∙◌, subst, ◌⊎◌, inl, inr}
use Rattle.sim_device.specs.FileEffects.{Effect, Live, leads}
use Rattle.sim_device.specs.Disk.{entry_at}
use Rattle.sim_device.specs.declared.names.Entry.{Entry}
use Rattle.action_eval.specs.Answers.{Run, GoesOn, start, stopped, hit, replies, reply_of_answer}
use Rattle.action_eval.specs.declared.answer.Answer.{Answer}
use Rattle.action_eval.specs.declared.answer.Answer.TheVariants as answer
use Rattle.target_trait.specs.Play.{Ask, Follows, IsRunning, move_by}
use Rattle.target_trait.specs.Machine.{Reached, after}
use Rattle.target_trait.proofs.Machine.{reached_more}
use Rattle.target_trait.proofs.Running.{runs_go, runs_return, running_at}
use Rattle.maildir_target.specs.declared.variant.Variant.{Variant}
use Rattle.maildir_target.specs.declared.variant.Variant.TheVariants.{Sound, LinkFirst, IgnoreWrite, AppendTmp, DeliverInNew}
use Rattle.maildir_target.specs.Judgement.{judged}
use Rattle.maildir_target.specs.declared.name.Attempt.{Attempt}
use Rattle.maildir_target.specs.declared.name.Attempt.TheVariants.{First, Second}
use Rattle.maildir_target.specs.Steps.{Step, Tally, State, Over, state, at_step, written_of, new_of, is_there, acknowledged, before_all, begun_of, begun, failed_of, failed, not_cleaned, looked, linked, on_go, on_return, stepped, point_at, move_of, machine, asks_of}
use Rattle.maildir_target.specs.inside.Seen.{Played}

asks_point : (w : List (List (List ℕ))) (s : State) (p : ℕ) → point_at s.tally.step ≡ Some p → move_of w s ≡ Ask p
asks_point w s p e = ap (move_by (judged w s.tally.acknowledged s.effects)) e

-- the device holds what a step did
pub record Shows {D : Type 0} (stands : D → List Effect → Type 0) (s : State) (t : Tally) (d : D) : Type 0 where
  pub tally : t ≡ s.tally
  pub device : stands d s.effects

-- one answer more
played_more : {D : Type 0} {stands : D → List Effect → Type 0} {v : Variant} {w : List (List (List ℕ))} {r : Run} {t : Tally} {d : D} (p : ℕ) (k : Played stands v w r t d) → point_at t.step ≡ Some p
    → (r' : Run) → r' ≡ hit r p → (a : Answer) → replies r' ≡ replies r ++ reply_of_answer a ∷ [] → (t' : Tally) (d' : D)
    → Shows stands (stepped v (state t k.effects) (reply_of_answer a)) t' d' → IsRunning (point_at t'.step) r' → Played stands v w r' t' d'
played_more {v = v} {w = w} {r = r} {t = t} {d = d} p k at r' same a told t' d' shows runs =
    let s : State = stepped v (state t k.effects) (reply_of_answer a) in
    let reached : Reached (machine v w) r' s =
    reached_more (machine v w) r (state t k.effects) p k.reached (asks_point w (state t k.effects) p at) r' same (reply_of_answer a) told
    in
    record {
      effects = s.effects;
      reached = subst (λ (x : Tally). Reached (machine v w) r' (state x s.effects)) (sym shows.tally) reached;
      device = shows.device;
      running = runs;
      points = subst (λ (x : Run). 7 ≤ length x.given.catalogue) (sym same) k.points;
    }

shows_as : {D : Type 0} {stands : D → List Effect → Type 0} (s s' : State) (t : Tally) (d : D) → s ≡ s' → Shows stands s t d → Shows stands s' t d
shows_as {stands = stands} s s' t d e k = subst (λ (x : State). Shows stands x t d) e k

-- What a step does if it is answered so.
told_step : (v : Variant) (s s' : State) (a b : Answer) → a ≡ b → s' ≡ stepped v s (reply_of_answer b) → s' ≡ stepped v s (reply_of_answer a)
told_step v s s' a b is e = e ∙ ap (λ (x : Answer). stepped v s (reply_of_answer x)) (sym is)

return_step : (v : Variant) (s : State) (text : Option (Bor (List ℕ)))
    → on_return v s.tally s.effects s.tally.step ≡ stepped v s (reply_of_answer (answer.Return text))
return_step v s None = refl
return_step v s (Some text) = refl

pub played_go : {D : Type 0} {stands : D → List Effect → Type 0} {v : Variant} {w : List (List (List ℕ))} {r : Run} {t : Tally} {d : D} (p : ℕ) → Played stands v w r t d → point_at t.step ≡ Some p
    → (r' : Run) → r' ≡ hit r p → (a : Answer) → a ≡ answer.Go → replies r' ≡ replies r ++ reply_of_answer a ∷ [] → GoesOn (reply_of_answer a) r'
    → (t' : Tally) (d' : D) → ((es : List Effect) → stands d es → Shows stands (on_go v t es t.step) t' d') → Played stands v w r' t' d'
played_go {v = v} {w = w} {r = r} {t = t} {d = d} p k at r' same a is told goes_on t' d' goes =
    let does : on_go v t k.effects t.step ≡ stepped v (state t k.effects) (reply_of_answer a) = told_step v (state t k.effects) _ a answer.Go is refl in
    played_more p k at r' same a told t' d' (shows_as _ _ t' d' does (goes k.effects k.device)) (running_at (point_at t'.step) r' (runs_go a r' is goes_on))

pub played_return : {D : Type 0} {stands : D → List Effect → Type 0} {v : Variant} {w : List (List (List ℕ))} {r : Run} {t : Tally} {d : D} (p : ℕ) → Played stands v w r t d → point_at t.step ≡ Some p
    → (r' : Run) → r' ≡ hit r p → (a : Answer) (text : Option (Bor (List ℕ))) → a ≡ answer.Return text → replies r' ≡ replies r ++ reply_of_answer a ∷ []
    → GoesOn (reply_of_answer a) r' → (t' : Tally) (d' : D) → ((es : List Effect) → stands d es → Shows stands (on_return v t es t.step) t' d')
    → Played stands v w r' t' d'
played_return {v = v} {w = w} {r = r} {t = t} {d = d} p k at r' same a text is told goes_on t' d' fails =
    let does : on_return v t k.effects t.step ≡ stepped v (state t k.effects) (reply_of_answer a) =
    told_step v (state t k.effects) _ a (answer.Return text) is (return_step v (state t k.effects) text)
    in
    played_more p k at r' same a told t' d' (shows_as _ _ t' d' does (fails k.effects k.device)) (running_at (point_at t'.step) r' (runs_return a text r' is goes_on))

pub played_halt : {D : Type 0} {stands : D → List Effect → Type 0} {v : Variant} {w : List (List (List ℕ))} {r : Run} {t : Tally} {d : D} (p : ℕ) → Played stands v w r t d → point_at t.step ≡ Some p
    → (r' : Run) → r' ≡ hit r p → (a : Answer) → a ≡ answer.Halt → replies r' ≡ replies r ++ reply_of_answer a ∷ [] → Played stands v w r' (at_step t Over) d
played_halt {v = v} {w = w} {r = r} {t = t} {d = d} p k at r' same a is told =
    let ends : state (at_step t Over) k.effects ≡ stepped v (state t k.effects) (reply_of_answer a) = told_step v (state t k.effects) _ a answer.Halt is refl in
    played_more p k at r' same a told (at_step t Over) d (shows_as _ _ (at_step t Over) d ends (record { tally = refl; device = k.device })) tt

-- ---- what a step leaves, by what the code finds and does

-- nothing of the step that fails is left in the tally
pub begun_any : (v : Variant) (t : Tally) (s : Step) (rest : List (List (List ℕ))) → begun_of v (at_step t s) rest ≡ begun_of v t rest
begun_any v t s [] = refl
begun_any v t s (chunks ∷ more) = refl

failed_any_of : (v : Variant) (t : Tally) (s : Step) (attempt : Attempt) → failed_of v (at_step t s) attempt ≡ failed_of v t attempt
failed_any_of v t s First = refl
failed_any_of v t s Second = begun_any v t s t.rest

pub failed_any : (v : Variant) (t : Tally) (s : Step) → failed v (at_step t s) ≡ failed v t
failed_any v t s = failed_any_of v t s t.attempt

-- a step that fails ends the attempt
pub played_fail : {D : Type 0} {stands : D → List Effect → Type 0} {v : Variant} {w : List (List (List ℕ))} {r : Run} {t : Tally} {d : D} (p : ℕ) → Played stands v w r t d → point_at t.step ≡ Some p
    → (r' : Run) → r' ≡ hit r p → (a : Answer) (text : Option (Bor (List ℕ))) → a ≡ answer.Return text → replies r' ≡ replies r ++ reply_of_answer a ∷ []
    → GoesOn (reply_of_answer a) r' → ((es : List Effect) → state (failed v t) es ≡ on_return v t es t.step) → Played stands v w r' (failed v (at_step t Over)) d
played_fail {v = v} {w = w} {r = r} {t = t} {d = d} p k at r' same a text is told goes_on fails =
    played_return p k at r' same a text is told goes_on _ _ (λ es holds. shows_as _ _ _ _ (fails es) (record { tally = failed_any v t Over; device = holds }))

-- names lead where the effects have led them
abbrev pub AreLed : {D : Type 0} → (D → List Effect → Type 0) → (D → List Entry) → Type 0
AreLed {D} stands names = (d : D) (es : List Effect) (n : ℕ) → stands d es → (entry_at (names d) n).live ≡ leads es Live n

is_there_on : {D : Type 0} {stands : D → List Effect → Type 0} (names : D → List Entry) → AreLed stands names → (n : ℕ) (d : D) (es : List Effect) (b : Bool) → stands d es
    → is_some (entry_at (names d) n).live ≡ b → is_there n es ≡ b
is_there_on names led n d es b k e = ap is_some (sym (led d es n k)) ∙ e

pub shows_looked : {D : Type 0} {stands : D → List Effect → Type 0} (names : D → List Entry) → AreLed stands names → (v : Variant) (t : Tally) (d : D) (b : Bool)
    → is_some (entry_at (names d) (written_of v t)).live ≡ b → (t' : Tally) → t' ≡ looked b v t
    → (es : List Effect) → stands d es → Shows stands (state (looked (is_there (written_of v t) es) v t) es) t' d
shows_looked names led v t d b e t' is es k =
    record { tally = is ∙ ap (λ (x : Bool). looked x v t) (sym (is_there_on names led (written_of v t) d es b k e)); device = k }

pub shows_linked : {D : Type 0} {stands : D → List Effect → Type 0} (names : D → List Entry) → AreLed stands names → (v : Variant) (t : Tally) (d d' : D) (b : Bool)
    → is_some (entry_at (names d) (new_of v t)).live ≡ b → (es : List Effect) → stands d es
    → stands d' (linked b v t es).effects → Shows stands (linked (is_there (new_of v t) es) v t es) (linked b v t es).tally d'
shows_linked {stands = stands} names led v t d d' b e es k k' =
    let P : Bool → Type 0 = λ x. Shows stands (linked x v t es) (linked b v t es).tally d' in
    subst P (sym (is_there_on names led (new_of v t) d es b k e)) (record { tally = refl; device = k' })

-- what can't be taken away ends the attempt, or of deliver_in_new the run
pub stays_over : (v : Variant) (t : Tally) → v ≡ DeliverInNew → at_step t Over ≡ not_cleaned v t
stays_over v t e = ap (λ (x : Variant). not_cleaned x t) (sym e)

fails_by : (v u : Variant) (t : Tally) → v ≡ u → failed u t ≡ not_cleaned u t → failed v (at_step t Over) ≡ not_cleaned v t
fails_by v u t e same = failed_any v t Over ∙ subst (λ (x : Variant). failed x t ≡ not_cleaned x t) (sym e) same

pub fails_over : (v : Variant) (t : Tally) → (v ≡ Sound) ⊎ ((v ≡ LinkFirst) ⊎ ((v ≡ IgnoreWrite) ⊎ (v ≡ AppendTmp))) → failed v (at_step t Over) ≡ not_cleaned v t
fails_over v t (inl e) = fails_by v Sound t e refl
fails_over v t (inr (inl e)) = fails_by v LinkFirst t e refl
fails_over v t (inr (inr (inl e))) = fails_by v IgnoreWrite t e refl
fails_over v t (inr (inr (inr e))) = fails_by v AppendTmp t e refl

pub begun_acknowledged : (v : Variant) (t : Tally) (done : List ℕ) → done ≡ t.acknowledged ++ t.message ∷ []
    → begun v (record { step = Over; message = t.message; attempt = t.attempt; chunks = t.chunks; rest = t.rest; acknowledged = done }) ≡ begun v (acknowledged t)
begun_acknowledged v t done e =
    ap (λ (l : List ℕ). begun v (record { step = Over; message = t.message; attempt = t.attempt; chunks = t.chunks; rest = t.rest; acknowledged = l })) e
    ∙ begun_any v (acknowledged t) Over t.rest

-- a new run, on a device that was cleared
pub begins : {D : Type 0} {stands : D → List Effect → Type 0} (v : Variant) (w : List (List (List ℕ))) (r : Run) (d : D) → r ≡ start r.given → 7 ≤ length r.given.catalogue
    → replies r ≡ [] → stopped r ≡ None → stands d [] → Played stands v w r (begun v (before_all w)) d
begins v w r d new points none runs clear = record {
  effects = [];
  reached = record {
    asked = let P : Run → Type 0 = λ x. Follows (asks_of v w) x.given [] x.hits in subst P (sym new) tt;
    here = ap (after (machine v w)) none;
  };
  device = clear;
  running = running_at (point_at (begun v (before_all w)).step) r runs;
  points = points;
}
