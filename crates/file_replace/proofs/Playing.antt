-- A run, told as far as it has come.
use Rattle.std.proofs.Common.{◌≡◌, ℕ, zero, suc, ◌<◌, ◌≤◌, List, [], ◌∷◌, ◌++◌, length, take, drop, replicate, Option, None, Some, Bor, refl, ap, sym, ◌∙◌, subst, arith, length-append, Result, Ok, Err, OnOk}
use Rattle.sim_device.specs.FileEffects.{Effect, Append}
use Rattle.sim_device.specs.Disk.{Disk, StandsFor, AddsEffect}
use Rattle.sim_device.proofs.Appends.{appended, stands_appended}
use Rattle.scenario_values.specs.chunked.Chunks.{joined}
use Rattle.file_replace.specs.inside.Devices.{Adds, with_chunks}
use Rattle.action_eval.specs.Answers.{Run, Reply, Go, Halt, GoesOn, AllGo, start, hit, hits_of, replies, stopped, reply_of_answer}
use Rattle.action_eval.specs.declared.answer.Answer.{Answer}
use Rattle.action_eval.specs.declared.answer.Answer.TheVariants as answer
use Rattle.target_trait.specs.declared.judgement.Judgement.{Judgement}
use Rattle.target_trait.specs.Play.{Ask, Done, IsPlay, IsRunning, move_by}
use Rattle.target_trait.specs.Machine.{Reached, AsksInTurn}
use Rattle.target_trait.proofs.Machine.{reached_first, reached_more, reached_on, reached_end, gone}
use Rattle.target_trait.proofs.Running.{runs_go, runs_return, running_at}
use Rattle.file_replace.specs.declared.variant.Variant.{Variant}
use Rattle.file_replace.specs.Words.{written_name, write_point}
use Rattle.file_replace.specs.Work.{Work}
use Rattle.file_replace.specs.Judgement.{judged}
use Rattle.file_replace.specs.Steps.{Step, Clearing, Creating, Writing, WritingAgain, Syncing, Renaming, SyncingRenamed, SyncingDir, SyncingLate, Cleaning, Over, Tally, State, state, on_go, on_return, stepped, at_step, write_step, begun, is_there, before_all, prepared, start_of, machine, move_of, point_at, asks_of}
use Rattle.file_replace.specs.inside.Seen.{Shows, Played}

asks_point : (t : Tally) (es : List Effect) (p : ℕ) → point_at t.step ≡ Some p → move_of (state t es) ≡ Ask p
asks_point t es p e = ap (move_by (judged t.past es)) e

asks_none : (t : Tally) (es : List Effect) → point_at t.step ≡ None → move_of (state t es) ≡ Done (judged t.past es)
asks_none t es e = ap (move_by (judged t.past es)) e

known_of : (q p n : ℕ) → Some q ≡ Some p → q < 7 → 7 ≤ n → p < n
known_of q p n e few h = let is : q ≡ p = cc in omega (arith, is, few, h)

-- each question is of one of the seven points, which are among those of the session
pub known_point : (step : Step) (p n : ℕ) → point_at step ≡ Some p → 7 ≤ n → p < n
known_point (Clearing chunks) p n e h = known_of 0 p n e (omega arith) h
known_point (Creating chunks) p n e h = known_of 1 p n e (omega arith) h
known_point (Writing c cs) p n e h = known_of 2 p n e (omega arith) h
known_point (WritingAgain c cs) p n e h = known_of 2 p n e (omega arith) h
known_point Syncing p n e h = known_of 3 p n e (omega arith) h
known_point Renaming p n e h = known_of 4 p n e (omega arith) h
known_point SyncingRenamed p n e h = known_of 3 p n e (omega arith) h
known_point SyncingDir p n e h = known_of 5 p n e (omega arith) h
known_point SyncingLate p n e h = known_of 3 p n e (omega arith) h
known_point Cleaning p n e h = known_of 6 p n e (omega arith) h
known_point Over p n e h = absurd cc

-- a run that has just begun
pub played_first : {D : Type 0} {stands : D → List Effect → Type 0} (v : Variant) (w : Work) (r : Run) (t : Tally) (d : D) → r ≡ start r.given → replies (start r.given) ≡ [] → stopped r ≡ None
    → t ≡ begun (is_there v (prepared w.old)) (before_all w) → stands d (prepared w.old) → Played stands v w r t d
played_first v w r t d new none runs t_is device =
    let P : Run → Type 0 = λ x. Reached (machine v w) x (start_of v w) in
    let Q : Tally → Type 0 = λ x. Reached (machine v w) r (state x (prepared w.old)) in
    record {
      effects = prepared w.old;
      reached = subst Q (sym t_is) (subst P (sym new) (reached_first (machine v w) r.given none));
      device = device;
      running = running_at (point_at t.step) r runs;
    }

-- one answer more
played_more : {D : Type 0} {stands : D → List Effect → Type 0} (v : Variant) (w : Work) (r : Run) (t : Tally) (d : D) (p : ℕ) (k : Played stands v w r t d) → point_at t.step ≡ Some p → (r' : Run) → r' ≡ hit r p → (a : Reply) → replies r' ≡ replies r ++ a ∷ []
    → (t' : Tally) (d' : D) → Shows stands (stepped v (state t k.effects) a) t' d' → IsRunning (point_at t'.step) r' → Played stands v w r' t' d'
played_more v w r t d p k at r' same a told t' d' shows running =
    let s : State = stepped v (state t k.effects) a in
    let P : Tally → Type 0 = λ x. Reached (machine v w) r' (state x s.effects) in
    record {
      effects = s.effects;
      reached = subst P (sym shows.tally) (reached_more (machine v w) r (state t k.effects) p k.reached (asks_point t k.effects p at) r' same a told);
      device = shows.device;
      running = running;
    }

pub played_go : {D : Type 0} {stands : D → List Effect → Type 0} (v : Variant) (w : Work) (r : Run) (t : Tally) (d : D) (p : ℕ) → Played stands v w r t d → point_at t.step ≡ Some p → (r' : Run) → r' ≡ hit r p → (a : Answer) → a ≡ answer.Go → replies r' ≡ replies r ++ reply_of_answer a ∷ []
    → GoesOn (reply_of_answer a) r' → (t' : Tally) (d' : D) → ((es : List Effect) → stands d es → Shows stands (on_go v t es t.step) t' d') → Played stands v w r' t' d'
played_go v w r t d p k at r' same a is more goes_on t' d' goes =
    let told : replies r' ≡ replies r ++ Go ∷ [] = more ∙ ap (λ (x : Answer). replies r ++ reply_of_answer x ∷ []) is in
    played_more v w r t d p k at r' same Go told t' d' (goes k.effects k.device) (running_at (point_at t'.step) r' (runs_go a r' is goes_on))

return_step : (v : Variant) (s : State) (text : Option (Bor (List ℕ))) → on_return v s.tally s.effects s.tally.step ≡ stepped v s (reply_of_answer (answer.Return text))
return_step v s None = refl
return_step v s (Some text) = refl

pub played_return : {D : Type 0} {stands : D → List Effect → Type 0} (v : Variant) (w : Work) (r : Run) (t : Tally) (d : D) (p : ℕ) → Played stands v w r t d → point_at t.step ≡ Some p → (r' : Run) → r' ≡ hit r p → (a : Answer) (text : Option (Bor (List ℕ))) → a ≡ answer.Return text → replies r' ≡ replies r ++ reply_of_answer a ∷ []
    → GoesOn (reply_of_answer a) r' → (t' : Tally) (d' : D) → ((es : List Effect) → stands d es → Shows stands (on_return v t es t.step) t' d') → Played stands v w r' t' d'
played_return {stands = stands} v w r t d p k at r' same a text is more goes_on t' d' fails =
    let told : replies r' ≡ replies r ++ reply_of_answer (answer.Return text) ∷ [] = more ∙ ap (λ (x : Answer). replies r ++ reply_of_answer x ∷ []) is in
    let shows = subst (λ (s : State). Shows stands s t' d') (return_step v (state t k.effects) text) (fails k.effects k.device) in
    played_more v w r t d p k at r' same (reply_of_answer (answer.Return text)) told t' d' shows (running_at (point_at t'.step) r' (runs_return a text r' is goes_on))

pub played_halt : {D : Type 0} {stands : D → List Effect → Type 0} (v : Variant) (w : Work) (r : Run) (t : Tally) (d : D) (p : ℕ) → Played stands v w r t d → point_at t.step ≡ Some p → (r' : Run) → r' ≡ hit r p → (a : Answer) → a ≡ answer.Halt → replies r' ≡ replies r ++ reply_of_answer a ∷ []
    → (t' : Tally) → t' ≡ at_step t Over → Played stands v w r' t' d
played_halt v w r t d p k at r' same a is more t' t'_is =
    let told : replies r' ≡ replies r ++ Halt ∷ [] = more ∙ ap (λ (x : Answer). replies r ++ reply_of_answer x ∷ []) is in
    played_more v w r t d p k at r' same Halt told t' d (record { tally = t'_is; device = k.device }) (subst (λ (x : Tally). IsRunning (point_at x.step) r') (sym t'_is) tt)

-- a chunk is written whole
pub wrote : {D : Type 0} {stands : D → List Effect → Type 0} (v : Variant) (w : Work) (r : Run) (t : Tally) (d : D) (c : List ℕ) (cs : List (List ℕ)) → Played stands v w r (at_step t (Writing c cs)) d
    → (r' : Run) → r' ≡ hit r write_point → (a : Answer) → a ≡ answer.Go → replies r' ≡ replies r ++ reply_of_answer a ∷ [] → GoesOn (reply_of_answer a) r'
    → (d' : D) → Adds stands d d' (Append (written_name v) c) → Played stands v w r' (at_step t (write_step v cs)) d'
wrote v w r t d c cs k r' same a is more goes_on d' adds =
    played_go v w r (at_step t (Writing c cs)) d write_point k refl r' same a is more goes_on (at_step t (write_step v cs)) d' (λ es h. record { tally = refl; device = adds es h })

-- ---- several chunks at once

asks_writes : (v : Variant) (w : Work) (t : Tally) (n : ℕ) (cs : List (List ℕ)) (es : List Effect) → n ≤ length cs → AsksInTurn (machine v w) (state (at_step t (write_step v cs)) es) (replicate n write_point)
asks_writes v w t zero cs es few = tt
asks_writes v w t (suc n) [] es few = let no : ⊥ = omega (arith, few) in elim no [ ]
asks_writes v w t (suc n) (c ∷ cs) es few = (refl, asks_writes v w t n cs (Append (written_name v) c ∷ es) (omega (arith, few)))

writes_on : (v : Variant) (w : Work) (t : Tally) (n : ℕ) (cs : List (List ℕ)) (es : List Effect) → n ≤ length cs
    → gone (machine v w) (state (at_step t (write_step v cs)) es) (replicate n write_point) ≡ state (at_step t (write_step v (drop n cs))) (with_chunks (written_name v) (take n cs) es)
writes_on v w t zero cs es few = refl
writes_on v w t (suc n) [] es few = let no : ⊥ = omega (arith, few) in elim no [ ]
writes_on v w t (suc n) (c ∷ cs) es few = writes_on v w t n cs (Append (written_name v) c ∷ es) (omega (arith, few))

-- Some of the chunks that are left, written at once.
pub played_on : {D : Type 0} {stands : D → List Effect → Type 0} (v : Variant) (w : Work) (r : Run) (t : Tally) (d : D) (cs : List (List ℕ)) (n : ℕ) → Played stands v w r (at_step t (write_step v cs)) d → n ≤ length cs
    → (r' : Run) → r' ≡ hits_of r (replicate n write_point) → AllGo r (replicate n write_point) → stopped r' ≡ None
    → (d' : D) → ((es : List Effect) → stands d es → stands d' (with_chunks (written_name v) (take n cs) es))
    → (rest : List (List ℕ)) → rest ≡ drop n cs → (step : Step) → step ≡ write_step v rest → Played stands v w r' (at_step t step) d'
played_on v w r t d cs n k few r' same goes runs d' adds rest rest_is step step_is =
    let effects : List Effect = with_chunks (written_name v) (take n cs) k.effects in
    let now : step ≡ write_step v (drop n cs) = step_is ∙ ap (write_step v) rest_is in
    let P : State → Type 0 = λ s. Reached (machine v w) (hits_of r (replicate n write_point)) s in
    let Q : Step → Type 0 = λ s. Reached (machine v w) (hits_of r (replicate n write_point)) (state (at_step t s) effects) in
    let R : Run → Type 0 = λ x. Reached (machine v w) x (state (at_step t step) effects) in
    let reached = subst P (writes_on v w t n cs k.effects few)
    (reached_on (machine v w) (replicate n write_point) r (state (at_step t (write_step v cs)) k.effects) k.reached (asks_writes v w t n cs k.effects few) goes) in
    record {
      effects = effects;
      reached = subst R (sym same) (subst Q (sym now) reached);
      device = adds k.effects k.device;
      running = running_at (point_at step) r' runs;
    }

pub played_over : {D : Type 0} {stands : D → List Effect → Type 0} (v : Variant) (w : Work) (r : Run) (t : Tally) (d : D) → Played stands v w r t d → point_at t.step ≡ None
    → (j : Judgement) → ((es : List Effect) → stands d es → j ≡ judged t.past es) → IsPlay (asks_of v w) r j
played_over v w r t d k at j judges =
    reached_end (machine v w) r (state t k.effects) j k.reached (asks_none t k.effects at ∙ ap Done (sym (judges k.effects k.device)))

-- the same, told of the step that it is
pub writing_now : {D : Type 0} {stands : D → List Effect → Type 0} (v : Variant) (w : Work) (r : Run) (t : Tally) (d : D) (step next : Step) → Played stands v w r (at_step t step) d → step ≡ next → Played stands v w r (at_step t next) d
writing_now {stands = stands} v w r t d step next k is = let P : Step → Type 0 = λ s. Played stands v w r (at_step t s) d in subst P is k

pub more_hits : (n : ℕ) (r r' : Run) (ps : List ℕ) → r' ≡ hits_of r ps → n ≤ length r.hits → n ≤ length r'.hits
more_hits n r r' ps same few = let P : Run → Type 0 = λ x. n ≤ length x.hits in subst P (sym same) (omega (arith, length-append r.hits ps))

-- several chunks appended by one call
with_parts : (name : ℕ) (chunks : List (List ℕ)) (es : List Effect) → appended name chunks es ≡ with_chunks name chunks es
with_parts name [] es = refl
with_parts name (chunk ∷ chunks) es = with_parts name chunks (Append name chunk ∷ es)

pub ok_weaker : {P Q T E : Type 0} (r : Result T E) → (P → Q) → OnOk r P → OnOk r Q
ok_weaker (Ok x) f h = f h
ok_weaker (Err x) f h = tt

pub chunks_appended : {E : Type 0} (r : Result (Unit {0}) E) (d d' : Disk) (chunks : List (List ℕ)) (bytes : List ℕ) (name place : ℕ) → bytes ≡ joined chunks → name ≡ place
    → OnOk r (AddsEffect d d' (Append name bytes)) → OnOk r ((es : List Effect) → StandsFor d es → StandsFor d' (with_chunks place chunks es))
chunks_appended r d d' chunks bytes name place bytes_are is h =
    let now : OnOk r (AddsEffect d d' (Append place (joined chunks))) =
    subst (λ (n : ℕ). OnOk r (AddsEffect d d' (Append n (joined chunks)))) is (subst (λ (b : List ℕ). OnOk r (AddsEffect d d' (Append name b))) bytes_are h) in
    ok_weaker r (λ adds es k. subst (StandsFor d') (with_parts place chunks es) (stands_appended d' place chunks es (adds es k))) now

-- the same state by either name of it, for this variant
pub shows_as : {D : Type 0} {stands : D → List Effect → Type 0} (one other : Variant → State) (v u : Variant) (t : Tally) (d : D) → v ≡ u → one u ≡ other u → Shows stands (one v) t d → Shows stands (other v) t d
shows_as {stands = stands} one other v u t d is same k = subst (λ (s : State). Shows stands s t d) (ap one is ∙ same ∙ sym (ap other is)) k
