-- A run that is cut short has a halt among its answers: so where nothing is asked after a halt, whoever hits what is asked is never cut short before.
use Rattle.std.proofs.Common.{◌≡◌, ℕ, Bool, true, false, cond, List, [], ◌∷◌, ◌++◌, map, Option, Some, None, inl, inr, ◌⊎◌, refl, ap, sym, ◌∙◌, subst}
use Rattle.std.specs.Option.{option_or}
use Rattle.std.proofs.lemmas.Bool.{cases_Bool}
use Rattle.std.proofs.lemmas.List.{append-nil}
use Rattle.scenario_values.specs.declared.term.Task.{Task}
use Rattle.scenario_values.specs.declared.term.Task.TheVariants as task
use Rattle.action_eval.specs.declared.answer.Stop.{Stop}
use Rattle.action_eval.specs.declared.answer.Stop.TheVariants as stop
use Rattle.action_eval.specs.Answers.{Given, Run, Hit, Reply, Halt, replies, reply_of, stop_of, stopped_by, is_over, history_of, cuts_short, is_cut_short}
use Rattle.target_trait.specs.declared.judgement.Judgement.{Judgement}
use Rattle.target_trait.specs.declared.judgement.Judgement.TheVariants.{Kept}
use Rattle.target_trait.specs.Play.{Move, Ask, Done, Follows, FollowsOn, IsDone, IsPlay, IsCutPlay, IsWhole, EndsSo, MayFollowHalt}

record Halted (answers : List Reply) : Type 0 where
  before : List Reply
  rest : List Reply
  is : answers ≡ before ++ Halt ∷ rest

later : (a : Reply) (answers : List Reply) → Halted answers → Halted (a ∷ answers)
later a answers h = record { before = a ∷ h.before; rest = h.rest; is = ap (λ (l : List Reply). a ∷ l) h.is }

halts_here : (t : Task) (s : Stop) → stop_of t ≡ Some s → reply_of t ≡ Halt
halts_here task.Off s e = absurd cc
halts_here (task.Return text) s e = absurd cc
halts_here (task.Sleep n) s e = absurd cc
halts_here (task.Panic text) s e = refl
halts_here (task.Print text) s e = absurd cc
halts_here task.Pause s e = refl
halts_here task.Yield s e = absurd cc
halts_here (task.Delay n) s e = absurd cc

either : (o q : Option Stop) (s : Stop) → option_or o q ≡ Some s → (o ≡ Some s) ⊎ (q ≡ Some s)
either (Some x) q s e = inl e
either None q s e = inr e

halted_by : (h : List Hit) (s : Stop) → stopped_by h ≡ Some s → Halted (map (λ (x : Hit). reply_of x.did) h)
halted_by [] s e = absurd cc
halted_by (x ∷ h) s e = elim (either (stopped_by h) (stop_of x.did) s e) [
  | inl more ↦ later (reply_of x.did) (map (λ (y : Hit). reply_of y.did) h) (halted_by h s more)
  | inr here ↦
      record {
        before = [];
        rest = map (λ (y : Hit). reply_of y.did) h;
        is = ap (λ (a : Reply). a ∷ map (λ (y : Hit). reply_of y.did) h) (halts_here x.did s here);
      }
]

by_stop : (h : List Hit) (o : Option Stop) → stopped_by h ≡ o → cuts_short o ≡ true → Halted (map (λ (x : Hit). reply_of x.did) h)
by_stop h None is e = absurd cc
by_stop h (Some s) is e = halted_by h s is

by_over : (b : Bool) (h : List Hit) → cuts_short (cond b (Some stop.Limit) (stopped_by h)) ≡ true → Halted (map (λ (x : Hit). reply_of x.did) h ++ cond b (Halt ∷ []) [])
by_over true h e = record { before = map (λ (x : Hit). reply_of x.did) h; rest = []; is = refl }
by_over false h e = subst Halted (sym (append-nil (map (λ (x : Hit). reply_of x.did) h))) (by_stop h (stopped_by h) refl e)

halted : (r : Run) → is_cut_short r ≡ true → Halted (replies r)
halted r e = by_over (is_over r) (history_of r) e

abbrev pub Halts : (List Reply → Move) → Type 0
Halts asks = (before rest : List Reply) → IsDone (asks (before ++ Halt ∷ rest))

pub uncut : (asks : List Reply → Move) → Halts asks → (r : Run) (p : ℕ) → asks (replies r) ≡ Ask p → is_cut_short r ≡ false
uncut asks halts r p e = elim (cases_Bool (is_cut_short r)) [
  | inl short ↦
      let h = halted r short in
      let no : ⊥ = subst IsDone (ap asks (sym h.is) ∙ e) (halts h.before h.rest) in
      absurd no
  | inr none ↦ none
]

pub follows_on : (asks : List Reply → Move) → Halts asks → (g : Given) (done ps : List ℕ) → Follows asks g done ps → FollowsOn asks g done ps
follows_on asks halts g done [] f = tt
follows_on asks halts g done (p ∷ ps) f =
    let r : Run = record { given = g; hits = done } in
    (ap (λ b. cond b (Done Kept) (asks (replies r))) (uncut asks halts r p f.0) ∙ f.0, follows_on asks halts g (done ++ p ∷ []) ps f.1)

ends_so : (b : Bool) (move : Move) (j : Judgement) → move ≡ Done j → EndsSo b move j
ends_so true move j e = tt
ends_so false move j e = e

-- a whole run of what asks nothing after a halt
pub halting : (asks : List Reply → Move) → Halts asks → (r : Run) (j : Judgement) → IsPlay asks r j → IsCutPlay asks r j
halting asks halts r j is = record { asked = follows_on asks halts r.given [] r.hits is.asked; ended = ends_so (is_cut_short r) (asks (replies r)) j is.ended }

-- a whole run of a target, by its law
pub whole : (has_cut : Bool) (asks : List Reply → Move) → ((before rest : List Reply) → MayFollowHalt has_cut (asks (before ++ Halt ∷ rest)))
    → (r : Run) (j : Judgement) → IsWhole has_cut asks r j → IsCutPlay asks r j
whole true asks law r j is = is
whole false asks law r j is = halting asks law r j is
