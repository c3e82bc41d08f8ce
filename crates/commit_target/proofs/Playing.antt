-- A run, told as far as the steps have come.
use Rattle.std.proofs.Common.{◌≡◌, ◌<◌, ◌≤◌, nat_lt, ℕ, List, length, [], ◌∷◌, ◌++◌, Option, None, Some, Bor, Bool, true, false, cond, Result, Ok, Err, IsErrAnd, refl, ap, sym, ◌∙◌, subst}
use Rattle.std.proofs.lemmas.Bool.{lt-ltb, le-ltb}
use Rattle.std.proofs.lemmas.Result.{err_from_is_err_and}
use Rattle.commit_target.specs.declared.cut.Cut.{Cut}
use Rattle.action_eval.specs.Answers.{Run, Reply, Go, Halt, GoesOn, hit, replies, reply_of_answer}
use Rattle.action_eval.specs.declared.answer.Answer.{Answer}
use Rattle.action_eval.specs.declared.answer.Answer.TheVariants as answer
use Rattle.target_trait.specs.Play.{move_by}
use Rattle.target_trait.specs.Machine.{Reached}
use Rattle.target_trait.proofs.Machine.{reached_more}
use Rattle.target_trait.proofs.Running.{runs_go, runs_return}
use Rattle.commit_target.specs.declared.variant.Variant.{Variant}
use Rattle.commit_target.specs.declared.variant.Variant.TheVariants.{Sound, LazyPrepare, EarlyEnd, TwoTries, EndFirst}
use Rattle.commit_target.specs.declared.records.Kind.TheVariants as kind
use Rattle.commit_target.specs.declared.records.Party.TheVariants.{Coordinator}
use Rattle.commit_target.specs.declared.records.Write.{Write}
use Rattle.commit_target.specs.declared.records.Write.TheVariants.{Force}
use Rattle.commit_target.specs.Work.{Work}
use Rattle.commit_target.specs.Writes.{Written, AllLogs, AddsEvent, LogsStandFor}
use Rattle.commit_target.specs.Steps.{Step, SendPrepare, ForceCommit, committed, entry, after_phase, commit_to, Tally, State, opened, one_of, SendAck, Over, unacknowledged, next_of, after_commit_to, prepare_write, early_write, end_unless, machine, on_return, return_write, with_write, stepped, at_step, begun, point_at, judged_at}
use Rattle.commit_target.specs.inside.Seen.{OnCut, Leads, BothDue, Due, Stands, Ended, Answered}

-- the next answer
more : (v : Variant) (w : Work) (r : Run) (t : Tally) (l : AllLogs) (p : ℕ) → (k : Stands v w r t l) → point_at t.step ≡ Some p → (r' : Run) → r' ≡ hit r p → (a : Reply) → replies r' ≡ replies r ++ a ∷ []
    → Reached (machine v w) r' (stepped v w (record { tally = t; events = k.events }) a)
more v w r t l p k at r' same a said =
    let s : State = record { tally = t; events = k.events } in
    reached_more (machine v w) r s p k.here.reached (ap (move_by (judged_at w s)) at) r' same a said

points_stay : (r : Run) (p : ℕ) → 7 ≤ length r.given.catalogue → (r' : Run) → r' ≡ hit r p → 7 ≤ length r'.given.catalogue
points_stay r p known r' same = subst (λ (x : Run). 7 ≤ length x.given.catalogue) (sym same) known

pub answered_go : (v : Variant) (w : Work) (r : Run) (t : Tally) (l : AllLogs) (p : ℕ) → Stands v w r t l → point_at t.step ≡ Some p → (r' : Run) → r' ≡ hit r p → (a : Answer) → a ≡ answer.Go
    → replies r' ≡ replies r ++ reply_of_answer a ∷ [] → GoesOn (reply_of_answer a) r' → Answered v w r' t l true
answered_go v w r t l p k at r' same a is said goes = record {
  events = k.events;
  here = record {
    points = points_stay r p k.here.points r' same;
    running = runs_go a r' is goes;
    reached = more v w r t l p k at r' same Go (said ∙ ap (λ (x : Answer). replies r ++ reply_of_answer x ∷ []) is);
  };
  written = k.written;
}

returned : (v : Variant) (w : Work) (s : State) (text : Option (Bor (List ℕ))) → stepped v w s (reply_of_answer (answer.Return text))
    ≡ record { tally = on_return v w s.tally s.tally.step; events = with_write (return_write v w s.tally s.tally.step) s.events }
returned v w s None = refl
returned v w s (Some text) = refl

pub answered_return : (v : Variant) (w : Work) (r : Run) (t : Tally) (l : AllLogs) (p : ℕ) → Stands v w r t l → point_at t.step ≡ Some p → (r' : Run) → r' ≡ hit r p → (a : Answer) (text : Option (Bor (List ℕ))) → a ≡ answer.Return text
    → replies r' ≡ replies r ++ reply_of_answer a ∷ [] → GoesOn (reply_of_answer a) r' → Answered v w r' t l false
answered_return v w r t l p k at r' same a text is said goes = record {
  events = k.events;
  here = record {
    points = points_stay r p k.here.points r' same;
    running = runs_return a text r' is goes;
    reached =
        subst (Reached (machine v w) r') (returned v w (record { tally = t; events = k.events }) text)
        (more v w r t l p k at r' same (reply_of_answer (answer.Return text)) (said ∙ ap (λ (x : Answer). replies r ++ reply_of_answer x ∷ []) is));
  };
  written = k.written;
}

pub answered_halt : (v : Variant) (w : Work) (r : Run) (t : Tally) (l : AllLogs) (p : ℕ) → Stands v w r t l → point_at t.step ≡ Some p → (r' : Run) → r' ≡ hit r p → (a : Answer) → a ≡ answer.Halt
    → replies r' ≡ replies r ++ reply_of_answer a ∷ [] → Ended v w r' (at_step t Over) l
answered_halt v w r t l p k at r' same a is said = record {
  events = k.events;
  reached = more v w r t l p k at r' same Halt (said ∙ ap (λ (x : Answer). replies r ++ reply_of_answer x ∷ []) is);
  written = k.written;
}

-- what was due is written
pub written : (v : Variant) (w : Work) (r : Run) (t : Tally) (write : Write) (second : Option Write) (l l' : AllLogs) → BothDue v w r t (Some write) second l → (x : Write) → x ≡ write
    → AddsEvent l l' (Written x)
    → Due v w r t second l'
written v w r t write second l l' k x is adds = record {
  events = Written write ∷ k.events;
  here = k.here;
  written = subst (λ (y : Write). LogsStandFor w.participants l' (Written y ∷ k.events)) is (adds w.participants k.events k.written);
}

same_early : (v : Variant) (t : Tally) (step : Step) → early_write v (at_step t step) ≡ early_write v t
same_early Sound t step = refl
same_early LazyPrepare t step = refl
same_early EarlyEnd t step = refl
same_early TwoTries t step = refl
same_early EndFirst t step = refl

-- the commit record is forced
pub decided : (v : Variant) (w : Work) (r : Run) (t : Tally) (l l' : AllLogs) → Answered v w r (at_step t ForceCommit) l true → (x : Write)
    → x ≡ Force Coordinator (entry t kind.Commit)
    → AddsEvent l l' (Written x)
    → Due v w r (committed t) (early_write v t) l'
decided v w r t l l' k x is adds =
    subst (λ (o : Option Write). Due v w r (committed t) o l') (same_early v t ForceCommit)
    (written v w r (committed t) (Force Coordinator (entry t kind.Commit)) (early_write v (at_step t ForceCommit)) l l' k x is adds)

-- The same if nothing failed.
pub goes_on : (v : Variant) (w : Work) (r : Run) (t : Tally) (l : AllLogs) (goes : Bool) → goes ≡ true → Answered v w r t l goes → Answered v w r t l true
goes_on v w r t l true e k = k
goes_on v w r t l false e k = cc

-- If a run was cut off, so was what led to it.
pub cut_off : {X : Type 0} (result : Result X Cut) (on : X → Type 0) (halted : Type 0) (cut : Cut) → IsErrAnd result (λ x. x ≡ cut) → OnCut cut halted → Leads result on halted
cut_off result on halted cut is h = let p = err_from_is_err_and result is in rw (p.1, p.2) h

-- a participant acknowledges the commit, or it doesn't
abbrev pub Told : Variant → Work → Run → Tally → ℕ → AllLogs → Bool → Type 0
Told v w r t i l acknowledges =
    let u = cond acknowledges t (unacknowledged t) in
    Due v w r (after_commit_to v w u i) (end_unless v u u.acknowledged (next_of i w.participants)) l

pub same_prepare : (v : Variant) (t : Tally) (step : Step) (i : ℕ) → prepare_write v t i ≡ prepare_write v (at_step t step) i
same_prepare Sound t step i = refl
same_prepare LazyPrepare t step i = refl
same_prepare EarlyEnd t step i = refl
same_prepare TwoTries t step i = refl
same_prepare EndFirst t step i = refl

pub same_end : (v : Variant) (t : Tally) (step : Step) (all : Bool) (next : Option ℕ) → end_unless v (at_step t step) all next ≡ end_unless v t all next
same_end v t step all (Some i) = refl
same_end Sound t step all None = refl
same_end LazyPrepare t step all None = refl
same_end EarlyEnd t step all None = refl
same_end TwoTries t step all None = refl
same_end EndFirst t step all None = refl

-- ---- where the steps lead doesn't depend on the step

pub begun_step : (w : Work) (t : Tally) (step : Step) → begun w (at_step t step) ≡ begun w t
begun_step w t step = in_case (nat_lt t.begun (length w.transactions))
  where
    in_case : (more : Bool) → cond more (at_step (opened (at_step t step)) (SendPrepare 0)) (at_step (at_step t step) Over) ≡ cond more (at_step (opened t) (SendPrepare 0)) (at_step t Over)
    in_case true = refl
    in_case false = refl

phase_step : (v : Variant) (w : Work) (t : Tally) (step : Step) → after_phase v w (at_step t step) ≡ after_phase v w t
phase_step Sound w t step = begun_step w t step
phase_step LazyPrepare w t step = begun_step w t step
phase_step EarlyEnd w t step = begun_step w t step
phase_step TwoTries w t step = begun_step w t step
phase_step EndFirst w t step = ap (λ (u : Tally). cond t.acknowledged u (at_step t Over)) (begun_step w t step)

pub commit_at : (v : Variant) (w : Work) (t : Tally) (step : Step) (next : Option ℕ) → commit_to v w (at_step t step) next ≡ commit_to v w t next
commit_at v w t step (Some i) = refl
commit_at v w t step None = phase_step v w t step

lost_end : (v : Variant) (t : Tally) (step : Step) (next : Option ℕ) → end_unless v (at_step t step) false next ≡ end_unless v (unacknowledged t) false next
lost_end v t step (Some i) = refl
lost_end Sound t step None = refl
lost_end LazyPrepare t step None = refl
lost_end EarlyEnd t step None = refl
lost_end TwoTries t step None = refl
lost_end EndFirst t step None = refl

-- an outcome or an acknowledgement is lost, or the participant can't force its commit record
pub lost : (v : Variant) (w : Work) (r : Run) (t : Tally) (step : Step) (i : ℕ) (l : AllLogs)
    → Due v w r (after_commit_to v w (unacknowledged (at_step t step)) i) (end_unless v (at_step t step) false (next_of i w.participants)) l → Told v w r t i l false
lost v w r t step i l k =
    let next = next_of i w.participants in
    subst (λ (x : Tally). Due v w r x (end_unless v (unacknowledged t) false next) l) (commit_at v w (unacknowledged t) step next)
    (subst (λ (x : Option Write). Due v w r (after_commit_to v w (unacknowledged (at_step t step)) i) x l) (lost_end v t step next) k)

pub acknowledged : (v : Variant) (w : Work) (r : Run) (t : Tally) (i : ℕ) (l : AllLogs) (result : Result Bool Cut) (halted : Type 0)
    → Leads result (λ goes. Answered v w r (at_step t (SendAck i)) l goes) halted → Leads result (λ goes. Told v w r t i l goes) halted
acknowledged v w r t i l (Ok true) halted k =
    let next = next_of i w.participants in
    subst (λ (x : Tally). Due v w r x (end_unless v t t.acknowledged next) l) (commit_at v w t (SendAck i) next)
    (subst (λ (x : Option Write). Due v w r (after_commit_to v w (at_step t (SendAck i)) i) x l) (same_end v t (SendAck i) t.acknowledged next) k)
acknowledged v w r t i l (Ok false) halted k = lost v w r t (SendAck i) i l k
acknowledged v w r t i l (Err cut) halted k = k

-- ---- one after another

none_of : (i count : ℕ) → count ≤ i → one_of i count ≡ None
none_of i count h = ap (λ (b : Bool). cond b (Some i) None) (le-ltb i count h)

pub some_of : (i count : ℕ) → i < count → one_of i count ≡ Some i
some_of i count h = ap (λ (b : Bool). cond b (Some i) None) (lt-ltb i count h)

-- the end of so many
pub at_end : (v : Variant) (w : Work) (r : Run) (to : Option ℕ → Tally) (write : Option ℕ → Option Write) (l : AllLogs) (i count : ℕ) → count ≤ i
    → Due v w r (to (one_of i count)) (write (one_of i count)) l → Due v w r (to None) (write None) l
at_end v w r to write l i count h k = subst (λ (o : Option ℕ). Due v w r (to o) (write o) l) (none_of i count h) k

pub ended_by : (v : Variant) (w : Work) (r : Run) (t : Tally) (write : Option Write) (l l' : AllLogs) → Due v w r t write l → (x : Write) → Some x ≡ write → AddsEvent l l' (Written x) → Stands v w r t l'
ended_by v w r t write l l' k x is adds = written v w r t x None l l' (subst (λ (o : Option Write). Due v w r t o l) (sym is) k) x refl adds

-- the next transaction, and the end of them
pub next_begun : (v : Variant) (w : Work) (r : Run) (t : Tally) (l : AllLogs) → t.begun < length w.transactions → Stands v w r (begun w t) l → Stands v w r (at_step (opened t) (SendPrepare 0)) l
next_begun v w r t l h k = subst (λ (b : Bool). Stands v w r (cond b (at_step (opened t) (SendPrepare 0)) (at_step t Over)) l) (lt-ltb t.begun (length w.transactions) h) k

pub all_begun : (v : Variant) (w : Work) (r : Run) (t : Tally) (l : AllLogs) → length w.transactions ≤ t.begun → Stands v w r (begun w t) l → Ended v w r (at_step t Over) l
all_begun v w r t l h k =
    let over = subst (λ (b : Bool). Stands v w r (cond b (at_step (opened t) (SendPrepare 0)) (at_step t Over)) l) (le-ltb t.begun (length w.transactions) h) k in
    record { events = over.events; reached = over.here.reached; written = over.written }
