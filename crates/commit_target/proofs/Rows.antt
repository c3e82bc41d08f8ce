-- The same record written to participants in a row: each of these logs has it once, and the others are as they were.
use Rattle.std.proofs.Common.{true, ◌≡◌, ◌⊎◌, ◌<◌, ◌≤◌, ℕ, zero, suc, ◌+◌, Bool, cond, List, ◌∷◌, length, set, refl, ap, sym, ◌∙◌, subst, arith, inl, inr}
use Rattle.std.proofs.lemmas.Bool.{eq-eqb, ne_eqb, cases_eq, cases_lt}
use Rattle.std.proofs.lemmas.List.{get_or-set_same, get_or-set_other}
use Rattle.sim_device.specs.LogEffects.{LogEffect, Log, LogStandsFor, AddsLogEffect}
use Rattle.sim_device.specs.LogEffects as effect
use Rattle.commit_target.specs.declared.marked.Manner.{Manner}
use Rattle.commit_target.specs.declared.marked.Manner.TheVariants.{Append, Force}
use Rattle.commit_target.specs.declared.records.Record.{Record}
use Rattle.commit_target.specs.declared.records.PendingRecord.{PendingRecord}
use Rattle.commit_target.specs.declared.records.Party.TheVariants.{Participant}
use Rattle.commit_target.specs.declared.records.Write.{Write}
use Rattle.commit_target.specs.Writes.{Event, Written, AllLogs, LogsStandFor, on_coordinator, on_participant, pending, log_at}
use Rattle.commit_target.specs.inside.Batches.{effect_of, write_of, all_written, AddsAll, AddsRow}
use Rattle.commit_target.specs.inside.Held.{noted_each}
use Rattle.commit_target.proofs.Noting.{one_noted}

-- each write has this effect on the log of the participant of its number, and on no other
pub record IsRow (w : ℕ → Write) (effect : LogEffect Record) : Type 0 where
  pub coordinator : (j : ℕ) (es : List Event) → on_coordinator (Written (w j) ∷ es) ≡ on_coordinator es
  pub own : (j : ℕ) (es : List Event) → on_participant (Written (w j) ∷ es) j ≡ effect ∷ on_participant es j
  pub others : (j n : ℕ) (es : List Event) → (n ≡ j → ⊥) → on_participant (Written (w j) ∷ es) n ≡ on_participant es n

pub writes : (m : Manner) (r : Record) → IsRow (λ i. write_of m (Participant i) r) (effect_of m r)
writes Append r = record {
  coordinator = λ j es. refl;
  own = λ j es. ap (λ (b : Bool). cond b (effect.Append r ∷ on_participant es j) (on_participant es j)) (eq-eqb j j refl);
  others = λ j n es apart. ap (λ (b : Bool). cond b (effect.Append r ∷ on_participant es n) (on_participant es n)) (ne_eqb n j apart);
}
writes Force r = record {
  coordinator = λ j es. refl;
  own = λ j es. ap (λ (b : Bool). cond b (effect.Force r ∷ on_participant es j) (on_participant es j)) (eq-eqb j j refl);
  others = λ j n es apart. ap (λ (b : Bool). cond b (effect.Force r ∷ on_participant es n) (on_participant es n)) (ne_eqb n j apart);
}

on_none : (w : ℕ → Write) (effect : LogEffect Record) → IsRow w effect → (i count : ℕ) (es : List Event) → on_coordinator (all_written w i count es) ≡ on_coordinator es
on_none w effect row i zero es = refl
on_none w effect row i (suc m) es = on_none w effect row (i + 1) m (Written (w i) ∷ es) ∙ row.coordinator i es

on_below : (w : ℕ → Write) (effect : LogEffect Record) → IsRow w effect → (n i count : ℕ) (es : List Event) → n < i
    → on_participant (all_written w i count es) n ≡ on_participant es n
on_below w effect row n i zero es h = refl
on_below w effect row n i (suc m) es h = on_below w effect row n (i + 1) m (Written (w i) ∷ es) (omega arith) ∙ row.others i n es (λ e. omega arith)

on_above : (w : ℕ → Write) (effect : LogEffect Record) → IsRow w effect → (n i count : ℕ) (es : List Event) → i + count ≤ n
    → on_participant (all_written w i count es) n ≡ on_participant es n
on_above w effect row n i zero es h = refl
on_above w effect row n i (suc m) es h = on_above w effect row n (i + 1) m (Written (w i) ∷ es) (omega arith) ∙ row.others i n es (λ e. omega arith)

on_these : (w : ℕ → Write) (effect : LogEffect Record) → IsRow w effect → (n i count : ℕ) (es : List Event) → i ≤ n → n < i + count
    → on_participant (all_written w i count es) n ≡ effect ∷ on_participant es n
on_these w effect row n i zero es from below = absurd (omega arith)
on_these w effect row n i (suc m) es from below = elim (cases_eq n i) [
  | inl e ↦
      on_below w effect row n (i + 1) m (Written (w i) ∷ es) (omega arith)
      ∙ subst (λ (x : ℕ). on_participant (Written (w x) ∷ es) n ≡ effect ∷ on_participant es n) e (row.own n es)
  | inr apart ↦
      on_these w effect row n (i + 1) m (Written (w i) ∷ es) (omega arith) (omega arith)
      ∙ ap (λ (l : List (LogEffect Record)). effect ∷ l) (row.others i n es apart)
]

-- which records are pending then
pub row_noted : (m : Manner) (r : Record) (i count : ℕ) (es : List Event)
    → pending (all_written (λ j. write_of m (Participant j) r) i count es) ≡ noted_each m r i count (pending es)
row_noted m r i zero es = refl
row_noted m r i (suc n) es =
    row_noted m r (i + 1) n (Written (write_of m (Participant i) r) ∷ es) ∙ ap (λ (x : List PendingRecord). noted_each m r (i + 1) n x) (one_noted m (Participant i) r es)

-- one log more
pub one_written : (old now : List (Log Record)) (effect : LogEffect Record) (first i : ℕ) (l l' : Log Record) → i < length now → l ≡ log_at old i
    → AddsLogEffect l l' effect → ((n : ℕ) → first ≤ n → n < i → AddsLogEffect (log_at old n) (log_at now n) effect)
    → (n : ℕ) → first ≤ n → n < i + 1 → AddsLogEffect (log_at old n) (log_at (set now i l') n) effect
one_written old now effect first i l l' there is adds done n from before = elim (cases_eq n i) [
  | inl e ↦
      subst (λ (x : ℕ). AddsLogEffect (log_at old x) (log_at (set now i l') x) effect) (sym e)
      (subst (λ (x : Log Record). AddsLogEffect (log_at old i) x effect) (sym (get_or-set_same now i l' _ there))
      (subst (λ (x : Log Record). AddsLogEffect x l' effect) is adds))
  | inr apart ↦
      subst (λ (x : Log Record). AddsLogEffect (log_at old n) x effect) (sym (get_or-set_other now i n l' _ apart)) (done n from (omega arith))
]

pub row_added : (old new : AllLogs) (w : ℕ → Write) (effect : LogEffect Record) → IsRow w effect → (i count end : ℕ) → end ≤ i + count
    → ((n : ℕ) → n < length old.participants → n < i + count → n < end) → new.coordinator ≡ old.coordinator
    → ((es : List Event) → (old.notes ≡ true → old.pending ≡ pending es) → new.notes ≡ true → new.pending ≡ pending (all_written w i count es))
    → AddsRow old.participants new.participants effect i end → AddsAll old new w i count
row_added old new w effect row i count end within all same notes adds = λ most es stands. record {
  enough = subst (λ (n : ℕ). most ≤ n) (sym adds.same) stands.enough;
  coordinator =
      subst (λ (l : Log Record). LogStandsFor l (on_coordinator (all_written w i count es))) (sym same)
      (subst (λ (x : List (LogEffect Record)). LogStandsFor old.coordinator x) (sym (on_none w effect row i count es)) stands.coordinator);
  participants = λ n h. at most es stands n h (cases_lt n i) (cases_lt n (i + count));
  pending = notes es stands.pending;
}
  where
    kept : (most : ℕ) (es : List Event) → LogsStandFor most old es → (n : ℕ) → n < most → log_at new.participants n ≡ log_at old.participants n
        → on_participant (all_written w i count es) n ≡ on_participant es n
        → LogStandsFor (log_at new.participants n) (on_participant (all_written w i count es) n)
    kept most es stands n h log_is effects_are =
        subst (λ (l : Log Record). LogStandsFor l (on_participant (all_written w i count es) n)) (sym log_is)
        (subst (λ (x : List (LogEffect Record)). LogStandsFor (log_at old.participants n) x) (sym effects_are) (stands.participants n h))

    at : (most : ℕ) (es : List Event) → LogsStandFor most old es → (n : ℕ) → n < most → (n < i) ⊎ (i ≤ n) → (n < i + count) ⊎ (i + count ≤ n)
        → LogStandsFor (log_at new.participants n) (on_participant (all_written w i count es) n)
    at most es stands n h (inl below) _ = kept most es stands n h (adds.below n below) (on_below w effect row n i count es below)
    at most es stands n h (inr from) (inr above) = kept most es stands n h (adds.above n from (omega arith)) (on_above w effect row n i count es above)
    at most es stands n h (inr from) (inl before) =
        let there : n < length old.participants = let e : most ≤ length old.participants = stands.enough in omega arith in
        subst (λ (x : List (LogEffect Record)). LogStandsFor (log_at new.participants n) x) (sym (on_these w effect row n i count es from before))
        (adds.written n from (all n there before) (on_participant es n) (stands.participants n h))
