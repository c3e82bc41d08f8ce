-- Which records stand in a log after a write: a lasting record stays, and one that nobody writes is not there.
use Rattle.std.proofs.Common.{◌≡◌, ℕ, ◌==◌, Bool, true, false, ◌&&◌, cond, List, [], ◌∷◌, ◌++◌, refl, sym, ◌∙◌, subst}
use Rattle.std.proofs.lemmas.Bool.{eq-eqb, ne_eqb, or_left, or_right, or_from, and_left, and_right, and_from, false_from_ne_true}
use Rattle.std.proofs.lemmas.List.Folds.{list_any-append}
use Rattle.sim_device.specs.FileEffects.{Side, Live, Lasting}
use Rattle.sim_device.specs.LogEffects.{LogEffect, Append, Force, Restart, records}
use Rattle.commit_target.specs.declared.records.Record.{Record}
use Rattle.commit_target.specs.declared.records.Kind.{Kind}
use Rattle.commit_target.specs.declared.records.Party.TheVariants.{Coordinator, Participant}
use Rattle.commit_target.specs.declared.records.Write.{Write}
use Rattle.commit_target.specs.declared.records.Write.TheVariants as write
use Rattle.commit_target.specs.Writes.{Event, Written, on_coordinator, on_participant}
use Rattle.commit_target.specs.Judgement.{is_kind, has}

-- whether it is a record of this transaction and this kind
abbrev pub is_it : Record → ℕ → Kind → Bool
is_it r k kind = (r.transaction == k) && is_kind r.kind kind

-- whether the coordinator's log has such a record, and whether a participant's has one
abbrev pub decides : List Event → Side → ℕ → Kind → Bool
decides es side k kind = has (records (on_coordinator es) side) k kind

abbrev pub holds : List Event → ℕ → Side → ℕ → Kind → Bool
holds es n side k kind = has (records (on_participant es n) side) k kind

-- what is written
abbrev pub entry_of : Write → Record
entry_of (write.Append party r) = r
entry_of (write.Force party r) = r

-- ---- one record more

stays : (log : List Record) (r : Record) (k : ℕ) (kind : Kind) → has log k kind ≡ true → has (log ++ r ∷ []) k kind ≡ true
stays log r k kind h = list_any-append (λ x. is_it x k kind) log (r ∷ []) ∙ or_left _ _ h

added : (log : List Record) (r : Record) (k : ℕ) (kind : Kind) → is_it r k kind ≡ true → has (log ++ r ∷ []) k kind ≡ true
added log r k kind h = list_any-append (λ x. is_it x k kind) log (r ∷ []) ∙ or_right _ _ (or_left _ _ h)

spared : (log : List Record) (r : Record) (k : ℕ) (kind : Kind) → is_it r k kind ≡ false → has log k kind ≡ false → has (log ++ r ∷ []) k kind ≡ false
spared log r k kind other h = list_any-append (λ x. is_it x k kind) log (r ∷ []) ∙ or_from _ _ h (or_from _ _ other refl)

pub is_entry : (c : ℕ) (kind : Kind) → is_kind kind kind ≡ true → is_it (record { transaction = c; kind = kind }) c kind ≡ true
is_entry c kind same = and_from _ _ (eq-eqb c c refl) same

pub other_transaction : (r : Record) (k : ℕ) → (k ≡ r.transaction → ⊥) → (kind : Kind) → is_it r k kind ≡ false
other_transaction r k apart kind = and_left _ _ (ne_eqb r.transaction k (λ e. apart (sym e)))

pub other_kind : (r : Record) (k : ℕ) (kind : Kind) → is_kind r.kind kind ≡ false → is_it r k kind ≡ false
other_kind r k kind apart = and_right _ _ apart

-- ---- what lasts is there

lasting_live : (es : List (LogEffect Record)) (k : ℕ) (kind : Kind) → has (records es Lasting) k kind ≡ true → has (records es Live) k kind ≡ true
lasting_live [] k kind h = h
lasting_live (Append r ∷ es) k kind h = stays (records es Live) r k kind (lasting_live es k kind h)
lasting_live (Force r ∷ es) k kind h = h
lasting_live (Restart ∷ es) k kind h = h

true_false : (b : Bool) → b ≡ true → b ≡ false → ⊥
true_false b p q = cc

never_lasts : (es : List (LogEffect Record)) (k : ℕ) (kind : Kind) → has (records es Live) k kind ≡ false → has (records es Lasting) k kind ≡ false
never_lasts es k kind h = false_from_ne_true _ (λ e. true_false _ (lasting_live es k kind e) h)

pub decides_never : (es : List Event) (k : ℕ) (kind : Kind) → decides es Live k kind ≡ false → decides es Lasting k kind ≡ false
decides_never es k kind h = never_lasts (on_coordinator es) k kind h

pub holds_never : (es : List Event) (n k : ℕ) (kind : Kind) → holds es n Live k kind ≡ false → holds es n Lasting k kind ≡ false
holds_never es n k kind h = never_lasts (on_participant es n) k kind h

-- ---- a write of one party

pub decides_stays : (w : Write) (es : List Event) (k : ℕ) (kind : Kind) → decides es Lasting k kind ≡ true → decides (Written w ∷ es) Lasting k kind ≡ true
decides_stays (write.Append Coordinator r) es k kind h = h
decides_stays (write.Append (Participant m) r) es k kind h = h
decides_stays (write.Force Coordinator r) es k kind h = stays (records (on_coordinator es) Live) r k kind (lasting_live (on_coordinator es) k kind h)
decides_stays (write.Force (Participant m) r) es k kind h = h

pub decides_spared : (w : Write) (es : List Event) (k : ℕ) (kind : Kind) → is_it (entry_of w) k kind ≡ false → decides es Live k kind ≡ false
    → decides (Written w ∷ es) Live k kind ≡ false
decides_spared (write.Append Coordinator r) es k kind other h = spared (records (on_coordinator es) Live) r k kind other h
decides_spared (write.Append (Participant m) r) es k kind other h = h
decides_spared (write.Force Coordinator r) es k kind other h = spared (records (on_coordinator es) Live) r k kind other h
decides_spared (write.Force (Participant m) r) es k kind other h = h

append_stays : (b : Bool) (es : List (LogEffect Record)) (r : Record) (k : ℕ) (kind : Kind) → has (records es Lasting) k kind ≡ true
    → has (records (cond b (Append r ∷ es) es) Lasting) k kind ≡ true
append_stays true es r k kind h = h
append_stays false es r k kind h = h

force_stays : (b : Bool) (es : List (LogEffect Record)) (r : Record) (k : ℕ) (kind : Kind) → has (records es Lasting) k kind ≡ true
    → has (records (cond b (Force r ∷ es) es) Lasting) k kind ≡ true
force_stays true es r k kind h = stays (records es Live) r k kind (lasting_live es k kind h)
force_stays false es r k kind h = h

pub holds_stays : (w : Write) (es : List Event) (n k : ℕ) (kind : Kind) → holds es n Lasting k kind ≡ true → holds (Written w ∷ es) n Lasting k kind ≡ true
holds_stays (write.Append Coordinator r) es n k kind h = h
holds_stays (write.Append (Participant m) r) es n k kind h = append_stays (n == m) (on_participant es n) r k kind h
holds_stays (write.Force Coordinator r) es n k kind h = h
holds_stays (write.Force (Participant m) r) es n k kind h = force_stays (n == m) (on_participant es n) r k kind h

append_spared : (b : Bool) (es : List (LogEffect Record)) (r : Record) (k : ℕ) (kind : Kind) → is_it r k kind ≡ false
    → has (records es Live) k kind ≡ false → has (records (cond b (Append r ∷ es) es) Live) k kind ≡ false
append_spared true es r k kind other h = spared (records es Live) r k kind other h
append_spared false es r k kind other h = h

force_spared : (b : Bool) (es : List (LogEffect Record)) (r : Record) (k : ℕ) (kind : Kind) → is_it r k kind ≡ false
    → has (records es Live) k kind ≡ false → has (records (cond b (Force r ∷ es) es) Live) k kind ≡ false
force_spared true es r k kind other h = spared (records es Live) r k kind other h
force_spared false es r k kind other h = h

pub holds_spared : (w : Write) (es : List Event) (n k : ℕ) (kind : Kind) → is_it (entry_of w) k kind ≡ false → holds es n Live k kind ≡ false
    → holds (Written w ∷ es) n Live k kind ≡ false
holds_spared (write.Append Coordinator r) es n k kind other h = h
holds_spared (write.Append (Participant m) r) es n k kind other h = append_spared (n == m) (on_participant es n) r k kind other h
holds_spared (write.Force Coordinator r) es n k kind other h = h
holds_spared (write.Force (Participant m) r) es n k kind other h = force_spared (n == m) (on_participant es n) r k kind other h

-- ---- a forced record lasts

pub decided : (r : Record) (es : List Event) (k : ℕ) (kind : Kind) → is_it r k kind ≡ true
    → decides (Written (write.Force Coordinator r) ∷ es) Lasting k kind ≡ true
decided r es k kind h = added (records (on_coordinator es) Live) r k kind h

pub held : (r : Record) (es : List Event) (n k : ℕ) (kind : Kind) → is_it r k kind ≡ true
    → holds (Written (write.Force (Participant n) r) ∷ es) n Lasting k kind ≡ true
held r es n k kind h =
    let log : List (LogEffect Record) = on_participant es n in
    subst (λ (b : Bool). has (records (cond b (Force r ∷ log) log) Lasting) k kind ≡ true) (sym (eq-eqb n n refl)) (added (records log Live) r k kind h)
