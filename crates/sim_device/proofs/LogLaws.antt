-- Laws of log effects.
use Rattle.std.proofs.Common.{◌≡◌, List, [], ◌∷◌, ◌++◌, refl, ap, sym, subst, ◌∙◌, append_assoc, ℕ, ◌+◌, ◌≤◌, Bool, length, take, drop, ◌-◌, inl, inr, arith}
use Rattle.std.proofs.lemmas.Bool.{cases_lt}
use Rattle.std.proofs.lemmas.List.{append-nil, drop_at, length-drop, length-take-le, take_all, take-take}
use Rattle.std.proofs.Math.Seq.{take-add}
use Rattle.sim_device.specs.FileEffects.{Side, Live, Lasting}
use Rattle.sim_device.specs.LogEffects.{LogEffect, Append, Force, Restart, records, unforced, kept_front, survivors, Log, LogStandsFor, HasNoForce}

-- both sides of the log begin with these records
record Begins {R : Type 0} (effects : List (LogEffect R)) (front : List R) : Type 0 where
  live : (more : List R) × (records effects Live ≡ front ++ more)
  lasting : (more : List R) × (records effects Lasting ≡ front ++ more)

added : {R : Type 0} → (front : List R) (xs : List R) (r : R) → ((more : List R) × (xs ≡ front ++ more)) → (more : List R) × (xs ++ r ∷ [] ≡ front ++ more)
added front xs r h = (h.0 ++ r ∷ [], ap (λ ys. ys ++ r ∷ []) h.1 ∙ append_assoc front h.0 (r ∷ []))

begins : {R : Type 0} → (later before : List (LogEffect R)) (r : R) → Begins (later ++ Force r ∷ before) (records before Live ++ r ∷ [])
begins [] before r = record { live = ([], sym (append-nil (records before Live ++ r ∷ []))); lasting = ([], sym (append-nil (records before Live ++ r ∷ []))) }
begins (Append s ∷ later) before r =
    let k = begins later before r in record { live = added (records before Live ++ r ∷ []) (records (later ++ Force r ∷ before) Live) s k.live; lasting = k.lasting }
begins (Force s ∷ later) before r =
    let k = begins later before r in
    let more = added (records before Live ++ r ∷ []) (records (later ++ Force r ∷ before) Live) s k.live in
    record { live = more; lasting = more }
begins (Restart ∷ later) before r = let k = begins later before r in record { live = k.lasting; lasting = k.lasting }

pub forced_stay : {R : Type 0} → (later before : List (LogEffect R)) (r : R) (side : Side)
    → ((more : List R) × (records (later ++ Force r ∷ before) side ≡ (records before Live ++ r ∷ []) ++ more))
forced_stay later before r Live = (begins later before r).live
forced_stay later before r Lasting = (begins later before r).lasting

pub unforced_lost : {R : Type 0} → (later before : List (LogEffect R)) → HasNoForce later → records (later ++ before) Lasting ≡ records before Lasting
unforced_lost [] before h = refl
unforced_lost (Append r ∷ later) before h = unforced_lost later before h
unforced_lost (Force r ∷ later) before h = absurd h
unforced_lost (Restart ∷ later) before h = unforced_lost later before h

-- what is there is what lasts and what is pending
live_is : {R : Type 0} → (es : List (LogEffect R)) → records es Live ≡ records es Lasting ++ unforced es
live_is [] = refl
live_is (Append r ∷ es) = ap (λ xs. xs ++ r ∷ []) (live_is es) ∙ append_assoc (records es Lasting) (unforced es) (r ∷ [])
live_is (Force r ∷ es) = sym (append-nil (records es Live ++ r ∷ []))
live_is (Restart ∷ es) = sym (append-nil (records es Lasting))

-- it is what stands behind what lasts
pub pending_is : {R : Type 0} → (es : List (LogEffect R)) (items : List R) (n : ℕ) → n ≤ length items → items ≡ records es Live
    → take n items ≡ records es Lasting
    → drop n items ≡ unforced es
pending_is es items n within live lasting =
    ap (drop n) (live ∙ live_is es ∙ ap (λ xs. xs ++ unforced es) (sym lasting)) ∙ drop_at (take n items) (unforced es) n (length-take-le n items within)

-- as many of what is pending, and no more than there are
as_many : {R : Type 0} → (xs : List R) (more kept : ℕ) → (kept ≤ length xs → more ≡ kept) → (length xs ≤ kept → more ≡ length xs) → take more xs ≡ take kept xs
as_many xs more kept few all =
    elim (cases_lt kept (length xs)) [
      | inl less ↦ ap (λ n. take n xs) (few (omega (arith, less)))
      | inr past ↦ take_all more xs (omega (arith, all past)) ∙ sym (take_all kept xs past)
    ]

pub restarted : {R : Type 0} → (es : List (LogEffect R)) (items new : List R) (n more : ℕ) (keep : List Bool) → n ≤ length items
    → LogStandsFor (record { live = items; lasting = take n items }) es
    → (kept_front keep ≤ length items - n → more ≡ kept_front keep) → (length items - n ≤ kept_front keep → more ≡ length items - n)
    → new ≡ take (n + more) items
    → ◌≡◌ {A = Log R} (record { live = new; lasting = take (n + more) new }) (record { live = survivors es keep; lasting = survivors es keep })
restarted {R} es items new n more keep within k few all is =
    let rest : length (drop n items) ≡ length items - n = length-drop n items in
    let same : take more (drop n items) ≡ take (kept_front keep) (drop n items) =
    as_many (drop n items) more (kept_front keep) (λ h. few (subst (λ m. kept_front keep ≤ m) rest h)) (λ h. all (subst (λ m. m ≤ kept_front keep) rest h) ∙ sym rest) in
    let left : take (n + more) items ≡ survivors es keep =
    take-add n more items ∙ ap (λ xs. xs ++ take more (drop n items)) k.lasting ∙ ap (λ xs. records es Lasting ++ xs) same
    ∙ ap (λ xs. records es Lasting ++ take (kept_front keep) xs) (pending_is es items n within k.live k.lasting) in
    let live : new ≡ survivors es keep = is ∙ left in
    let lasting : take (n + more) new ≡ survivors es keep = ap (take (n + more)) is ∙ take-take (n + more) (n + more) items (omega arith) ∙ left in
    let first : ◌≡◌ {A = Log R} (record { live = new; lasting = take (n + more) new }) (record { live = survivors es keep; lasting = take (n + more) new }) =
    ap (λ (l : List R). record { live = l; lasting = take (n + more) new }) live in
    let second : ◌≡◌ {A = Log R} (record { live = survivors es keep; lasting = take (n + more) new }) (record { live = survivors es keep; lasting = survivors es keep }) =
    ap (λ (l : List R). record { live = survivors es keep; lasting = l }) lasting in
    first ∙ second

pub pending_slice : {R : Type 0} → (es : List (LogEffect R)) (items : List R) (n : ℕ) → n ≤ length items
    → LogStandsFor (record { live = items; lasting = take n items }) es
    → take (length items - n) (drop n items) ≡ unforced es
pending_slice es items n within k =
    take_all (length items - n) (drop n items) (omega (arith, length-drop n items)) ∙ pending_is es items n within k.live k.lasting
