-- Which records are pending, the answers for those of one party, and the records that the logs hold after a restart.
use Rattle.std.proofs.Common.{◌≡◌, ◌⊎◌, inl, inr, ◌<◌, ◌≤◌, ℕ, zero, suc, ◌+◌, Bool, true, false, cond, List, [], ◌∷◌, ◌++◌, length, get_or, drop, refl, ap, sym, ◌∙◌, append_assoc, arith}
use Rattle.std.proofs.lemmas.List.{append-nil, length-drop}
use Rattle.std.proofs.Math.Seq.{drop-cons}
use Rattle.commit_target.specs.declared.marked.Manner.{Manner}
use Rattle.commit_target.specs.declared.marked.Manner.TheVariants.{Append, Force}
use Rattle.commit_target.specs.declared.records.Record.{Record}
use Rattle.commit_target.specs.declared.records.Party.{Party}
use Rattle.commit_target.specs.declared.records.PendingRecord.{PendingRecord}
use Rattle.commit_target.specs.Writes.{Event, Written, AllRestart, AllLogs, LogsStandFor, is_party, pending}
use Rattle.commit_target.specs.Judgement.{known, own}
use Rattle.commit_target.specs.Crash.{answers_of}
use Rattle.commit_target.specs.inside.Batches.{write_of}
use Rattle.commit_target.specs.inside.Held.{Holds, noted, noted_each}

pub one_noted : (m : Manner) (party : Party) (r : Record) (es : List Event)
    → pending (Written (write_of m party r) ∷ es) ≡ noted m (record { party = party; entry = r }) (pending es)
one_noted Append party r es = refl
one_noted Force party r es = refl

-- logs that note nothing owe nothing of it
pub not_noted : (notes : Bool) (order records : List PendingRecord) → notes ≡ false → notes ≡ true → order ≡ records
not_noted true order records off on = cc
not_noted false order records off on = cc

none_settled : (r : Record) (i count : ℕ) → noted_each Force r i count [] ≡ []
none_settled r i zero = refl
none_settled r i (suc n) = none_settled r (i + 1) n

-- A row of forces, if nothing is pending.
pub row_of_forces : (m : Manner) (r : Record) (order : List PendingRecord) (i count : ℕ) → m ≡ Force → length order ≡ 0 → order ≡ noted_each m r i count order
row_of_forces Force r [] i count is none = sym (none_settled r i count)
row_of_forces Force r (p ∷ order) i count is none = absurd (omega (arith, none))
row_of_forces Append r order i count is none = cc

-- ---- the answers for one party

-- what is left to be answered from one place on
abbrev from : Party → List PendingRecord → List Bool → ℕ → List Bool
from party order keep i = answers_of party (drop i order) (drop i keep)

next_place : (i : ℕ) → suc i ≡ i + 1
next_place i = omega arith

from_next : (party : Party) (order : List PendingRecord) (keep : List Bool) (i : ℕ) (d : PendingRecord) (e : Bool) → i < length order → i < length keep
    → from party order keep i ≡ cond (is_party (get_or order i d).party party) (get_or keep i e ∷ from party order keep (i + 1)) (from party order keep (i + 1))
from_next party order keep i d e there answered =
    let rest : List Bool = answers_of party (drop (suc i) order) (drop (suc i) keep) in
    let same : rest ≡ from party order keep (i + 1) = ap (λ (n : ℕ). answers_of party (drop n order) (drop n keep)) (next_place i) in
    ap (λ (l : List PendingRecord). answers_of party l (drop i keep)) (drop-cons order i d there)
    ∙ ap (λ (l : List Bool). answers_of party (get_or order i d ∷ drop (suc i) order) l) (drop-cons keep i e answered)
    ∙ ap (λ (l : List Bool). cond (is_party (get_or order i d).party party) (get_or keep i e ∷ l) l) same

-- The same if the next answer is for this party, and if it isn't.
pub one_answered : (party : Party) (order : List PendingRecord) (keep so_far all : List Bool) (i : ℕ) (d : PendingRecord) (e : Bool) → i < length order → i < length keep
    → is_party (get_or order i d).party party ≡ true
    → so_far ++ from party order keep i ≡ all
    → (so_far ++ get_or keep i e ∷ []) ++ from party order keep (i + 1) ≡ all
one_answered party order keep so_far all i d e there answered mine h =
    let rest : List Bool = from party order keep (i + 1) in
    append_assoc so_far (get_or keep i e ∷ []) rest
    ∙ ap (λ (l : List Bool). so_far ++ l)
    (sym (from_next party order keep i d e there answered ∙ ap (λ (b : Bool). cond b (get_or keep i e ∷ rest) rest) mine))
    ∙ h

pub one_passed : (party : Party) (order : List PendingRecord) (keep so_far all : List Bool) (i : ℕ) (d : PendingRecord) (e : Bool) → i < length order → i < length keep
    → is_party (get_or order i d).party party ≡ false
    → so_far ++ from party order keep i ≡ all
    → so_far ++ from party order keep (i + 1) ≡ all
one_passed party order keep so_far all i d e there answered other h =
    let rest : List Bool = from party order keep (i + 1) in
    ap (λ (l : List Bool). so_far ++ l)
    (sym (from_next party order keep i d e there answered ∙ ap (λ (b : Bool). cond b (get_or keep i e ∷ rest) rest) other))
    ∙ h

none_left : (party : Party) (order : List PendingRecord) (keep : List Bool) → (length order ≡ 0) ⊎ (length keep ≡ 0) → answers_of party order keep ≡ []
none_left party [] keep none = refl
none_left party (p ∷ order) [] none = refl
none_left party (p ∷ order) (b ∷ keep) (inl none) = absurd (omega (arith, none))
none_left party (p ∷ order) (b ∷ keep) (inr none) = absurd (omega (arith, none))

-- The same if no place is left.
pub all_answered : (party : Party) (order : List PendingRecord) (keep so_far all : List Bool) (i : ℕ) → (length order ≤ i) ⊎ (length keep ≤ i)
    → so_far ++ from party order keep i ≡ all
    → so_far ≡ all
all_answered party order keep so_far all i past h =
    sym (append-nil so_far) ∙ ap (λ (l : List Bool). so_far ++ l) (sym (none_left party (drop i order) (drop i keep) (none past))) ∙ h
  where
    none : (length order ≤ i) ⊎ (length keep ≤ i) → (length (drop i order) ≡ 0) ⊎ (length (drop i keep) ≡ 0)
    none (inl few) = inl (omega (arith, few, length-drop i order))
    none (inr few) = inr (omega (arith, few, length-drop i keep))

-- ---- what the logs hold

pub restart_holds : (count : ℕ) (logs : AllLogs) (es : List Event) → LogsStandFor count logs (AllRestart ∷ es) → Holds count logs (known es) (own es)
restart_holds count logs es k = record { enough = k.enough; coordinator = k.coordinator.live; participants = λ n h. (k.participants n h).live }
