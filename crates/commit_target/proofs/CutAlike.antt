-- A commit is judged after a cut that loses all as after a restart of all parties.
use Rattle.std.proofs.Common.{◌≡◌, ℕ, zero, suc, ◌||◌, not, Bool, true, false, cond, List, [], ◌∷◌, length, replicate, refl, ap, ◌∙◌}
use Rattle.sim_device.specs.FileEffects.{Lasting}
use Rattle.sim_device.specs.LogEffects.{LogEffect, records, survivors}
use Rattle.target_trait.specs.declared.judgement.Judgement.{Judgement}
use Rattle.target_trait.specs.Machine.{after}
use Rattle.commit_target.specs.declared.variant.Variant.{Variant}
use Rattle.commit_target.specs.declared.records.Record.{Record}
use Rattle.commit_target.specs.declared.records.Party.{Party}
use Rattle.commit_target.specs.declared.records.PendingRecord.{PendingRecord}
use Rattle.commit_target.specs.declared.records.Party.TheVariants.{Coordinator, Participant}
use Rattle.commit_target.specs.Work.{Work}
use Rattle.commit_target.specs.Writes.{Event, is_party, pending, on_coordinator, on_participant}
use Rattle.commit_target.specs.Judgement.{is_committed, some_ends, judged_ends, was_told, judged_one, or_then, judged_by, known, own}
use Rattle.commit_target.specs.Steps.{State, machine, point_at, judged_at, asks_of}
use Rattle.commit_target.specs.Crash.{cut_of, answers_of, known_keeping, own_keeping}
use Rattle.target_trait.specs.cut_laws.KeptSets.{LosesAlike}
use Rattle.target_trait.proofs.CutLawsLemmas.LosesAlike.{ends_by}
use Rattle.sim_device.proofs.LostAll.{what_lasts}

-- ---- what is left of each log

-- the answers for one party lose all that is asked of it
record LosesAll (answers : List Bool) : Type 0 where
  count : ℕ
  are : answers ≡ replicate count false

one_more : (mine : Bool) (rest : List Bool) → LosesAll rest → LosesAll (cond mine (false ∷ rest) rest)
one_more true rest k = record { count = suc k.count; are = ap (λ (l : List Bool). false ∷ l) k.are }
one_more false rest k = k

lost_of : (party : Party) (order : List PendingRecord) (count : ℕ) → LosesAll (answers_of party order (replicate count false))
lost_of party [] count = record { count = 0; are = refl }
lost_of party (other ∷ order) zero = record { count = 0; are = refl }
lost_of party (other ∷ order) (suc count) =
    one_more (is_party other.party party) (answers_of party order (replicate count false)) (lost_of party order count)

lasts : (es : List (LogEffect Record)) (answers : List Bool) → LosesAll answers → survivors es answers ≡ records es Lasting
lasts es answers k = ap (survivors es) k.are ∙ what_lasts es k.count

known_lasts : (events : List Event) (count : ℕ) → known_keeping events (replicate count false) ≡ known events
known_lasts events count =
    lasts (on_coordinator events) (answers_of Coordinator (pending events) (replicate count false)) (lost_of Coordinator (pending events) count)

own_lasts : (events : List Event) (count n : ℕ) → own_keeping events (replicate count false) n ≡ own events n
own_lasts events count n =
    lasts (on_participant events n) (answers_of (Participant n) (pending events) (replicate count false)) (lost_of (Participant n) (pending events) count)

-- ---- the same logs are judged alike

same_ends : (f g : ℕ → Bool) → ((n : ℕ) → f n ≡ g n) → (committed : Bool) (count : ℕ) → some_ends f committed count ≡ some_ends g committed count
same_ends f g each true zero = refl
same_ends f g each false zero = refl
same_ends f g each true (suc n) = ap (λ b. b || f n) (same_ends f g each true n) ∙ ap (λ b. some_ends g true n || b) (each n)
same_ends f g each false (suc n) = ap (λ b. b || not (f n)) (same_ends f g each false n) ∙ ap (λ b. some_ends g false n || not b) (each n)

module _ (participants : ℕ) (told : List ℕ) (coordinator : List Record) (these those : ℕ → List Record) (each : (n : ℕ) → these n ≡ those n) where
  same_one : (transaction : ℕ) → judged_one participants told coordinator these transaction ≡ judged_one participants told coordinator those transaction
  same_one transaction =
      let f : ℕ → Bool = λ n. is_committed coordinator (these n) transaction in
      let g : ℕ → Bool = λ n. is_committed coordinator (those n) transaction in
      let alike : (n : ℕ) → f n ≡ g n = λ n. ap (λ (log : List Record). is_committed coordinator log transaction) (each n) in
      let client : Bool = was_told told transaction in
      ap (λ b. judged_ends b (some_ends f false participants) client) (same_ends f g alike true participants)
      ∙ ap (λ b. judged_ends (some_ends g true participants) b client) (same_ends f g alike false participants)

  same_judgement : (begun : ℕ) → judged_by participants told coordinator these begun ≡ judged_by participants told coordinator those begun
  same_judgement zero = refl
  same_judgement (suc begun) =
      ap (λ (j : Judgement). or_then j (judged_one participants told coordinator these begun)) (same_judgement begun)
      ∙ ap (λ (j : Judgement). or_then (judged_by participants told coordinator those begun) j) (same_one begun)

pub commit_alike : (v : Variant) (w : Work) → LosesAlike (asks_of v w) (cut_of v w)
commit_alike v w answers j all e =
    let s : State = after (machine v w) answers in
    let count : ℕ = length (pending s.events) in
    let lost : List Bool = replicate count false in
    ap (λ (log : List Record). judged_by w.participants s.tally.told log (own_keeping s.events lost) s.tally.begun) (known_lasts s.events count)
    ∙ same_judgement w.participants s.tally.told (known s.events) (own_keeping s.events lost) (own s.events) (own_lasts s.events count) s.tally.begun
    ∙ ends_by (judged_at w s) j (point_at s.tally.step) e
