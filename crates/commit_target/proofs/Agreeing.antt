-- What the logs say of a transaction that was decided, and of one that was not, and how each ends after a restart of all, whatever of what was pending
-- the restart keeps.
use Rattle.std.proofs.Common.{◌≡◌, ◌⊎◌, inl, inr, ℕ, zero, suc, ◌<◌, ◌≤◌, Bool, true, false, ◌||◌, cond, List, ◌∷◌, ◌++◌, take, drop, refl, ap, sym, ◌∙◌, arith}
use Rattle.std.proofs.lemmas.List.{take-append-drop}
use Rattle.std.proofs.lemmas.List.Folds.{list_any-append}
use Rattle.std.proofs.lemmas.Bool.{or_left, or_right, or_from, and_left, and_from, not_from_true, not_from_false}
use Rattle.sim_device.specs.FileEffects.{Live, Lasting}
use Rattle.sim_device.specs.LogEffects.{LogEffect, records, unforced, kept_front, survivors}
use Rattle.target_trait.specs.declared.judgement.Judgement.TheVariants.{Kept}
use Rattle.commit_target.specs.declared.records.Record.{Record}
use Rattle.commit_target.specs.declared.records.Party.TheVariants.{Coordinator, Participant}
use Rattle.commit_target.specs.declared.records.Kind.{Kind}
use Rattle.commit_target.specs.declared.records.Kind.TheVariants.{Prepare, Commit, Abort, End}
use Rattle.commit_target.specs.declared.records.Write.{Write}
use Rattle.commit_target.specs.Writes.{Event, Written, pending, on_coordinator, on_participant}
use Rattle.commit_target.specs.Judgement.{has, is_committed, answers_commit, some_ends, judged_ends, was_told, known, own, judged_one, or_then, judged_by}
use Rattle.commit_target.specs.Crash.{answers_of, known_keeping, own_keeping}
use Rattle.commit_target.specs.Protocol.{BearsOut}
use Rattle.commit_target.proofs.Fronts.{live_is}
use Rattle.commit_target.proofs.Logged.{is_it, decides, holds, entry_of, decides_never, holds_never, decides_stays, decides_spared, holds_stays, holds_spared}

-- a record of this kind lasts in each participant's log
abbrev pub AllHold : ℕ → List Event → ℕ → Kind → Type 0
AllHold p es k kind = (n : ℕ) → n < p → holds es n Lasting k kind ≡ true

-- no participant has a record of this kind
abbrev pub NoneHolds : List Event → ℕ → Kind → Type 0
NoneHolds es k kind = (n : ℕ) → holds es n Live k kind ≡ false

-- the decision to commit stands on forced prepare records, nobody has aborted, and an end record stands on forced commit records
pub record Committed (p : ℕ) (es : List Event) (k : ℕ) : Type 0 where
  pub decided : decides es Lasting k Commit ≡ true
  pub prepared : AllHold p es k Prepare
  pub unaborted : NoneHolds es k Abort
  pub ended : (decides es Live k End ≡ false) ⊎ AllHold p es k Commit

-- without the coordinator's commit record no participant has one, and there is no end record
pub record Undecided (es : List Event) (k : ℕ) : Type 0 where
  pub undecided : decides es Live k Commit ≡ false
  pub uncommitted : NoneHolds es k Commit
  pub unended : decides es Live k End ≡ false

-- How a transaction ends, by whether the client was told of its commit.
abbrev pub Settled : ℕ → List Event → ℕ → Bool → Type 0
Settled p es k true = Committed p es k
Settled p es k false = Undecided es k

-- a transaction of which there are prepare records at most
pub record Open (es : List Event) (k : ℕ) : Type 0 where
  pub undecided : Undecided es k
  pub unaborted : NoneHolds es k Abort

-- ---- what writes leave

pub all_stay : (w : Write) (p : ℕ) (es : List Event) (k : ℕ) (kind : Kind) → AllHold p es k kind → AllHold p (Written w ∷ es) k kind
all_stay w p es k kind h = λ n below. holds_stays w es n k kind (h n below)

pub none_stay : (w : Write) (es : List Event) (k : ℕ) (kind : Kind) → is_it (entry_of w) k kind ≡ false → NoneHolds es k kind
    → NoneHolds (Written w ∷ es) k kind
none_stay w es k kind other h = λ n. holds_spared w es n k kind other (h n)

ended_stay : (w : Write) (p : ℕ) (es : List Event) (k : ℕ) → is_it (entry_of w) k End ≡ false → ((decides es Live k End ≡ false) ⊎ AllHold p es k Commit)
    → (decides (Written w ∷ es) Live k End ≡ false) ⊎ AllHold p (Written w ∷ es) k Commit
ended_stay w p es k other (inl h) = inl (decides_spared w es k End other h)
ended_stay w p es k other (inr h) = inr (all_stay w p es k Commit h)

pub committed_stay : (w : Write) (p : ℕ) (es : List Event) (k : ℕ) → is_it (entry_of w) k Abort ≡ false → is_it (entry_of w) k End ≡ false
    → Committed p es k → Committed p (Written w ∷ es) k
committed_stay w p es k no_abort no_end h = record {
  decided = decides_stays w es k Commit h.decided;
  prepared = all_stay w p es k Prepare h.prepared;
  unaborted = none_stay w es k Abort no_abort h.unaborted;
  ended = ended_stay w p es k no_end h.ended;
}

pub undecided_stay : (w : Write) (es : List Event) (k : ℕ) → is_it (entry_of w) k Commit ≡ false → is_it (entry_of w) k End ≡ false → Undecided es k
    → Undecided (Written w ∷ es) k
undecided_stay w es k no_commit no_end h = record {
  undecided = decides_spared w es k Commit no_commit h.undecided;
  uncommitted = none_stay w es k Commit no_commit h.uncommitted;
  unended = decides_spared w es k End no_end h.unended;
}

pub open_stay : (w : Write) (es : List Event) (k : ℕ) → is_it (entry_of w) k Commit ≡ false → is_it (entry_of w) k End ≡ false
    → is_it (entry_of w) k Abort ≡ false → Open es k → Open (Written w ∷ es) k
open_stay w es k no_commit no_end no_abort h = record {
  undecided = undecided_stay w es k no_commit no_end h.undecided;
  unaborted = none_stay w es k Abort no_abort h.unaborted;
}

-- another transaction's write
pub settled_stay : (b : Bool) (w : Write) (p : ℕ) (es : List Event) (k : ℕ) → ((kind : Kind) → is_it (entry_of w) k kind ≡ false) → Settled p es k b
    → Settled p (Written w ∷ es) k b
settled_stay true w p es k other h = committed_stay w p es k (other Abort) (other End) h
settled_stay false w p es k other h = undecided_stay w es k (other Commit) (other End) h

-- ---- what the protocol rests on

not_both : (b : Bool) → b ≡ true → b ≡ false → ⊥
not_both b p q = cc

true_or_false : true ≡ false → ⊥
true_or_false e = cc

all_committed : (p : ℕ) (es : List Event) (k : ℕ) → decides es Live k End ≡ true → ((decides es Live k End ≡ false) ⊎ AllHold p es k Commit)
    → AllHold p es k Commit
all_committed p es k is (inl e) = absurd (not_both _ is e)
all_committed p es k is (inr all) = all

pub bears_out : (b : Bool) (p : ℕ) (es : List Event) (k : ℕ) → Settled p es k b → BearsOut p es k b
bears_out true p es k h = record {
  decided = h.decided;
  prepared = λ e. h.prepared;
  unaborted = λ e. h.unaborted;
  uncommitted = λ e. absurd (true_or_false e);
  ended = λ is. all_committed p es k is h.ended;
}
bears_out false p es k h = record {
  decided = decides_never es k Commit h.undecided;
  prepared = λ e. absurd (true_or_false (sym e));
  unaborted = λ e. absurd (true_or_false (sym e));
  uncommitted = λ e. h.uncommitted;
  ended = λ is. absurd (not_both _ is h.unended);
}

-- ---- how each ends

by_own : (commit abort prepare answer : Bool) → abort ≡ false → prepare ≡ true → (commit ≡ false → answer ≡ true)
    → cond commit true (cond abort false (cond prepare answer false)) ≡ true
by_own true abort prepare answer a p h = refl
by_own false true prepare answer a p h = cc
by_own false false true answer a p h = h refl
by_own false false false answer a p h = cc

by_none : (commit abort prepare answer : Bool) → commit ≡ false → answer ≡ false → cond commit true (cond abort false (cond prepare answer false)) ≡ false
by_none true abort prepare answer c a = cc
by_none false true prepare answer c a = refl
by_none false false true answer c a = a
by_none false false false answer c a = refl

-- ---- what a restart leaves

-- the records that are left of a log: all that lasts, and nothing that wasn't there
pub record Left (log : List (LogEffect Record)) (left : List Record) : Type 0 where
  pub lasting : (k : ℕ) (kind : Kind) → has (records log Lasting) k kind ≡ true → has left k kind ≡ true
  pub live : (k : ℕ) (kind : Kind) → has (records log Live) k kind ≡ false → has left k kind ≡ false

-- the same of all logs
pub record AllLeft (es : List Event) (known : List Record) (own : ℕ → List Record) : Type 0 where
  pub coordinator : Left (on_coordinator es) known
  pub participants : (n : ℕ) → Left (on_participant es n) (own n)

pub restarted : (es : List Event) → AllLeft es (known es) (own es)
restarted es = record {
  coordinator = record { lasting = λ k kind h. h; live = λ k kind h. decides_never es k kind h };
  participants = λ n. record { lasting = λ k kind h. h; live = λ k kind h. holds_never es n k kind h };
}

neither : (a b : Bool) → (a || b) ≡ false → (a ≡ false) × (b ≡ false)
neither true b h = cc
neither false b h = (refl, h)

has_both : (front rest : List Record) (k : ℕ) (kind : Kind) → has (front ++ rest) k kind ≡ (has front k kind || has rest k kind)
has_both front rest k kind = list_any-append (λ r. is_it r k kind) front rest

has_none : (m : ℕ) (log : List Record) (k : ℕ) (kind : Kind) → has log k kind ≡ false → has (take m log) k kind ≡ false
has_none m log k kind h =
    (neither (has (take m log) k kind) (has (drop m log) k kind)
    (sym (has_both (take m log) (drop m log) k kind) ∙ ap (λ (x : List Record). has x k kind) (take-append-drop m log) ∙ h)).0

kept_left : (log : List (LogEffect Record)) (keep : List Bool) → Left log (survivors log keep)
kept_left log keep =
    let front = records log Lasting in
    let rest = take (kept_front keep) (unforced log) in
    record {
      lasting = λ k kind h. has_both front rest k kind ∙ or_left _ _ h;
      live = λ k kind h.
          let both = neither (has front k kind) (has (unforced log) k kind)
          (sym (has_both front (unforced log) k kind) ∙ ap (λ (x : List Record). has x k kind) (sym (live_is log)) ∙ h) in
          has_both front rest k kind ∙ or_from _ _ both.0 (has_none (kept_front keep) (unforced log) k kind both.1);
    }

-- whatever a cut keeps
pub all_kept_left : (es : List Event) (keep : List Bool) → AllLeft es (known_keeping es keep) (own_keeping es keep)
all_kept_left es keep = record {
  coordinator = kept_left (on_coordinator es) (answers_of Coordinator (pending es) keep);
  participants = λ n. kept_left (on_participant es n) (answers_of (Participant n) (pending es) keep);
}

-- ---- how each ends by what is left

-- one that prepared and doesn't know of the commit inquires: there is no end record then
inquires : (p : ℕ) (es : List Event) (known : List Record) (own : ℕ → List Record) → AllLeft es known own → (k n : ℕ) → n < p → Committed p es k
    → has (own n) k Commit ≡ false
    → answers_commit known k ≡ true
inquires p es known own left k n below h none = and_from _ _ (left.coordinator.lasting k Commit h.decided) (not_from_false _ (unended h.ended))
  where
    unended : ((decides es Live k End ≡ false) ⊎ AllHold p es k Commit) → has known k End ≡ false
    unended (inl e) = left.coordinator.live k End e
    unended (inr all) = absurd (not_both _ ((left.participants n).lasting k Commit (all n below)) none)

pub ends_alike : (b : Bool) (p : ℕ) (es : List Event) (known : List Record) (own : ℕ → List Record) → AllLeft es known own → (k n : ℕ) → n < p
    → Settled p es k b
    → is_committed known (own n) k ≡ b
ends_alike true p es known own left k n below h =
    let mine = left.participants n in
    by_own (has (own n) k Commit) (has (own n) k Abort) (has (own n) k Prepare) (answers_commit known k)
    (mine.live k Abort (h.unaborted n)) (mine.lasting k Prepare (h.prepared n below)) (inquires p es known own left k n below h)
ends_alike false p es known own left k n below h =
    by_none (has (own n) k Commit) (has (own n) k Abort) (has (own n) k Prepare) (answers_commit known k)
    ((left.participants n).live k Commit (h.uncommitted n)) (and_left _ _ (left.coordinator.live k Commit h.undecided))

-- ---- the judgement

none_aborts : (f : ℕ → Bool) (p : ℕ) → ((n : ℕ) → n < p → f n ≡ true) → some_ends f false p ≡ false
none_aborts f zero all = refl
none_aborts f (suc n) all = or_from _ _ (none_aborts f n (λ m below. all m (omega arith))) (not_from_true _ (all n (omega arith)))

none_commits : (f : ℕ → Bool) (p : ℕ) → ((n : ℕ) → n < p → f n ≡ false) → some_ends f true p ≡ false
none_commits f zero all = refl
none_commits f (suc n) all = or_from _ _ (none_commits f n (λ m below. all m (omega arith))) (all n (omega arith))

one_commits : (f : ℕ → Bool) (p : ℕ) → 1 ≤ p → ((n : ℕ) → n < p → f n ≡ true) → some_ends f true p ≡ true
one_commits f zero some all = absurd (omega arith)
one_commits f (suc n) some all = or_right _ _ (all n (omega arith))

kept_by : (b : Bool) (p : ℕ) → 1 ≤ p → (f : ℕ → Bool) → ((n : ℕ) → n < p → f n ≡ b) → judged_ends (some_ends f true p) (some_ends f false p) b ≡ Kept
kept_by true p some f all =
    ap (λ c. judged_ends c (some_ends f false p) true) (one_commits f p some all)
    ∙ ap (λ a. judged_ends true a true) (none_aborts f p all)
kept_by false p some f all = ap (λ c. judged_ends c (some_ends f false p) false) (none_commits f p all)

pub one_kept : (p : ℕ) → 1 ≤ p → (told : List ℕ) (es : List Event) (known : List Record) (own : ℕ → List Record) → AllLeft es known own → (k : ℕ)
    → Settled p es k (was_told told k)
    → judged_one p told known own k ≡ Kept
one_kept p some told es known own left k h =
    kept_by (was_told told k) p some (λ n. is_committed known (own n) k) (λ n below. ends_alike (was_told told k) p es known own left k n below h)

pub all_kept : (p : ℕ) → 1 ≤ p → (told : List ℕ) (es : List Event) (known : List Record) (own : ℕ → List Record) → AllLeft es known own → (begun : ℕ)
    → ((k : ℕ) → k < begun → Settled p es k (was_told told k))
    → judged_by p told known own begun ≡ Kept
all_kept p some told es known own left zero all = refl
all_kept p some told es known own left (suc k) all =
    ap (λ j. or_then j (judged_one p told known own k)) (all_kept p some told es known own left k (λ i below. all i (omega arith)))
    ∙ one_kept p some told es known own left k (all k (omega arith))
