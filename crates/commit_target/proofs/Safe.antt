-- Whatever is answered, the sound protocol keeps its promise: the client is told of a commit exactly if its commit record lasts, which stands on the
-- forced prepare records of all participants, and a transaction is forgotten only once all have forced their commit records.
use Rattle.std.proofs.Common.{◌≡◌, inl, inr, ℕ, ◌+◌, ◌-◌, ◌<◌, ◌≤◌, ◌==◌, nat_lt, Bool, true, false, ◌||◌, cond, List, [], ◌∷◌, ◌++◌, length, Option, Some, None, refl, ap, sym, ◌∙◌, subst, arith, length-append, eqb-true}
use Rattle.std.proofs.lemmas.Bool.{eq-eqb, ne_eqb, eqb-false, ltb-true, ltb-false, or_left, or_right}
use Rattle.std.proofs.lemmas.List.Folds.{list_any-append}
use Rattle.sim_device.specs.FileEffects.{Live, Lasting}
use Rattle.action_eval.specs.Answers.{Reply, Go, Return, Halt}
use Rattle.target_trait.specs.declared.judgement.Judgement.{Judgement}
use Rattle.target_trait.specs.declared.judgement.Judgement.TheVariants.{Kept}
use Rattle.target_trait.specs.Play.{Done}
use Rattle.target_trait.proofs.Never.{done_kept}
use Rattle.commit_target.specs.declared.variant.Variant.TheVariants.{Sound}
use Rattle.commit_target.specs.declared.work.Vote.{Vote}
use Rattle.commit_target.specs.declared.work.Vote.TheVariants.{Yes, No}
use Rattle.commit_target.specs.declared.records.Kind.{Kind}
use Rattle.commit_target.specs.declared.records.Kind.TheVariants as kind
use Rattle.commit_target.specs.declared.records.Party.TheVariants.{Coordinator, Participant}
use Rattle.commit_target.specs.declared.records.Write.{Write}
use Rattle.commit_target.specs.declared.records.Write.TheVariants.{Append, Force}
use Rattle.commit_target.specs.Work.{Work, wish}
use Rattle.commit_target.specs.Writes.{Event, Written}
use Rattle.commit_target.specs.Judgement.{was_told, known, own}
use Rattle.commit_target.specs.Crash.{known_keeping, own_keeping, judged_keeping}
use Rattle.commit_target.specs.Steps.{Step, SendPrepare, ForcePrepare, SendVote, ForceCommit, ForceCommitAgain, SendCommit, ForceOutcome, SendAck, SendAbort, Over, Tally, State, number, at_step, with_yes, unacknowledged, with_told, first_of, next_of, opened, begun, commit_to, abort_to, aborted, decided, prepare_to, after_vote, vote_step, entry, end_if, end_unless, go_write, then_write, return_write, with_write, on_go, on_return, stepped, before_all, start_of, laid, point_at, judged_at, asks_of}
use Rattle.commit_target.proofs.Logged.{decides, holds, entry_of, is_entry, other_transaction, other_kind, decides_stays, decides_spared, decided as forced_decision, held}
use Rattle.commit_target.proofs.Agreeing.{AllHold, NoneHolds, Committed, Undecided, Settled, Open, all_stay, none_stay, undecided_stay, open_stay, settled_stay, restarted, all_kept_left, all_kept}

-- ---- what is claimed

-- what stands of the transactions before the one under way, and of those to come
pub record Base (p : ℕ) (told : List ℕ) (count : ℕ) (es : List Event) : Type 0 where
  pub some : 1 ≤ count
  pub earlier : (k : ℕ) → k + 1 < count → Settled p es k (was_told told k)
  pub later : (k : ℕ) → count ≤ k → Open es k × (was_told told k ≡ false)

-- the first i participants were asked. A yes that arrived stands on a forced prepare record
pub record Polled (c : ℕ) (told : List ℕ) (votes : List ℕ) (i : ℕ) (es : List Event) : Type 0 where
  pub fresh : Open es c
  pub untold : was_told told c ≡ false
  pub counted : length votes ≤ i
  pub voted : length votes ≡ i → AllHold i es c kind.Prepare

-- all voted yes
pub record Ready (p c : ℕ) (told : List ℕ) (es : List Event) : Type 0 where
  pub fresh : Open es c
  pub untold : was_told told c ≡ false
  pub prepared : AllHold p es c kind.Prepare

-- the commit record lasts, and the first i participants were told. One that acknowledged has forced its commit record
pub record Telling (p c : ℕ) (told : List ℕ) (all : Bool) (i : ℕ) (es : List Event) : Type 0 where
  pub told_so : was_told told c ≡ true
  pub is_decided : decides es Lasting c kind.Commit ≡ true
  pub prepared : AllHold p es c kind.Prepare
  pub unaborted : NoneHolds es c kind.Abort
  pub unended : decides es Live c kind.End ≡ false
  pub acknowledged : all ≡ true → AllHold i es c kind.Commit

-- what stands before a step of transaction c
abbrev StepSafe : Step → ℕ → ℕ → List ℕ → List ℕ → Bool → List Event → Type 0
StepSafe (SendPrepare i) p c told votes all es = (i < p) × Polled c told votes i es
StepSafe (ForcePrepare i) p c told votes all es = (i < p) × Polled c told votes i es
StepSafe (SendVote i Yes) p c told votes all es = (i < p) × (Polled c told votes i es × (holds es i Lasting c kind.Prepare ≡ true))
StepSafe (SendVote i No) p c told votes all es = (i < p) × Polled c told votes i es
StepSafe ForceCommit p c told votes all es = Ready p c told es
StepSafe ForceCommitAgain p c told votes all es = ⊥
StepSafe (SendCommit i) p c told votes all es = (i < p) × Telling p c told all i es
StepSafe (ForceOutcome i) p c told votes all es = (i < p) × Telling p c told all i es
StepSafe (SendAck i) p c told votes all es = (i < p) × (Telling p c told all i es × (holds es i Lasting c kind.Commit ≡ true))
StepSafe (SendAbort k) p c told votes all es = Undecided es c × (was_told told c ≡ false)
StepSafe Over p c told votes all es = Settled p es c (was_told told c)

pub record Safe (w : Work) (s : State) : Type 0 where
  pub base : Base w.participants s.tally.told s.tally.begun s.events
  pub step : StepSafe s.tally.step w.participants (number s.tally) s.tally.told s.tally.yes s.tally.acknowledged s.events

abbrev pub state : Tally → List Event → State
state t es = record { tally = t; events = es }

-- ---- a write in the transaction under way

not_earlier : (k x count : ℕ) → x ≡ count - 1 → k + 1 < count → k ≡ x → ⊥
not_earlier k x count same before e = omega arith

not_later : (k x count : ℕ) → x ≡ count - 1 → 1 ≤ count → count ≤ k → k ≡ x → ⊥
not_later k x count same some after e = omega arith

base_stay : (w : Write) (p : ℕ) (told : List ℕ) (count : ℕ) (es : List Event) → (entry_of w).transaction ≡ count - 1 → Base p told count es
    → Base p told count (Written w ∷ es)
base_stay w p told count es same b = record {
  some = b.some;
  earlier = λ k before.
      let other = other_transaction (entry_of w) k (not_earlier k (entry_of w).transaction count same before) in
      settled_stay (was_told told k) w p es k other (b.earlier k before);
  later = λ k after.
      let other = other_transaction (entry_of w) k (not_later k (entry_of w).transaction count same b.some after) in
      let was = b.later k after in
      (open_stay w es k (other kind.Commit) (other kind.End) (other kind.Abort) was.0, was.1);
}

or_false : (b : Bool) → (b || (false || false)) ≡ b
or_false true = refl
or_false false = refl

told_other : (told : List ℕ) (c k : ℕ) → (k ≡ c → ⊥) → was_told (told ++ c ∷ []) k ≡ was_told told k
told_other told c k apart =
    list_any-append (λ n. n == k) told (c ∷ [])
    ∙ ap (λ b. was_told told k || (b || false)) (ne_eqb c k (λ e. apart (sym e)))
    ∙ or_false (was_told told k)

told_now : (told : List ℕ) (c : ℕ) → was_told (told ++ c ∷ []) c ≡ true
told_now told c = list_any-append (λ n. n == c) told (c ∷ []) ∙ or_right _ _ (or_left _ _ (eq-eqb c c refl))

base_told : (p : ℕ) (told : List ℕ) (count : ℕ) (es : List Event) → Base p told count es → Base p (told ++ (count - 1) ∷ []) count es
base_told p told count es b = record {
  some = b.some;
  earlier = λ k before. subst (Settled p es k) (sym (told_other told (count - 1) k (not_earlier k (count - 1) count refl before))) (b.earlier k before);
  later = λ k after. let was = b.later k after in (was.0, told_other told (count - 1) k (not_later k (count - 1) count refl b.some after) ∙ was.1);
}

-- ---- between transactions

none_below : (n : ℕ) → n < 0 → ⊥
none_below n h = omega arith

earlier_one : (k count : ℕ) → k < count → (k ≡ count - 1 → ⊥) → k + 1 < count
earlier_one k count below apart = omega arith

settled_all : (p : ℕ) (told : List ℕ) (count : ℕ) (es : List Event) → Base p told count es → Settled p es (count - 1) (was_told told (count - 1))
    → (k : ℕ) → k < count → Settled p es k (was_told told k)
settled_all p told count es b now k below = in_case (k == count - 1) refl
  where
    in_case : (same : Bool) → (k == count - 1) ≡ same → Settled p es k (was_told told k)
    in_case true e = subst (λ (x : ℕ). Settled p es x (was_told told x)) (sym (eqb-true k (count - 1) e)) now
    in_case false e = b.earlier k (earlier_one k count below (eqb-false k (count - 1) e))

one_later : (n : ℕ) → n ≡ n + 1 - 1
one_later n = omega arith

abbrev pub first_asked : Tally → Tally
first_asked t = at_step (opened t) (SendPrepare 0)

begun_safe : (w : Work) → 1 ≤ w.participants → (t : Tally) (es : List Event) → ((k : ℕ) → k < t.begun → Settled w.participants es k (was_told t.told k))
    → ((k : ℕ) → t.begun ≤ k → Open es k × (was_told t.told k ≡ false)) → Safe w (state (first_asked t) es)
begun_safe w some t es before after = record {
  base = record { some = omega arith; earlier = λ k h. before k (omega arith); later = λ k h. after k (omega arith) };
  step = (
    some,
    subst (λ (c : ℕ). Polled c t.told [] 0 es) (one_later t.begun) (record {
      fresh = (after t.begun (omega arith)).0;
      untold = (after t.begun (omega arith)).1;
      counted = omega arith;
      voted = λ all n h. absurd (none_below n h);
    }),
  );
}

next_safe : (w : Work) → 1 ≤ w.participants → (t : Tally) (es : List Event) → Base w.participants t.told t.begun es
    → Settled w.participants es (number t) (was_told t.told (number t)) → Safe w (state (begun w t) es)
next_safe w some t es b now = in_case (nat_lt t.begun (length w.transactions))
  where
    in_case : (more : Bool) → Safe w (state (cond more (first_asked t) (at_step t Over)) es)
    in_case true = begun_safe w some t es (settled_all w.participants t.told t.begun es b now) b.later
    in_case false = record { base = b; step = now }

untold_settled : (p c : ℕ) (told : List ℕ) (es : List Event) → was_told told c ≡ false → Undecided es c → Settled p es c (was_told told c)
untold_settled p c told es untold h = subst (Settled p es c) (sym untold) h

told_settled : (p c : ℕ) (told : List ℕ) (es : List Event) → was_told told c ≡ true → Committed p es c → Settled p es c (was_told told c)
told_settled p c told es told_so h = subst (Settled p es c) (sym told_so) h

-- ---- aborts

abort_safe : (w : Work) → 1 ≤ w.participants → (t : Tally) (es : List Event) (next : Option ℕ) → Base w.participants t.told t.begun es
    → Undecided es (number t) → was_told t.told (number t) ≡ false → Safe w (state (abort_to w t next) es)
abort_safe w some t es (Some k) b h untold = record { base = b; step = (h, untold) }
abort_safe w some t es None b h untold = next_safe w some t es b (untold_settled w.participants (number t) t.told es untold h)

-- ---- votes

decided_safe : (w : Work) → 1 ≤ w.participants → (t : Tally) (es : List Event) → Base w.participants t.told t.begun es → Open es (number t)
    → was_told t.told (number t) ≡ false
    → (length t.yes ≡ w.participants → AllHold w.participants es (number t) kind.Prepare) → Safe w (state (decided w t) es)
decided_safe w some t es b fresh untold voted = in_case (length t.yes == w.participants) refl
  where
    in_case : (all : Bool) → (length t.yes == w.participants) ≡ all → Safe w (state (cond all (at_step t ForceCommit) (aborted w t)) es)
    in_case true e = record { base = b; step = record { fresh = fresh; untold = untold; prepared = voted (eqb-true (length t.yes) w.participants e) } }
    in_case false e = abort_safe w some t es (first_of (length t.yes)) b fresh.undecided untold

voted_all : (p i c : ℕ) (es : List Event) → i < p → p ≤ i + 1 → (n : ℕ) → (n ≡ i + 1 → AllHold (i + 1) es c kind.Prepare) → n ≡ p → AllHold p es c kind.Prepare
voted_all p i c es below last n voted all = λ m h. voted (omega arith) m (omega arith)

vote_safe : (w : Work) → 1 ≤ w.participants → (t : Tally) (es : List Event) (i : ℕ) → i < w.participants → Base w.participants t.told t.begun es
    → Polled (number t) t.told t.yes (i + 1) es → Safe w (state (after_vote w t i) es)
vote_safe w some t es i below b k = in_case (nat_lt (i + 1) w.participants) refl
  where
    in_case : (more : Bool) → nat_lt (i + 1) w.participants ≡ more → Safe w (state (prepare_to w t (cond more (Some (i + 1)) None)) es)
    in_case true e = record { base = b; step = (ltb-true (i + 1) w.participants e, k) }
    in_case false e =
        decided_safe w some t es b k.fresh k.untold
        (voted_all w.participants i (number t) es below (ltb-false (i + 1) w.participants e) (length t.yes) k.voted)

too_few : (n i : ℕ) → n ≤ i → n ≡ i + 1 → ⊥
too_few n i h e = omega arith

-- a vote that is no, or is lost
polled_lost : (c : ℕ) (told votes : List ℕ) (i : ℕ) (es : List Event) → Polled c told votes i es → Polled c told votes (i + 1) es
polled_lost c told votes i es k = record {
  fresh = k.fresh;
  untold = k.untold;
  counted = omega (arith, k.counted);
  voted = λ all. absurd (too_few (length votes) i k.counted all);
}

one_more : (votes : List ℕ) (i : ℕ) → length (votes ++ i ∷ []) ≡ length votes + 1
one_more votes i = omega (arith, length-append votes (i ∷ []))

other_below : (n i : ℕ) → n < i + 1 → (n ≡ i → ⊥) → n < i
other_below n i below apart = omega arith

hold_more : (i : ℕ) (es : List Event) (c : ℕ) (which : Kind) → AllHold i es c which → holds es i Lasting c which ≡ true → AllHold (i + 1) es c which
hold_more i es c which all this n below = in_case (n == i) refl
  where
    in_case : (same : Bool) → (n == i) ≡ same → holds es n Lasting c which ≡ true
    in_case true e = subst (λ (x : ℕ). holds es x Lasting c which ≡ true) (sym (eqb-true n i e)) this
    in_case false e = all n (other_below n i below (eqb-false n i e))

-- a yes arrives, on the forced prepare record
polled_yes : (c : ℕ) (told votes : List ℕ) (i : ℕ) (es : List Event) → Polled c told votes i es → holds es i Lasting c kind.Prepare ≡ true
    → Polled c told (votes ++ i ∷ []) (i + 1) es
polled_yes c told votes i es k prepared = record {
  fresh = k.fresh;
  untold = k.untold;
  counted = omega (arith, k.counted, one_more votes i);
  voted = λ all. hold_more i es c kind.Prepare (k.voted (omega (arith, one_more votes i))) prepared;
}

-- ---- the second phase

telling_committed : (p c : ℕ) (told : List ℕ) (all : Bool) (i : ℕ) (es : List Event) → Telling p c told all i es → Committed p es c
telling_committed p c told all i es k = record { decided = k.is_decided; prepared = k.prepared; unaborted = k.unaborted; ended = inl k.unended }

end_safe : (w : Work) → 1 ≤ w.participants → (t : Tally) (es : List Event) (all : Bool) (i : ℕ) → w.participants ≤ i
    → Base w.participants t.told t.begun es → Telling w.participants (number t) t.told all i es
    → Safe w (state (begun w t) (with_write (end_if all t) es))
end_safe w some t es true i over b k =
    let end : Write = Append Coordinator (entry t kind.End) in
    next_safe w some t (Written end ∷ es) (base_stay end w.participants t.told t.begun es refl b)
    (told_settled w.participants (number t) t.told (Written end ∷ es) k.told_so (record {
      decided = decides_stays end es (number t) kind.Commit k.is_decided;
      prepared = all_stay end w.participants es (number t) kind.Prepare k.prepared;
      unaborted = none_stay end es (number t) kind.Abort (other_kind (entry t kind.End) (number t) kind.Abort refl) k.unaborted;
      ended = inr (all_stay end w.participants es (number t) kind.Commit (λ n below. k.acknowledged refl n (omega arith)));
    }))
end_safe w some t es false i over b k =
    next_safe w some t es b (told_settled w.participants (number t) t.told es k.told_so (telling_committed w.participants (number t) t.told false i es k))

commit_safe : (w : Work) → 1 ≤ w.participants → (t : Tally) (es : List Event) (i : ℕ) → Base w.participants t.told t.begun es
    → Telling w.participants (number t) t.told t.acknowledged (i + 1) es
    → Safe w (state (commit_to Sound w t (next_of i w.participants)) (with_write (end_unless Sound t t.acknowledged (next_of i w.participants)) es))
commit_safe w some t es i b k = in_case (nat_lt (i + 1) w.participants) refl
  where
    in_case : (more : Bool) → nat_lt (i + 1) w.participants ≡ more
        → Safe w (state (commit_to Sound w t (cond more (Some (i + 1)) None)) (with_write (end_unless Sound t t.acknowledged (cond more (Some (i + 1)) None)) es))
    in_case true e = record { base = b; step = (ltb-true (i + 1) w.participants e, k) }
    in_case false e = end_safe w some t es t.acknowledged (i + 1) (ltb-false (i + 1) w.participants e) b k

never : false ≡ true → ⊥
never e = cc

-- an acknowledgement is missing
telling_lost : (p c : ℕ) (told : List ℕ) (all : Bool) (i : ℕ) (es : List Event) → Telling p c told all i es → Telling p c told false (i + 1) es
telling_lost p c told all i es k = record {
  told_so = k.told_so;
  is_decided = k.is_decided;
  prepared = k.prepared;
  unaborted = k.unaborted;
  unended = k.unended;
  acknowledged = λ e. absurd (never e);
}

-- it arrives, on the participant's forced commit record
telling_more : (p c : ℕ) (told : List ℕ) (all : Bool) (i : ℕ) (es : List Event) → Telling p c told all i es → holds es i Lasting c kind.Commit ≡ true
    → Telling p c told all (i + 1) es
telling_more p c told all i es k this = record {
  told_so = k.told_so;
  is_decided = k.is_decided;
  prepared = k.prepared;
  unaborted = k.unaborted;
  unended = k.unended;
  acknowledged = λ e. hold_more i es c kind.Commit (k.acknowledged e) this;
}

lost_safe : (w : Work) → 1 ≤ w.participants → (t : Tally) (es : List Event) (i : ℕ) → Base w.participants t.told t.begun es
    → Telling w.participants (number t) t.told t.acknowledged i es
    → Safe w (state (commit_to Sound w (unacknowledged t) (next_of i w.participants)) (with_write (end_unless Sound t false (next_of i w.participants)) es))
lost_safe w some t es i b k = commit_safe w some (unacknowledged t) es i b (telling_lost w.participants (number t) t.told t.acknowledged i es k)

-- ---- step by step

wish_safe : (w : Work) (vote : Vote) (t : Tally) (es : List Event) (i : ℕ) → i < w.participants → Base w.participants t.told t.begun es
    → Polled (number t) t.told t.yes i es → Safe w (state (at_step t (vote_step vote i)) es)
wish_safe w Yes t es i below b k = record { base = b; step = (below, k) }
wish_safe w No t es i below b k = record { base = b; step = (below, k) }

prepared_safe : (w : Work) (t : Tally) (es : List Event) (i : ℕ) → i < w.participants → Base w.participants t.told t.begun es
    → Polled (number t) t.told t.yes i es
    → Safe w (state (at_step t (SendVote i Yes)) (Written (Force (Participant i) (entry t kind.Prepare)) ∷ es))
prepared_safe w t es i below b k =
    let prepare : Write = Force (Participant i) (entry t kind.Prepare) in
    let c = number t in
    let other = other_kind (entry t kind.Prepare) c in
    record {
      base = base_stay prepare w.participants t.told t.begun es refl b;
      step = (
        below,
        (
          record {
            fresh = open_stay prepare es c (other kind.Commit refl) (other kind.End refl) (other kind.Abort refl) k.fresh;
            untold = k.untold;
            counted = k.counted;
            voted = λ all. all_stay prepare i es c kind.Prepare (k.voted all);
          },
          held (entry t kind.Prepare) es i c kind.Prepare (is_entry c kind.Prepare refl),
        ),
      );
    }

-- the decision
committed_safe : (w : Work) → 1 ≤ w.participants → (t : Tally) (es : List Event) → Base w.participants t.told t.begun es
    → Ready w.participants (number t) t.told es
    → Safe w (state (at_step (with_told t) (SendCommit 0)) (Written (Force Coordinator (entry t kind.Commit)) ∷ es))
committed_safe w some t es b k =
    let commit : Write = Force Coordinator (entry t kind.Commit) in
    let c = number t in
    let other = other_kind (entry t kind.Commit) c in
    record {
      base = base_told w.participants t.told t.begun (Written commit ∷ es) (base_stay commit w.participants t.told t.begun es refl b);
      step = (
        some,
        record {
          told_so = told_now t.told c;
          is_decided = forced_decision (entry t kind.Commit) es c kind.Commit (is_entry c kind.Commit refl);
          prepared = all_stay commit w.participants es c kind.Prepare k.prepared;
          unaborted = none_stay commit es c kind.Abort (other kind.Abort refl) k.fresh.unaborted;
          unended = decides_spared commit es c kind.End (other kind.End refl) k.fresh.undecided.unended;
          acknowledged = λ all n below. absurd (none_below n below);
        },
      );
    }

outcome_safe : (w : Work) (t : Tally) (es : List Event) (i : ℕ) → i < w.participants → Base w.participants t.told t.begun es
    → Telling w.participants (number t) t.told t.acknowledged i es
    → Safe w (state (at_step t (SendAck i)) (Written (Force (Participant i) (entry t kind.Commit)) ∷ es))
outcome_safe w t es i below b k =
    let commit : Write = Force (Participant i) (entry t kind.Commit) in
    let c = number t in
    let other = other_kind (entry t kind.Commit) c in
    record {
      base = base_stay commit w.participants t.told t.begun es refl b;
      step = (
        below,
        (
          record {
            told_so = k.told_so;
            is_decided = decides_stays commit es c kind.Commit k.is_decided;
            prepared = all_stay commit w.participants es c kind.Prepare k.prepared;
            unaborted = none_stay commit es c kind.Abort (other kind.Abort refl) k.unaborted;
            unended = decides_spared commit es c kind.End (other kind.End refl) k.unended;
            acknowledged = λ all. all_stay commit i es c kind.Commit (k.acknowledged all);
          },
          held (entry t kind.Commit) es i c kind.Commit (is_entry c kind.Commit refl),
        ),
      );
    }

abort_record_safe : (w : Work) → 1 ≤ w.participants → (t : Tally) (es : List Event) (n : ℕ) (next : Option ℕ) → Base w.participants t.told t.begun es
    → Undecided es (number t) → was_told t.told (number t) ≡ false
    → Safe w (state (abort_to w t next) (Written (Append (Participant n) (entry t kind.Abort)) ∷ es))
abort_record_safe w some t es n next b h untold =
    let abort : Write = Append (Participant n) (entry t kind.Abort) in
    let other = other_kind (entry t kind.Abort) (number t) in
    abort_safe w some t (Written abort ∷ es) next (base_stay abort w.participants t.told t.begun es refl b)
    (undecided_stay abort es (number t) (other kind.Commit refl) (other kind.End refl) h) untold

-- what stands before a step says how the transaction under way ends
settled_now : (p c : ℕ) (told votes : List ℕ) (all : Bool) (es : List Event) (step : Step) → StepSafe step p c told votes all es
    → Settled p es c (was_told told c)
settled_now p c told votes all es (SendPrepare i) r = untold_settled p c told es r.1.untold r.1.fresh.undecided
settled_now p c told votes all es (ForcePrepare i) r = untold_settled p c told es r.1.untold r.1.fresh.undecided
settled_now p c told votes all es (SendVote i Yes) r = untold_settled p c told es r.1.0.untold r.1.0.fresh.undecided
settled_now p c told votes all es (SendVote i No) r = untold_settled p c told es r.1.untold r.1.fresh.undecided
settled_now p c told votes all es ForceCommit r = untold_settled p c told es r.untold r.fresh.undecided
settled_now p c told votes all es ForceCommitAgain r = absurd r
settled_now p c told votes all es (SendCommit i) r = told_settled p c told es r.1.told_so (telling_committed p c told all i es r.1)
settled_now p c told votes all es (ForceOutcome i) r = told_settled p c told es r.1.told_so (telling_committed p c told all i es r.1)
settled_now p c told votes all es (SendAck i) r = told_settled p c told es r.1.0.told_so (telling_committed p c told all i es r.1.0)
settled_now p c told votes all es (SendAbort k) r = untold_settled p c told es r.1 r.0
settled_now p c told votes all es Over r = r

abbrev Stands : Work → Tally → List Event → Type 0
Stands w t es = Base w.participants t.told t.begun es

abbrev Before : Step → Work → Tally → List Event → Type 0
Before step w t es = StepSafe step w.participants (number t) t.told t.yes t.acknowledged es

go_safe : (w : Work) → 1 ≤ w.participants → (t : Tally) (es : List Event) (step : Step) → Stands w t es → Before step w t es
    → Safe w (state (on_go Sound w t step) (with_write (then_write Sound t step) (with_write (go_write Sound w t step) es)))
go_safe w some t es (SendPrepare i) b r = wish_safe w (wish w (number t) i) t es i r.0 b r.1
go_safe w some t es (ForcePrepare i) b r = prepared_safe w t es i r.0 b r.1
go_safe w some t es (SendVote i Yes) b r = vote_safe w some (with_yes t i) es i r.0 b (polled_yes (number t) t.told t.yes i es r.1.0 r.1.1)
go_safe w some t es (SendVote i No) b r = vote_safe w some t es i r.0 b (polled_lost (number t) t.told t.yes i es r.1)
go_safe w some t es ForceCommit b r = committed_safe w some t es b r
go_safe w some t es ForceCommitAgain b r = absurd r
go_safe w some t es (SendCommit i) b r = record { base = b; step = r }
go_safe w some t es (ForceOutcome i) b r = outcome_safe w t es i r.0 b r.1
go_safe w some t es (SendAck i) b r = commit_safe w some t es i b (telling_more w.participants (number t) t.told t.acknowledged i es r.1.0 r.1.1)
go_safe w some t es (SendAbort k) b r = abort_record_safe w some t es _ (next_of k (length t.yes)) b r.0 r.1
go_safe w some t es Over b r = record { base = b; step = r }

return_safe : (w : Work) → 1 ≤ w.participants → (t : Tally) (es : List Event) (step : Step) → Stands w t es → Before step w t es
    → Safe w (state (on_return Sound w t step) (with_write (return_write Sound w t step) es))
return_safe w some t es (SendPrepare i) b r = vote_safe w some t es i r.0 b (polled_lost (number t) t.told t.yes i es r.1)
return_safe w some t es (ForcePrepare i) b r = record { base = b; step = r }
return_safe w some t es (SendVote i Yes) b r = vote_safe w some t es i r.0 b (polled_lost (number t) t.told t.yes i es r.1.0)
return_safe w some t es (SendVote i No) b r = vote_safe w some t es i r.0 b (polled_lost (number t) t.told t.yes i es r.1)
return_safe w some t es ForceCommit b r = abort_safe w some t es (first_of (length t.yes)) b r.fresh.undecided r.untold
return_safe w some t es ForceCommitAgain b r = absurd r
return_safe w some t es (SendCommit i) b r = lost_safe w some t es i b r.1
return_safe w some t es (ForceOutcome i) b r = lost_safe w some t es i b r.1
return_safe w some t es (SendAck i) b r = lost_safe w some t es i b r.1.0
return_safe w some t es (SendAbort k) b r = abort_safe w some t es (next_of k (length t.yes)) b r.0 r.1
return_safe w some t es Over b r = record { base = b; step = r }

step_safe : (w : Work) → 1 ≤ w.participants → (s : State) (a : Reply) → Safe w s → Safe w (stepped Sound w s a)
step_safe w some s Go k = go_safe w some s.tally s.events s.tally.step k.base k.step
step_safe w some s (Return text) k = return_safe w some s.tally s.events s.tally.step k.base k.step
step_safe w some s Halt k = record {
  base = k.base;
  step = settled_now w.participants (number s.tally) s.tally.told s.tally.yes s.tally.acknowledged s.events s.tally.step k.step;
}

laid_safe : (w : Work) → 1 ≤ w.participants → (s : State) (answers : List Reply) → Safe w s → Safe w (laid Sound w s answers)
laid_safe w some s [] k = k
laid_safe w some s (a ∷ answers) k = laid_safe w some (stepped Sound w s a) answers (step_safe w some s a k)

-- ---- the start, and the end

-- If nothing is begun, nothing is written, and the client is told nothing.
laid_none : (w : Work) (answers : List Reply) → laid Sound w (state (at_step before_all Over) []) answers ≡ state (at_step before_all Over) []
laid_none w [] = refl
laid_none w (Go ∷ answers) = laid_none w answers
laid_none w (Return text ∷ answers) = laid_none w answers
laid_none w (Halt ∷ answers) = laid_none w answers

nothing_open : (k : ℕ) → Open [] k × (was_told [] k ≡ false)
nothing_open k = (record { undecided = record { undecided = refl; uncommitted = λ n. refl; unended = refl }; unaborted = λ n. refl }, refl)

abbrev SettledAt : Work → ℕ → State → Type 0
SettledAt w k s = Settled w.participants s.events k (was_told s.tally.told k)

safe_settled : (w : Work) (s : State) (k : ℕ) → Safe w s → SettledAt w k s
safe_settled w s k safe = in_case (nat_lt k s.tally.begun) refl
  where
    in_case : (before : Bool) → nat_lt k s.tally.begun ≡ before → SettledAt w k s
    in_case true e =
        let now = settled_now w.participants (number s.tally) s.tally.told s.tally.yes s.tally.acknowledged s.events s.tally.step safe.step in
        settled_all w.participants s.tally.told s.tally.begun s.events safe.base now k (ltb-true k s.tally.begun e)
    in_case false e =
        let is = safe.base.later k (ltb-false k s.tally.begun e) in
        untold_settled w.participants k s.tally.told s.events is.1 is.0.undecided

-- whatever is answered, each transaction is settled
pub all_settled : (w : Work) → 1 ≤ w.participants → (answers : List Reply) (k : ℕ) → SettledAt w k (laid Sound w (start_of w) answers)
all_settled w some answers k = in_case (nat_lt 0 (length w.transactions))
  where
    in_case : (more : Bool) → SettledAt w k (laid Sound w (state (cond more (first_asked before_all) (at_step before_all Over)) []) answers)
    in_case true =
        let first = state (first_asked before_all) [] in
        let begins = begun_safe w some before_all [] (λ i h. absurd (none_below i h)) (λ i h. nothing_open i) in
        safe_settled w (laid Sound w first answers) k (laid_safe w some first answers begins)
    in_case false = subst (SettledAt w k) (sym (laid_none w answers)) (nothing_open k).0.undecided

laid_kept : (w : Work) → 1 ≤ w.participants → (answers : List Reply) → judged_at w (laid Sound w (start_of w) answers) ≡ Kept
laid_kept w some answers =
    let s = laid Sound w (start_of w) answers in
    all_kept w.participants some s.tally.told s.events (known s.events) (own s.events) (restarted s.events) s.tally.begun (λ k h. all_settled w some answers k)

-- whatever is answered, and whatever of what is pending a cut keeps
pub sound_keeps : (w : Work) → 1 ≤ w.participants → (answers : List Reply) (keep : List Bool) → judged_keeping w (laid Sound w (start_of w) answers) keep ≡ Kept
sound_keeps w some answers keep =
    let s = laid Sound w (start_of w) answers in
    all_kept w.participants some s.tally.told s.events (known_keeping s.events keep) (own_keeping s.events keep) (all_kept_left s.events keep) s.tally.begun
    (λ k h. all_settled w some answers k)

-- whatever is answered, the sound variant keeps its word
pub sound_kept : (w : Work) → 1 ≤ w.participants → (answers : List Reply) (j : Judgement) → asks_of Sound w answers ≡ Done j → j ≡ Kept
sound_kept w some answers j e = done_kept (point_at (laid Sound w (start_of w) answers).tally.step) _ j (laid_kept w some answers) e
