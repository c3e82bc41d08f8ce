-- The sound variant holds what it promises after each step, whatever a power cut then keeps. A transaction's commit record is appended only once
-- all its records last, and it is acknowledged only once its commit record does.
use Rattle.std.specs.Prelude.{nat_lt, slice_index_or}
use Rattle.std.proofs.Common.{◌≡◌, ℕ, suc, ◌+◌, ◌<◌, ◌≤◌, ◌==◌, Bool, true, false, cond, ◌||◌, List, [], ◌∷◌, ◌++◌, length, refl, sym, ◌∙◌, ap, subst, arith}
use Rattle.std.specs.List.{AllByRecursion}
use Rattle.std.proofs.lemmas.Bool.Decides.{nat_tests}
use Rattle.std.proofs.lemmas.List.Folds.{list_any-append}
use Rattle.action_eval.specs.Answers.{Reply, Go, Return, Halt}
use Rattle.target_trait.specs.declared.judgement.Judgement.{Judgement}
use Rattle.target_trait.specs.declared.judgement.Judgement.TheVariants.{Kept}
use Rattle.target_trait.specs.Machine.{led}
use Rattle.target_trait.specs.Protocol.{by_table, table_step, state_after}
use Rattle.journal_target.specs.declared.variant.Variant.TheVariants.{Sound}
use Rattle.journal_target.specs.declared.step.Step.{Step}
use Rattle.journal_target.specs.declared.step.Step.TheVariants.{Appending, SyncingRecords, Committing, Syncing, Over}
use Rattle.journal_target.specs.Work.{records_of, record_at, HasNoMark}
use Rattle.journal_target.specs.File.{left}
use Rattle.journal_target.specs.Recovery.{scanned, start}
use Rattle.journal_target.specs.Judgement.{judged_by, judged_one, judged_from, was_acknowledged, or_then}
use Rattle.journal_target.specs.Steps.{Progress, at_step, append_step, appended, synced, acknowledged, begun, before_all, on_go, on_fail, judged, steps}
use Rattle.journal_target.proofs.Chunks.{Chunk, Record, Half, Commit, HalfCommit, bytes_of, IsPlain, one_if, either, whole_of, commit_of, wholes, commits, kept_of, IsOf, left_scanned, wholes_on, commits_on, plain_on, appended_is, synced_is}

abbrev count : List (List (List ℕ)) → ℕ → ℕ
count w i = length (records_of w i)

-- ---- what holds of a transaction, by its place

-- it is committed only with all its records lasting, and acknowledged only with its commit record lasting
record Settled (w : List (List (List ℕ))) (acked : List ℕ) (lasting waiting : List Chunk) (i : ℕ) : Type 0 where
  whole : either (commits (i + 1) lasting) (commits (i + 1) waiting) ≡ true → (wholes (i + 1) lasting ≡ count w i) × (wholes (i + 1) waiting ≡ 0)
  committed : was_acknowledged acked (i + 1) ≡ true → commits (i + 1) lasting ≡ true

-- it isn't committed, and so many of its records are written
record Fresh (acked : List ℕ) (lasting waiting : List Chunk) (i k : ℕ) : Type 0 where
  lasts : commits (i + 1) lasting ≡ false
  waits : commits (i + 1) waiting ≡ false
  told : was_acknowledged acked (i + 1) ≡ false
  written : wholes (i + 1) lasting + wholes (i + 1) waiting ≡ k

-- its records last, and its commit record is pending
record Waits (w : List (List (List ℕ))) (acked : List ℕ) (lasting waiting : List Chunk) (i : ℕ) : Type 0 where
  whole : wholes (i + 1) lasting ≡ count w i
  rest : wholes (i + 1) waiting ≡ 0
  waits : commits (i + 1) waiting ≡ true
  told : was_acknowledged acked (i + 1) ≡ false

-- What holds of the transaction under way, by the step that comes next.
abbrev Under : Step → List (List (List ℕ)) → List ℕ → List Chunk → List Chunk → ℕ → Type 0
Under (Appending place) w acked lasting waiting i = Fresh acked lasting waiting i place × (place < count w i)
Under SyncingRecords w acked lasting waiting i = Fresh acked lasting waiting i (count w i)
Under Committing w acked lasting waiting i = Fresh acked lasting waiting i (count w i) × (wholes (i + 1) waiting ≡ 0)
Under Syncing w acked lasting waiting i = Waits w acked lasting waiting i
Under Over w acked lasting waiting i = Settled w acked lasting waiting i

-- What holds of the file and of all transactions.
record Sturdy (w : List (List (List ℕ))) (p : Progress) : Type 0 where
  lasting : List Chunk
  waiting : List Chunk
  file : IsOf p.file lasting waiting
  plain : AllByRecursion IsPlain lasting
  others : AllByRecursion IsPlain waiting
  few : p.index + 1 < 253
  before : (i : ℕ) → i < p.index → Settled w p.acknowledged lasting waiting i
  behind : (i : ℕ) → p.index < i → Fresh p.acknowledged lasting waiting i 0
  under : Under p.step w p.acknowledged lasting waiting p.index

fresh_settled : (w : List (List (List ℕ))) (acked : List ℕ) (a b : List Chunk) (i k : ℕ) → Fresh acked a b i k → Settled w acked a b i
fresh_settled w acked a b i k h = record {
  whole = λ e. absurd (never (commits (i + 1) a) (commits (i + 1) b) h.lasts h.waits e);
  committed = λ e. absurd cc;
}
  where
    never : (x y : Bool) → x ≡ false → y ≡ false → either x y ≡ true → ⊥
    never true y p q e = cc
    never false true p q e = cc
    never false false p q e = cc

under_settled : (step : Step) (w : List (List (List ℕ))) (acked : List ℕ) (a b : List Chunk) (i : ℕ) → Under step w acked a b i → Settled w acked a b i
under_settled (Appending place) w acked a b i h = fresh_settled w acked a b i place h.0
under_settled SyncingRecords w acked a b i h = fresh_settled w acked a b i (count w i) h
under_settled Committing w acked a b i h = fresh_settled w acked a b i (count w i) h.0
under_settled Syncing w acked a b i h = record { whole = λ e. (h.whole, h.rest); committed = λ e. absurd cc }
under_settled Over w acked a b i h = h

-- ---- one append more

one_more : (t : ℕ) (b : List Chunk) (c : Chunk) (a : ℕ) → whole_of t c ≡ a → wholes t (b ++ c ∷ []) ≡ wholes t b + a
one_more t b c a h = let e = wholes_on t b (c ∷ []) in omega (arith, e, h)

same_commits : (t : ℕ) (b : List Chunk) (c : Chunk) → commit_of t c ≡ false → commits t (b ++ c ∷ []) ≡ commits t b
same_commits t b c h = commits_on t b (c ∷ []) ∙ ap (λ (x : Bool). either (commits t b) (either x false)) h ∙ none (commits t b)
  where
    none : (x : Bool) → either x false ≡ x
    none true = refl
    none false = refl

settled_more : (w : List (List (List ℕ))) (acked : List ℕ) (a b : List Chunk) (i : ℕ) (c : Chunk) → whole_of (i + 1) c ≡ 0 → commit_of (i + 1) c ≡ false
    → Settled w acked a b i → Settled w acked a (b ++ c ∷ []) i
settled_more w acked a b i c none other h =
    let same = same_commits (i + 1) b c other in
    let more = one_more (i + 1) b c 0 none in
    record {
      whole = λ e. let was = h.whole (ap (either (commits (i + 1) a)) (sym same) ∙ e) in (was.0, omega (arith, more, was.1));
      committed = h.committed;
    }

fresh_more : (acked : List ℕ) (a b : List Chunk) (i k : ℕ) (c : Chunk) (n : ℕ) → whole_of (i + 1) c ≡ n → commit_of (i + 1) c ≡ false
    → Fresh acked a b i k → Fresh acked a (b ++ c ∷ []) i (k + n)
fresh_more acked a b i k c n some other h =
    let more = one_more (i + 1) b c n some in
    let was = h.written in
    record { lasts = h.lasts; waits = same_commits (i + 1) b c other ∙ h.waits; told = h.told; written = omega (arith, more, was) }

fresh_same : (acked : List ℕ) (a b : List Chunk) (i k : ℕ) (c : Chunk) → whole_of (i + 1) c ≡ 0 → commit_of (i + 1) c ≡ false
    → Fresh acked a b i k → Fresh acked a (b ++ c ∷ []) i k
fresh_same acked a b i k c none other h =
    let more = one_more (i + 1) b c 0 none in
    let was = h.written in
    record { lasts = h.lasts; waits = same_commits (i + 1) b c other ∙ h.waits; told = h.told; written = omega (arith, more, was) }

-- ---- a sync

settled_synced : (w : List (List (List ℕ))) (acked : List ℕ) (a b : List Chunk) (i : ℕ) → Settled w acked a b i → Settled w acked (a ++ b) [] i
settled_synced w acked a b i h =
    let all = wholes_on (i + 1) a b in
    record {
      whole = λ e. let was = h.whole (sym (commits_on (i + 1) a b) ∙ sym (none (commits (i + 1) (a ++ b))) ∙ e) in (omega (arith, all, was.0, was.1), refl);
      committed = λ e. commits_on (i + 1) a b ∙ first (commits (i + 1) a) (commits (i + 1) b) (h.committed e);
    }
  where
    none : (x : Bool) → either x false ≡ x
    none true = refl
    none false = refl

    first : (x y : Bool) → x ≡ true → either x y ≡ true
    first true y e = refl
    first false y e = absurd cc

fresh_synced : (acked : List ℕ) (a b : List Chunk) (i k : ℕ) → Fresh acked a b i k → Fresh acked (a ++ b) [] i k
fresh_synced acked a b i k h =
    let all = wholes_on (i + 1) a b in
    let was = h.written in
    record {
      lasts = commits_on (i + 1) a b ∙ ap (λ (x : Bool). either x (commits (i + 1) b)) h.lasts ∙ h.waits;
      waits = refl;
      told = h.told;
      written = omega (arith, all, was);
    }

-- ---- one acknowledged more

told_more : (acked : List ℕ) (m t : ℕ) → (m == t) ≡ false → was_acknowledged (acked ++ m ∷ []) t ≡ was_acknowledged acked t
told_more acked m t other = list_any-append (λ (n : ℕ). n == t) acked (m ∷ []) ∙ ap (λ (x : Bool). was_acknowledged acked t || (x || false)) other ∙ none (was_acknowledged acked t)
  where
    none : (x : Bool) → (x || (false || false)) ≡ x
    none true = refl
    none false = refl

settled_told : (w : List (List (List ℕ))) (acked : List ℕ) (m : ℕ) (a b : List Chunk) (i : ℕ) → (m == (i + 1)) ≡ false
    → Settled w acked a b i → Settled w (acked ++ m ∷ []) a b i
settled_told w acked m a b i other h = record { whole = h.whole; committed = λ e. h.committed (sym (told_more acked m (i + 1) other) ∙ e) }

fresh_told : (acked : List ℕ) (m : ℕ) (a b : List Chunk) (i k : ℕ) → (m == (i + 1)) ≡ false → Fresh acked a b i k → Fresh (acked ++ m ∷ []) a b i k
fresh_told acked m a b i k other h = record { lasts = h.lasts; waits = h.waits; told = told_more acked m (i + 1) other ∙ h.told; written = h.written }

-- ---- the next record, and the next transaction

step_after : (w : List (List (List ℕ))) (acked : List ℕ) (a b : List Chunk) (i k : ℕ) (x : Bool) → nat_lt k (count w i) ≡ x → k ≤ count w i → Fresh acked a b i k
    → Under (cond x (Appending k) SyncingRecords) w acked a b i
step_after w acked a b i k true e few h = (h, grind (arith, nat_tests, e))
step_after w acked a b i k false e few h =
    let same : k ≡ count w i = grind (arith, nat_tests, e, few) in
    subst (λ (n : ℕ). Fresh acked a b i n) same h

-- If a transaction is over, the next is begun.
record Between (w : List (List (List ℕ))) (p : Progress) : Type 0 where
  lasting : List Chunk
  waiting : List Chunk
  file : IsOf p.file lasting waiting
  plain : AllByRecursion IsPlain lasting
  others : AllByRecursion IsPlain waiting
  few : p.index + 1 < 253
  before : (i : ℕ) → i < p.index → Settled w p.acknowledged lasting waiting i
  behind : (i : ℕ) → p.index < i → Fresh p.acknowledged lasting waiting i 0
  here : Settled w p.acknowledged lasting waiting p.index

up_to : (w : List (List (List ℕ))) (p : Progress) (h : Between w p) (i : ℕ) → i < p.index + 1 → Settled w p.acknowledged h.lasting h.waiting i
up_to w p h i lt = by_place (nat_lt i p.index) refl
  where
    by_place : (x : Bool) → nat_lt i p.index ≡ x → Settled w p.acknowledged h.lasting h.waiting i
    by_place true e = h.before i (grind (arith, nat_tests, e))
    by_place false e =
        let same : p.index ≡ i = grind (arith, nat_tests, e, lt) in
        subst (λ (n : ℕ). Settled w p.acknowledged h.lasting h.waiting n) same h.here

begun_by : (w : List (List (List ℕ))) (p : Progress) → length w ≤ 100 → Between w p → (x : Bool) → nat_lt (p.index + 1) (length w) ≡ x
    → Sturdy w (cond x (record { step = append_step Sound 0 (count w (p.index + 1)); index = p.index + 1; acknowledged = p.acknowledged; file = p.file }) (at_step Over p))
begun_by w p few h true e = record {
  lasting = h.lasting;
  waiting = h.waiting;
  file = h.file;
  plain = h.plain;
  others = h.others;
  few = grind (arith, nat_tests, e, few);
  before = up_to w p h;
  behind = λ i lt. h.behind i (omega (arith, lt));
  under = step_after w p.acknowledged h.lasting h.waiting (p.index + 1) 0 (nat_lt 0 (count w (p.index + 1))) refl (omega arith) (h.behind (p.index + 1) (omega arith));
}
begun_by w p few h false e = record {
  lasting = h.lasting;
  waiting = h.waiting;
  file = h.file;
  plain = h.plain;
  others = h.others;
  few = h.few;
  before = h.before;
  behind = h.behind;
  under = h.here;
}

next_begun : (w : List (List (List ℕ))) (p : Progress) → length w ≤ 100 → Between w p → Sturdy w (begun Sound w (p.index + 1) p)
next_begun w p few h = begun_by w p few h (nat_lt (p.index + 1) (length w)) refl

given_up : (w : List (List (List ℕ))) (p : Progress) → Sturdy w p → Between w p
given_up w p h = record {
  lasting = h.lasting;
  waiting = h.waiting;
  file = h.file;
  plain = h.plain;
  others = h.others;
  few = h.few;
  before = h.before;
  behind = h.behind;
  here = under_settled p.step w p.acknowledged h.lasting h.waiting p.index h.under;
}

-- ---- an append that neither is a whole record nor commits anything

between_more : (w : List (List (List ℕ))) (p : Progress) (c : Chunk) → IsPlain c → ((i : ℕ) → whole_of (i + 1) c ≡ 0) → ((i : ℕ) → commit_of (i + 1) c ≡ false)
    → Between w p → Between w (appended (bytes_of c) p)
between_more w p c plain none other h = record {
  lasting = h.lasting;
  waiting = h.waiting ++ c ∷ [];
  file = appended_is p.file h.lasting h.waiting c h.file;
  plain = h.plain;
  others = plain_on h.waiting (c ∷ []) h.others (plain, tt);
  few = h.few;
  before = λ i lt. settled_more w p.acknowledged h.lasting h.waiting i c (none i) (other i) (h.before i lt);
  behind = λ i lt. fresh_same p.acknowledged h.lasting h.waiting i 0 c (none i) (other i) (h.behind i lt);
  here = settled_more w p.acknowledged h.lasting h.waiting p.index c (none p.index) (other p.index) h.here;
}

-- ---- a step that goes on

is_own : (n : ℕ) → (n == n) ≡ true
is_own n = grind (arith, nat_tests)

is_other : (m i : ℕ) → i < m → ((m + 1) == (i + 1)) ≡ false
is_other m i lt = grind (arith, nat_tests, lt)

is_later : (m i : ℕ) → m < i → ((m + 1) == (i + 1)) ≡ false
is_later m i lt = grind (arith, nat_tests, lt)

record_written : (w : List (List (List ℕ))) (p : Progress) (place : ℕ) → HasNoMark w → (h : Sturdy w p)
    → Under (Appending place) w p.acknowledged h.lasting h.waiting p.index → Sturdy w (on_go Sound w p (Appending place))
record_written w p place plain h u =
    let c : Chunk = Record (p.index + 1) (record_at w p.index place) in
    record {
      lasting = h.lasting;
      waiting = h.waiting ++ c ∷ [];
      file = appended_is p.file h.lasting h.waiting c h.file;
      plain = h.plain;
      others = plain_on h.waiting (c ∷ []) h.others ((h.few, plain p.index place), tt);
      few = h.few;
      before = λ i lt. settled_more w p.acknowledged h.lasting h.waiting i c (ap one_if (is_other p.index i lt)) refl (h.before i lt);
      behind = λ i lt. fresh_same p.acknowledged h.lasting h.waiting i 0 c (ap one_if (is_later p.index i lt)) refl (h.behind i lt);
      under = step_after w p.acknowledged h.lasting (h.waiting ++ c ∷ []) p.index (place + 1) (nat_lt (place + 1) (count w p.index)) refl (omega (arith, u.1))
          (fresh_more p.acknowledged h.lasting h.waiting p.index place c 1 (ap one_if (is_own (p.index + 1))) refl u.0);
    }

records_synced : (w : List (List (List ℕ))) (p : Progress) (h : Sturdy w p) → Under SyncingRecords w p.acknowledged h.lasting h.waiting p.index
    → Sturdy w (on_go Sound w p SyncingRecords)
records_synced w p h u = record {
  lasting = h.lasting ++ h.waiting;
  waiting = [];
  file = synced_is p.file h.lasting h.waiting h.file;
  plain = plain_on h.lasting h.waiting h.plain h.others;
  others = tt;
  few = h.few;
  before = λ i lt. settled_synced w p.acknowledged h.lasting h.waiting i (h.before i lt);
  behind = λ i lt. fresh_synced p.acknowledged h.lasting h.waiting i 0 (h.behind i lt);
  under = (fresh_synced p.acknowledged h.lasting h.waiting p.index (count w p.index) u, refl);
}

commit_written : (w : List (List (List ℕ))) (p : Progress) (h : Sturdy w p) → Under Committing w p.acknowledged h.lasting h.waiting p.index
    → Sturdy w (on_go Sound w p Committing)
commit_written w p h u =
    let c : Chunk = Commit (p.index + 1) in
    let written = u.0.written in
    let more = one_more (p.index + 1) h.waiting c 0 refl in
    record {
      lasting = h.lasting;
      waiting = h.waiting ++ c ∷ [];
      file = appended_is p.file h.lasting h.waiting c h.file;
      plain = h.plain;
      others = plain_on h.waiting (c ∷ []) h.others (h.few, tt);
      few = h.few;
      before = λ i lt. settled_more w p.acknowledged h.lasting h.waiting i c refl (is_other p.index i lt) (h.before i lt);
      behind = λ i lt. fresh_same p.acknowledged h.lasting h.waiting i 0 c refl (is_later p.index i lt) (h.behind i lt);
      under = record {
        whole = omega (arith, written, u.1);
        rest = omega (arith, more, u.1);
        waits = commits_on (p.index + 1) h.waiting (c ∷ []) ∙ ap (λ (x : Bool). either (commits (p.index + 1) h.waiting) (either x false)) (is_own (p.index + 1))
            ∙ last (commits (p.index + 1) h.waiting);
        told = u.0.told;
      };
    }
  where
    last : (x : Bool) → either x true ≡ true
    last true = refl
    last false = refl

commit_synced : (w : List (List (List ℕ))) (p : Progress) (h : Sturdy w p) → Under Syncing w p.acknowledged h.lasting h.waiting p.index
    → Between w (acknowledged (synced p))
commit_synced w p h u =
    let all = wholes_on (p.index + 1) h.lasting h.waiting in
    let whole = u.whole in
    let rest = u.rest in
    record {
      lasting = h.lasting ++ h.waiting;
      waiting = [];
      file = synced_is p.file h.lasting h.waiting h.file;
      plain = plain_on h.lasting h.waiting h.plain h.others;
      others = tt;
      few = h.few;
      before = λ i lt. settled_told w p.acknowledged (p.index + 1) (h.lasting ++ h.waiting) [] i (is_other p.index i lt)
          (settled_synced w p.acknowledged h.lasting h.waiting i (h.before i lt));
      behind = λ i lt. fresh_told p.acknowledged (p.index + 1) (h.lasting ++ h.waiting) [] i 0 (is_later p.index i lt)
          (fresh_synced p.acknowledged h.lasting h.waiting i 0 (h.behind i lt));
      here = record {
        whole = λ e. (omega (arith, all, whole, rest), refl);
        committed = λ e. commits_on (p.index + 1) h.lasting h.waiting ∙ ap (either (commits (p.index + 1) h.lasting)) u.waits ∙ last (commits (p.index + 1) h.lasting);
      };
    }
  where
    last : (x : Bool) → either x true ≡ true
    last true = refl
    last false = refl

goes_by : (step : Step) (w : List (List (List ℕ))) (p : Progress) → length w ≤ 100 → HasNoMark w → (h : Sturdy w p)
    → Under step w p.acknowledged h.lasting h.waiting p.index → Sturdy w (on_go Sound w p step)
goes_by (Appending place) w p few plain h u = record_written w p place plain h u
goes_by SyncingRecords w p few plain h u = records_synced w p h u
goes_by Committing w p few plain h u = commit_written w p h u
goes_by Syncing w p few plain h u = next_begun w (acknowledged (synced p)) few (commit_synced w p h u)
goes_by Over w p few plain h u = h

-- ---- a step that fails

fails_by : (step : Step) (w : List (List (List ℕ))) (p : Progress) → length w ≤ 100 → HasNoMark w → Sturdy w p → Sturdy w (on_fail Sound w p step)
fails_by (Appending place) w p few plain h =
    let c : Chunk = Half (p.index + 1) (record_at w p.index place) in
    next_begun w (appended (bytes_of c) p) few (between_more w p c (h.few, plain p.index place) (λ i. refl) (λ i. refl) (given_up w p h))
fails_by SyncingRecords w p few plain h = next_begun w p few (given_up w p h)
fails_by Committing w p few plain h = next_begun w (appended (bytes_of HalfCommit) p) few (between_more w p HalfCommit tt (λ i. refl) (λ i. refl) (given_up w p h))
fails_by Syncing w p few plain h = next_begun w p few (given_up w p h)
fails_by Over w p few plain h = h

-- ---- the whole run

nothing_fresh : (i : ℕ) → Fresh [] [] [] i 0
nothing_fresh i = record { lasts = refl; waits = refl; told = refl; written = refl }

first_by : (w : List (List (List ℕ))) (x : Bool) → nat_lt 0 (length w) ≡ x
    → Sturdy w (cond x (record { step = append_step Sound 0 (count w 0); index = 0; acknowledged = []; file = before_all.file }) (at_step Over before_all))
first_by w true e = record {
  lasting = [];
  waiting = [];
  file = record { bytes = refl; synced = refl; pending = refl };
  plain = tt;
  others = tt;
  few = omega arith;
  before = λ i lt. fresh_settled w [] [] [] i 0 (nothing_fresh i);
  behind = λ i lt. nothing_fresh i;
  under = step_after w [] [] [] 0 0 (nat_lt 0 (count w 0)) refl (omega arith) (nothing_fresh 0);
}
first_by w false e = record {
  lasting = [];
  waiting = [];
  file = record { bytes = refl; synced = refl; pending = refl };
  plain = tt;
  others = tt;
  few = omega arith;
  before = λ i lt. fresh_settled w [] [] [] i 0 (nothing_fresh i);
  behind = λ i lt. nothing_fresh i;
  under = fresh_settled w [] [] [] 0 0 (nothing_fresh 0);
}

answered : (w : List (List (List ℕ))) → length w ≤ 100 → HasNoMark w → (p : Progress) (halted : Bool) (a : Reply) → Sturdy w p
    → Sturdy w (table_step (steps Sound w) (p, halted) a).0
answered w few plain p true a h = h
answered w few plain p false Go h = goes_by p.step w p few plain h h.under
answered w few plain p false (Return text) h = fails_by p.step w p few plain h
answered w few plain p false Halt h = h

led_sturdy : (w : List (List (List ℕ))) → length w ≤ 100 → HasNoMark w → (x : Progress × Bool) (own : List Reply) → Sturdy w x.0
    → Sturdy w (led (by_table (steps Sound w)) x own).0
led_sturdy w few plain x [] h = h
led_sturdy w few plain (p, halted) (a ∷ own) h = led_sturdy w few plain (table_step (steps Sound w) (p, halted) a) own (answered w few plain p halted a h)

-- ---- the judgement

kept_few : (t : ℕ) (cs : List Chunk) (keep : List Bool) → wholes t (kept_of cs keep) ≤ wholes t cs
kept_few t [] keep = omega arith
kept_few t (c ∷ cs) [] = omega arith
kept_few t (c ∷ cs) (true ∷ keep) = let few = kept_few t cs keep in omega (arith, few)
kept_few t (c ∷ cs) (false ∷ keep) = let few = kept_few t cs keep in omega (arith, few)

either_kept : (a b c : Bool) → (b ≡ true → c ≡ true) → either a b ≡ true → either a c ≡ true
either_kept true b c h e = refl
either_kept false b c h e = h e

kept_commits : (t : ℕ) (cs : List Chunk) (keep : List Bool) → commits t (kept_of cs keep) ≡ true → commits t cs ≡ true
kept_commits t [] keep e = absurd cc
kept_commits t (c ∷ cs) [] e = absurd cc
kept_commits t (c ∷ cs) (true ∷ keep) e = either_kept (commit_of t c) (commits t (kept_of cs keep)) (commits t cs) (kept_commits t cs keep) e
kept_commits t (c ∷ cs) (false ∷ keep) e = second (commit_of t c) (commits t cs) (kept_commits t cs keep e)
  where
    second : (a b : Bool) → b ≡ true → either a b ≡ true
    second true b h = refl
    second false b h = h

fine : (a b c : Bool) → (a ≡ true → b ≡ true) → (c ≡ true → a ≡ true) → judged_by a b c ≡ Kept
fine true true c f g = refl
fine true false c f g = let bad : false ≡ true = f refl in absurd cc
fine false b true f g = let bad : false ≡ true = g refl in absurd cc
fine false b false f g = refl

settled_at : (w : List (List (List ℕ))) (p : Progress) (h : Sturdy w p) (i : ℕ) → Settled w p.acknowledged h.lasting h.waiting i
settled_at w p h i = by_place (nat_lt i p.index) (nat_lt p.index i) refl refl
  where
    by_place : (x y : Bool) → nat_lt i p.index ≡ x → nat_lt p.index i ≡ y → Settled w p.acknowledged h.lasting h.waiting i
    by_place true y e f = h.before i (grind (arith, nat_tests, e))
    by_place false true e f = fresh_settled w p.acknowledged h.lasting h.waiting i 0 (h.behind i (grind (arith, nat_tests, f)))
    by_place false false e f =
        let same : p.index ≡ i = grind (arith, nat_tests, e, f) in
        subst (λ (n : ℕ). Settled w p.acknowledged h.lasting h.waiting n) same (under_settled p.step w p.acknowledged h.lasting h.waiting p.index h.under)

one_kept : (w : List (List (List ℕ))) (p : Progress) (keep : List Bool) (h : Sturdy w p) (i : ℕ) → judged_one Sound p.acknowledged (left p.file keep) (i + 1) (count w i) ≡ Kept
one_kept w p keep h i =
    let t : ℕ = i + 1 in
    let s = settled_at w p h i in
    let found = scanned t start (left p.file keep) in
    let adds = left_scanned t start p.file h.lasting h.waiting keep (omega arith) h.file h.plain h.others in
    let sum = adds.whole in
    let few = kept_few t h.waiting keep in
    let committed : found.committed ≡ either (commits t h.lasting) (commits t (kept_of h.waiting keep)) =
    adds.committed ∙ none (either (commits t h.lasting) (commits t (kept_of h.waiting keep))) in
    fine found.committed (found.whole == count w i) (was_acknowledged p.acknowledged t)
    (λ e. let all = s.whole (either_kept (commits t h.lasting) (commits t (kept_of h.waiting keep)) (commits t h.waiting) (kept_commits t h.waiting keep) (sym committed ∙ e)) in
    let first = all.0 in
    let rest = all.1 in
    let same : found.whole ≡ count w i = omega (arith, sum, few, first, rest) in
    grind (arith, nat_tests, same))
    (λ e. committed ∙ ap (λ (x : Bool). either x (commits t (kept_of h.waiting keep))) (s.committed e))
  where
    none : (x : Bool) → either x false ≡ x
    none true = refl
    none false = refl

all_kept : (acked bytes : List ℕ) (number : ℕ) (ws : List (List (List ℕ)))
    → ((j n : ℕ) → n ≡ number + j → judged_one Sound acked bytes n (length (slice_index_or ws j [])) ≡ Kept) → judged_from Sound acked bytes number ws ≡ Kept
all_kept acked bytes number [] each = refl
all_kept acked bytes number (records ∷ more) each =
    ap (λ (x : Judgement). or_then x (judged_from Sound acked bytes (number + 1) more)) (each 0 number (omega arith))
    ∙ all_kept acked bytes (number + 1) more (λ j n e. each (suc j) n (omega (arith, e)))

sturdy_kept : (w : List (List (List ℕ))) (p : Progress) (keep : List Bool) → Sturdy w p → judged Sound w p keep ≡ Kept
sturdy_kept w p keep h = all_kept p.acknowledged (left p.file keep) 1 w
    (λ j n e. let same : n ≡ j + 1 = omega (arith, e) in
    ap (λ (t : ℕ). judged_one Sound p.acknowledged (left p.file keep) t (count w j)) same ∙ one_kept w p keep h j)

-- whatever was answered, and whatever is kept
pub sound_keeps : (w : List (List (List ℕ))) → length w ≤ 100 → HasNoMark w → (own : List Reply) (keep : List Bool)
    → judged Sound w (state_after (steps Sound w) own) keep ≡ Kept
sound_keeps w few plain own keep =
    sturdy_kept w (state_after (steps Sound w) own) keep (led_sturdy w few plain ((steps Sound w).first, false) own (first_by w (nat_lt 0 (length w)) refl))
