-- If tickets are dealt round, each deque has room for the next.
use Rattle.std.proofs.Common.{◌≡◌, ◌∙◌, ℕ, ◌+◌, ◌*◌, ◌/◌, ◌%◌, ◌<◌, ◌≤◌, cond, add-one, List, [], ◌∷◌, ◌++◌, count_by, length, get_or, set, sym, ap, subst}
use Rattle.std.proofs.Common.{arith}
use Rattle.std.proofs.lemmas.Nat.{le-div}
use Rattle.std.proofs.Math.Nat.{lt_of_mul-lt-mul_right, mul-le-mul_right}
use Rattle.std.proofs.lemmas.List.Elements.{All-same, All-push, All-nil}
use Rattle.std.proofs.lemmas.List.Sums.{sum_by-set, sum_by_push}
use Rattle.crossbeam_deque.specs.Handles.{worker_index, worker_capacity, worker_view}
use Rattle.worker_pool.specs.declared.queue.LocalQueue.{LocalQueue}
use Rattle.std.specs.List.{sum_by}
use Rattle.worker_pool.specs.declared.rule.View.{View}
use Rattle.worker_pool.specs.Tickets.{count_below}
use Rattle.worker_pool.specs.inside.Parts.{more_pushed}
use Rattle.worker_pool.specs.inside.Queues.{taken_next, NextBelow, SameButOwn}
use Rattle.worker_pool.specs.inside.Ring.{pushed_by, DealtRound, PushedOnce, Whole}
use Rattle.worker_pool.proofs.Places.{holds_set}

-- an empty deque with room for so many tickets
abbrev pub HasRoom : ℕ → LocalQueue → Type 0
HasRoom room d = ((worker_view d.own).pushed ≡ []) × (worker_index d.own ≡ 0) × (room ≤ worker_capacity d.own)

pub begins_round : (n room j : ℕ) (d : LocalQueue) → j < n → HasRoom room d → DealtRound n room 0 j d
begins_round n room j d within has = record {
  dealt = All-same (λ x. x % n ≡ j) (worker_view d.own).pushed [] has.0 (All-nil (λ x. x % n ≡ j));
  index = subst (λ (i : ℕ). i * n + j < 0 + n) (sym has.1) (omega arith);
  room = has.2;
}

-- a queue that was dealt i tickets, r of them being its own number, has had no more than the rounds that are over
rounds_over : (i n q r : ℕ) → i * n + r < q * n + r + n → i < q + 1
rounds_over i n q r lt = lt_of_mul-lt-mul_right n (let e : (q + 1) * n ≡ q * n + n = omega arith in omega arith)

dealt_few : (i n number k : ℕ) → 0 < n → k ≡ number % n → i * n + k < number + n → i < number / n + 1
dealt_few i n number k some is lt = rounds_over i n (number / n) k (let e : number ≡ number / n * n + number % n = omega arith in omega arith)

more_rounds : (number count n : ℕ) → 0 < n → number < count → number / n ≤ count / n
more_rounds number count n some lt = le-div (number / n) count n some (let e : number ≡ number / n * n + number % n = omega arith in omega arith)

pub has_room : (number count k : ℕ) (n : ℕ) (d : LocalQueue) → 0 < n → k ≡ number % n → number < count → DealtRound n (count / n + 1) number k d
    → worker_index d.own < worker_capacity d.own
has_room number count k n d some is lt h =
    let low = dealt_few (worker_index d.own) n number k some is h.index in
    let rounds = more_rounds number count n some lt in
    let most = h.room in
    omega arith

next_index : (i n number k : ℕ) → 0 < n → k ≡ number % n → i < number / n + 1 → (i + 1) * n + k < number + 1 + n
next_index i n number k some is low =
    let most : i * n ≤ number / n * n = mul-le-mul_right n (omega arith) in
    let one : (i + 1) * n ≡ i * n + n = omega arith in
    let e : number ≡ number / n * n + number % n = omega arith in
    omega arith

pub dealt_next : (most number k : ℕ) (n : ℕ) (d e : LocalQueue) → 0 < n → k ≡ number % n → worker_index e.own ≡ worker_index d.own + 1
    → worker_capacity d.own ≤ worker_capacity e.own → (worker_view e.own).pushed ≡ (worker_view d.own).pushed ++ number ∷ [] → DealtRound n most number k d
    → DealtRound n most (number + 1) k e
dealt_next most number k n d e some is index room pushed h = record {
  dealt = All-same (λ x. x % n ≡ k) (worker_view e.own).pushed _ pushed (All-push (λ x. x % n ≡ k) (worker_view d.own).pushed number h.dealt (sym is));
  index = (let low = dealt_few (worker_index d.own) n number k some is h.index in let next = next_index (worker_index d.own) n number k some is low in subst
      (λ (i : ℕ). i * n + k < number + 1 + n) (sym index) next);
  room = (let r = h.room in omega arith);
}

-- a queue with no thief's pass yet is dealt one more ticket
pub whole_dealt : (count ticket : ℕ) (old new : LocalQueue) → SameButOwn old new → worker_view new.own ≡ more_pushed (ticket ∷ []) (worker_view old.own)
    → ticket < count → Whole count old → Whole count new
whole_dealt count ticket old new same view below was = record {
  fresh = record {
    below = (
      All-same (λ x. x < count) (worker_view new.own).pushed ((worker_view old.own).pushed ++ ticket ∷ []) (ap (λ (v : View). v.pushed) view)
          (All-push (λ x. x < count) (worker_view old.own).pushed ticket was.fresh.below.0 below),
      subst (NextBelow count) (sym same.0) was.fresh.below.1,
    );
    kept = same.1 ∙ was.fresh.kept;
    took_none = λ test. omega (arith, ap (λ (v : View). count_by test v.popped) view, ap (taken_next test) same.0, was.fresh.took_none test);
    stolen = ap (λ (v : View). v.stolen) view ∙ was.fresh.stolen;
  };
  next = same.0 ∙ was.next;
  right = (let e = ap (λ (v : View). v.steal_right) view in let r = was.right in omega arith);
}

-- .. and over all queues its number was pushed once more
pub once_dealt : (ticket k : ℕ) (ds : List LocalQueue) (old new : LocalQueue) → old ≡ get_or ds k old
    → (worker_view new.own).pushed ≡ (worker_view old.own).pushed ++ ticket ∷ [] → k < length ds
    → PushedOnce ticket ds → PushedOnce (ticket + 1) (set ds k new)
once_dealt ticket k ds old new is pushed within once test =
    let more : pushed_by test new ≡ pushed_by test old + cond (test ticket) 1 0 =
    ap (count_by test) pushed ∙ sum_by_push (λ x. cond (test x) 1 0) (worker_view old.own).pushed ticket in
    let there : pushed_by test old ≡ pushed_by test (get_or ds k old) = ap (pushed_by test) is in
    let all : sum_by (pushed_by test) (set ds k new) + pushed_by test (get_or ds k old) ≡ sum_by (pushed_by test) ds + pushed_by test new =
    sum_by-set (pushed_by test) ds k new old within in
    let was : sum_by (pushed_by test) ds ≡ count_below test ticket = once test in
    let next : count_below test (ticket + 1) ≡ count_below test ticket + cond (test ticket) 1 0 = ap (count_below test) (add-one ticket) in
    omega (arith, more, there, all, was, next)

DealtRound-later : (most number k n : ℕ) (d : LocalQueue) → DealtRound n most number k d → DealtRound n most (number + 1) k d
DealtRound-later most number k n d h = record {
  dealt = h.dealt;
  index = (let i = h.index in omega arith);
  room = h.room;
}

pub dealt_all : (most number k n : ℕ) (ds : List LocalQueue) (old new : LocalQueue) → 0 < n → k ≡ number % n → old ≡ get_or ds k old
    → worker_index new.own ≡ worker_index old.own + 1 → worker_capacity old.own ≤ worker_capacity new.own
    → (worker_view new.own).pushed ≡ (worker_view old.own).pushed ++ number ∷ []
    → k < n → ((j : ℕ) (d : LocalQueue) → j < n → DealtRound n most number j (get_or ds j d)) → (j : ℕ) (d : LocalQueue) → j < n
    → DealtRound n most (number + 1) j (get_or (set ds k new) j d)
dealt_all most number k n ds old new some is old_is index room pushed within all j d lt =
    holds_set (λ (i : ℕ) (x : LocalQueue). i < n → DealtRound n most (number + 1) i x) ds k new d
    (λ _. dealt_next most number k n old new some is index room pushed (subst (DealtRound n most number k) (sym old_is) (all k old within)))
    (λ i low. DealtRound-later most number i n (get_or ds i d) (all i d low)) j lt
