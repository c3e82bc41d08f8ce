-- After the joins all deques and workers together are in a state that steps of the workers lead to.
use Rattle.std.proofs.Common.{◌≡◌, ◌∙◌, ℕ, ◌+◌, ◌<◌, ◌%◌, All, Bool, List, [], count_by, length, get_or, ap, arith}
use Rattle.std.proofs.lemmas.List.Elements.{All-same}
use Rattle.crossbeam_deque.specs.Handles.{worker_view}
use Rattle.worker_pool.specs.declared.queue.LocalQueue.{LocalQueue}
use Rattle.worker_pool.specs.declared.active.ActiveWorker.{ActiveWorker}
use Rattle.worker_pool.specs.inside.Queues.{kept_by}
use Rattle.worker_pool.specs.Workers.{answered_at, SharesAll, SharesPart}
use Rattle.worker_pool.specs.inside.Parts.{IsWhole}
use Rattle.worker_pool.specs.inside.Ring.{next_of, pushed_by, stolen_by, AreDealtRound, Fresh, IsDone, IsSettled, KnowStolen, PushedOnce, SameOwns, TakenIn}
use Rattle.worker_pool.specs.inside.ActiveWorkers.{answered_by, answers_of, EachQueue, EachFinishes, EachWorked}
use Rattle.worker_pool.proofs.Places.{sums_by_place}
use Rattle.worker_pool.proofs.Rings.{next_of-within}
use Rattle.worker_pool.proofs.Rounds.{pick}
use Rattle.worker_pool.proofs.Same.{none_kept}
use Rattle.worker_pool.proofs.Sharing.{shares_all, shares_part}
use Rattle.worker_pool.proofs.Balance.{popped_by, worker_took, answered_is}

module _ {J A S T : Type 0} (setup : J → T) (limit : T → ℕ) (answers : T → ℕ → A → Type 0) (n : ℕ) (some_worker : 0 < n)
    (begun worked finished : List (ActiveWorker J A S)) (dealt back absorbed ends : List LocalQueue)
    (len_begun : length begun ≡ n) (len_finished : length finished ≡ n)
    (len_dealt : length dealt ≡ n) (len_absorbed : length absorbed ≡ n) (len_ends : length ends ≡ n)
    (fresh : EachQueue Fresh setup limit n begun dealt)
    (rest : All (λ (s : ActiveWorker J A S). s.answers.items ≡ []) begun)
    (round : AreDealtRound n dealt)
    (works : EachWorked setup limit answers n begun worked dealt back)
    (whole : All TakenIn absorbed)
    (stolen : KnowStolen n n back absorbed)
    (own : SameOwns back absorbed)
    (finishes : EachFinishes setup answers n worked finished absorbed ends)
    (settled : All IsSettled ends) where
  in_ends : 0 < length ends
  in_ends = omega arith

  in_begun : 0 < length begun
  in_begun = omega arith

  any_queue : LocalQueue
  any_queue = pick ends 0 in_ends

  any_active : ActiveWorker J A S
  any_active = pick begun 0 in_begun

  abbrev at : List LocalQueue → ℕ → LocalQueue
  at ds k = get_or ds k any_queue

  -- what was pushed stays, queue by queue
  same_pushed : (k : ℕ) → k < n → (worker_view (at ends k).own).pushed ≡ (worker_view (at dealt k).own).pushed
  same_pushed k in_k = (finishes k any_active any_queue in_k).pushed ∙ (own k any_queue).pushed ∙ (works k any_active any_queue in_k).same.pushed

  still_round : (k : ℕ) → k < n → All (λ x. x % n ≡ k) (worker_view (at ends k).own).pushed
  still_round k in_k = All-same (λ x. x % n ≡ k) (worker_view (at ends k).own).pushed (worker_view (at dealt k).own).pushed (same_pushed k in_k)
      (round k any_queue in_k)

  still_once : (count : ℕ) → PushedOnce count dealt → PushedOnce count ends
  still_once count once test =
      sums_by_place (pushed_by test) ends dealt (omega arith) (λ k d lt. let in_k : k < n = omega arith in
      ap (count_by test) ((finishes k any_active d in_k).pushed ∙ (own k d).pushed ∙ (works k any_active d in_k).same.pushed)) ∙ once test

  settled_at : (k : ℕ) → k < n → (held : List ℕ) × IsWhole (worker_view (at ends k).own) held
  settled_at k in_k = let h = settled k any_queue (omega arith) in (h.held, h.whole)

  -- what worker k took, it answered or keeps
  took_at : (test : ℕ → Bool) (k : ℕ) → k < n
      → popped_by test (at ends k) + stolen_by test (at ends (next_of n k)) ≡ answered_by test (get_or finished k any_active) + kept_by test (at ends k)
  took_at test k in_k =
      let next = next_of n k in
      let in_next : next_of n k < n = next_of-within n k in_k in
      let w = works k any_active any_queue in_k in
      let f = finishes k any_active any_queue in_k in
      worker_took test (limit (setup (get_or begun k any_active).worker.job)) (get_or begun k any_active) (get_or worked k any_active)
      (get_or finished k any_active)
      (at dealt k) (at back k) (at absorbed k) (at ends k) (at dealt next) (at back next) (at absorbed next) (at ends next) (fresh k any_active any_queue in_k)
      (fresh next any_active any_queue in_next).stolen (rest k any_active (omega arith))
      w.once (works next any_active any_queue in_next).same
      (own k any_queue) (whole k any_queue (omega arith)) (stolen test k any_queue in_k)
      f.once f.taken_in (finishes next any_active any_queue in_next).stolen

  answers_at : (test : ℕ → Bool) (k : ℕ) → k < n → answered_at test (answers_of finished) k ≡ answered_by test (get_or finished k any_active)
  answers_at test k in_k = answered_is test finished k any_active (omega arith)

  pub part_shared : (count : ℕ) → PushedOnce count dealt → SharesPart n count (answers_of finished)
  part_shared count once = shares_part n ends any_queue len_ends settled_at still_round count (answers_of finished) (still_once count once)
      (λ test k in_k. let a = answers_at test k in_k in let b = took_at test k in_k in omega arith)

  pub all_shared : ((k : ℕ) (d : LocalQueue) → k < n → IsDone (get_or ends k d)) → (count : ℕ) → PushedOnce count dealt → SharesAll n count (answers_of finished)
  all_shared done count once = shares_all n ends any_queue len_ends settled_at still_round count (answers_of finished) (still_once count once)
      (λ k in_k. (done k any_queue in_k).all)
      (λ test k in_k. let a = answers_at test k in_k in let b = took_at test k in_k in let none = none_kept test (at ends k).kept (done k any_queue in_k).kept in
      omega arith)
