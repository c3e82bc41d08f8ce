-- What each worker took, and what it answered and kept.
use Rattle.std.proofs.Common.{◌≡◌, ℕ, ◌+◌, ◌<◌, Bool, List, [], count_by, Option, Some, None, option_to_list, length, get_or, sym, ap, ◌∙◌, refl, arith}
use Rattle.crossbeam_deque.specs.Handles.{worker_view}
use Rattle.worker_pool.specs.declared.queue.Next.{Next}
use Rattle.worker_pool.specs.declared.queue.LocalQueue.{LocalQueue}
use Rattle.worker_pool.specs.declared.active.ActiveWorker.{ActiveWorker}
use Rattle.worker_pool.specs.inside.Queues.{took, taken_next, kept_by, SameQueue}
use Rattle.worker_pool.specs.inside.Ring.{Fresh, TakenIn, SameOwn, stolen_by, stolen_from}
use Rattle.worker_pool.specs.Workers.{answered_at}
use Rattle.worker_pool.specs.inside.ActiveWorkers.{answered_by, answers_of, IsBalanced}
use Rattle.worker_pool.proofs.Places.{map_get}
use Rattle.worker_pool.proofs.Same.{none_kept}

-- what was stolen from the next deque is what the queue's thief's pass took, where the next queue knows of no theft
stolen_taken : (test : ℕ → Bool) (o : Option Next) (e : LocalQueue) → (worker_view e.own).stolen ≡ [] → stolen_from test o e ≡ taken_next test o
stolen_taken test None e none = ap (count_by test) none
stolen_taken test (Some n) e none = refl

abbrev pub popped_by : (ℕ → Bool) → LocalQueue → ℕ
popped_by test d = count_by test (worker_view d.own).popped

-- a queue that has no pass at the next took what it popped
took_own : (test : ℕ → Bool) (d : LocalQueue) → TakenIn d → took test d ≡ popped_by test d
took_own test d h = let e = ap (taken_next test) h.next in omega arith

-- A worker from before the run to its end: dealt, back, absorbed and last are its queue, before and behind the next.
pub worker_took : {J A S : Type 0} (test : ℕ → Bool) (count : ℕ) (begun worked finished : ActiveWorker J A S)
    (dealt back absorbed last before behind absorbed' last' : LocalQueue)
    → Fresh count dealt → (worker_view before.own).stolen ≡ [] → begun.answers.items ≡ []
    → IsBalanced begun worked dealt back → SameQueue before behind
    → SameOwn back absorbed → TakenIn absorbed → stolen_by test absorbed' ≡ stolen_from test back.next behind
    → IsBalanced worked finished absorbed last → TakenIn last → (worker_view last'.own).stolen ≡ (worker_view absorbed'.own).stolen
    → popped_by test last + stolen_by test last' ≡ answered_by test finished + kept_by test last
worker_took {A = A} test count begun worked finished dealt back absorbed last before behind absorbed' last' fresh none empty on same own taken_in stolen on'
    taken_in' same' =
    let a = on test in
    let b = on' test in
    let first = fresh.took_none test in
    let unkept = none_kept test dealt.kept fresh.kept in
    let unanswered : answered_by test begun ≡ 0 = ap (λ (xs : List (ℕ × A)). count_by (λ p. test p.0) xs) empty in
    let popped = ap (count_by test) own.popped in
    let kept = ap (λ (o : Option ℕ). count_by test (option_to_list o)) own.kept in
    let own_absorbed = took_own test absorbed taken_in in
    let own_last = took_own test last taken_in' in
    let theft = stolen_taken test back.next behind (same.stolen ∙ none) in
    let theft' = ap (count_by test) same' in
    omega arith

pub answered_is : {J A S : Type 0} (test : ℕ → Bool) (ss : List (ActiveWorker J A S)) (k : ℕ) (s : ActiveWorker J A S) → k < length ss
    → answered_at test (answers_of ss) k ≡ answered_by test (get_or ss k s)
answered_is {J = J} {A = A} {S = S} test ss k s within = ap (λ (xs : List (ℕ × A)). count_by (λ p. test p.0) xs)
    (sym (map_get (λ (x : ActiveWorker J A S). x.answers.items) ss k s [] within))
