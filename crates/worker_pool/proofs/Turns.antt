-- An active worker that goes on, turn after turn.
use Rattle.std.proofs.Common.{◌≡◌, ◌≢◌, ◌⊎◌, inl, inr, ◌∙◌, ℕ, zero, suc, ◌+◌, ◌<◌, ◌≤◌, ◌^◌, List, All, Option, Some, count_by, length, get_or, ⊎_elim, refl}
use Rattle.std.proofs.Common.{sym, ap, subst, arith}
use mathlib.Core.Logic.{dite}
use native.Mathlib.Decide.{ℕ_discrete}
use Rattle.worker_pool.specs.declared.worker.Worker.{Worker}
use Rattle.worker_pool.specs.declared.queue.LocalQueue.{LocalQueue}
use Rattle.worker_pool.specs.declared.active.ActiveWorker.{ActiveWorker}
use Rattle.worker_pool.specs.inside.Queues.{KeptBelow}
use Rattle.worker_pool.specs.inside.Ring.{TakenIn}
use Rattle.worker_pool.specs.inside.ActiveWorkers.{IsRight, SameWork, GoesOn, Worked, WorkedAt, Finishes, EachFinishes}
use Rattle.worker_pool.proofs.Same.{SameQueue-trans}

-- o, m and n: a count before, on the way and after, with the lengths a, b and d
counted_on : (o m n a b d : ℕ) → a ≤ b → b ≤ d → (o + b < 2 ^ 64 + a → m + a ≡ o + b) → (m + d < 2 ^ 64 + b → n + b ≡ m + d) → o + d < 2 ^ 64 + a
    → n + a ≡ o + d
counted_on o m n a b d le le' was now fits =
    let e : m + a ≡ o + b = was (omega arith) in
    let e' : n + b ≡ m + d = now (omega arith) in
    omega arith

lt_or_le : (j m : ℕ) → (j < m) ⊎ (m ≤ j)
lt_or_le zero zero = inr (omega arith)
lt_or_le zero (suc m) = inl (omega arith)
lt_or_le (suc j) zero = inr (omega arith)
lt_or_le (suc j) (suc m) = elim (lt_or_le j m) [ inl low ↦ inl (omega arith) | inr high ↦ inr (omega arith) ]

module _ {J A S T : Type 0} (setup : J → T) (limit : T → ℕ) (answers : T → ℕ → A → Type 0) where
  pub GoesOn-refl : (s : ActiveWorker J A S) → GoesOn setup answers s s
  GoesOn-refl s = record { stays = refl; right = λ all. all; grows = omega arith; counted = λ fits. refl }

  pub GoesOn-trans : (s t u : ActiveWorker J A S) → GoesOn setup answers s t → GoesOn setup answers t u → GoesOn setup answers s u
  GoesOn-trans s t u was now = record {
    stays = now.stays ∙ was.stays;
    right = λ all. subst (λ (v : T). IsRight answers v u) was.stays (now.right (subst (λ (v : T). IsRight answers v t) (sym was.stays) (was.right all)));
    grows = (let a = was.grows in let b = now.grows in omega arith);
    counted = counted_on _ _ _ _ _ _ was.grows now.grows was.counted now.counted;
  }

  -- .. to active workers of the same workers and answers
  pub GoesOn-along : (s t s' t' : ActiveWorker J A S) → SameWork s s' → SameWork t t' → GoesOn setup answers s t → GoesOn setup answers s' t'
  GoesOn-along s t s' t' same same' was = record {
    stays = ap (λ (h : Worker J A S). setup h.job) same'.0 ∙ was.stays ∙ sym (ap (λ (h : Worker J A S). setup h.job) same.0);
    right = λ all.
        subst (λ (xs : List (ℕ × A)). All (λ p. answers (setup s'.worker.job) p.0 p.1) xs) (sym same'.1)
        (subst (λ (h : Worker J A S). All (λ p. answers (setup h.job) p.0 p.1) t.answers.items) (sym same.0)
        (was.right (subst (λ (h : Worker J A S). All (λ p. answers (setup h.job) p.0 p.1) s.answers.items) same.0
        (subst (λ (xs : List (ℕ × A)). All (λ p. answers (setup s'.worker.job) p.0 p.1) xs) same.1 all))));
    grows = (let a = was.grows in let b = ap (λ (xs : List (ℕ × A)). length xs) same.1 in let d = ap (λ (xs : List (ℕ × A)). length xs) same'.1 in omega arith);
    counted = λ fits.
        let b : length s'.answers.items ≡ length s.answers.items = ap (λ (xs : List (ℕ × A)). length xs) same.1 in
        let d : length t'.answers.items ≡ length t.answers.items = ap (λ (xs : List (ℕ × A)). length xs) same'.1 in
        let h : s'.worker.performed ≡ s.worker.performed = ap (λ (x : Worker J A S). x.performed) same.0 in
        let h' : t'.worker.performed ≡ t.worker.performed = ap (λ (x : Worker J A S). x.performed) same'.0 in
        let e : t.worker.performed + length s.answers.items ≡ s.worker.performed + length t.answers.items = was.counted (omega arith) in
        omega arith;
  }

  pub Worked-trans : (s t u : ActiveWorker J A S) (d e f : LocalQueue) → Worked setup limit answers s t d e → Worked setup limit answers t u e f
      → Worked setup limit answers s u d f
  Worked-trans s t u d e f was now = record {
    on = GoesOn-trans s t u was.on now.on;
    once = λ test. (let a = was.once test in let b = now.once test in omega arith);
    same = SameQueue-trans d e f was.same now.same;
    kept = subst (λ (v : T). KeptBelow (limit v) f) was.on.stays now.kept;
  }

  -- .. to active workers of the same workers and answers
  pub Worked-along : (s t s' t' : ActiveWorker J A S) (d e : LocalQueue) → SameWork s s' → SameWork t t' → Worked setup limit answers s t d e
      → Worked setup limit answers s' t' d e
  Worked-along s t s' t' d e same same' was = record {
    on = GoesOn-along s t s' t' same same' was.on;
    once = λ test. omega (
      arith,
      was.once test,
      ap (λ (xs : List (ℕ × A)). count_by (λ p. test p.0) xs) same.1,
      ap
          (λ (xs : List (ℕ × A)). count_by (λ p. test p.0) xs) same'.1,
    );
    same = was.same;
    kept = subst (λ (h : Worker J A S). KeptBelow (limit (setup h.job)) e) (sym same.0) was.kept;
  }

  -- if the two active workers have these queues
  pub Worked-from : (s t : ActiveWorker J A S) (o p : Option LocalQueue) (d e : LocalQueue) → o ≡ Some d → p ≡ Some e → WorkedAt setup limit answers s t o p
      → Worked setup limit answers s t d e
  Worked-from s t o p d e is is' was = subst (λ (x : Option LocalQueue). WorkedAt setup limit answers s t (Some d) x) is'
      (subst (λ (x : Option LocalQueue). WorkedAt setup limit answers s t x p) is was)

  -- .. of two active workers that have these queues and the same workers and answers
  pub WorkedAt-from : (s t s' t' : ActiveWorker J A S) (o p : Option LocalQueue) (d e : LocalQueue) → o ≡ Some d → p ≡ Some e → SameWork s s' → SameWork t t'
      → Worked setup limit answers s t d e → WorkedAt setup limit answers s' t' o p
  WorkedAt-from s t s' t' o p d e is is' same same' was =
      subst (λ (x : Option LocalQueue). WorkedAt setup limit answers s' t' x p) (sym is)
      (subst (λ (x : Option LocalQueue). WorkedAt setup limit answers s' t' (Some d) x) (sym is') (Worked-along s t s' t' d e same same' was))

  pub Finishes-refl : (s : ActiveWorker J A S) (d : LocalQueue) → TakenIn d → Finishes setup answers s s d d
  Finishes-refl s d taken_in = record { on = GoesOn-refl s; once = λ test. refl; taken_in = taken_in; pushed = refl; stolen = refl }

  -- one more queue is finished, and the others are as they were
  module _ (starts seen ends : List (ActiveWorker J A S)) (firsts queues lasts : List LocalQueue) (k : ℕ)
      (same : (j : ℕ) (s : ActiveWorker J A S) → k ≤ j → get_or seen j s ≡ get_or starts j s)
      (same' : (j : ℕ) (d : LocalQueue) → k ≤ j → get_or queues j d ≡ get_or firsts j d)
      (others : (j : ℕ) (s : ActiveWorker J A S) → j ≢ k → get_or ends j s ≡ get_or seen j s)
      (others' : (j : ℕ) (d : LocalQueue) → j ≢ k → get_or lasts j d ≡ get_or queues j d)
      (here : (s : ActiveWorker J A S) (d : LocalQueue) → Finishes setup answers (get_or seen k s) (get_or ends k s) (get_or queues k d) (get_or lasts k d))
      (was : EachFinishes setup answers k starts seen firsts queues) where
    abbrev IsFinished : ℕ → ActiveWorker J A S → LocalQueue → Type 0
    IsFinished j s d = Finishes setup answers (get_or starts j s) (get_or ends j s) (get_or firsts j d) (get_or lasts j d)

    pub finished_next : EachFinishes setup answers (k + 1) starts ends firsts lasts
    finished_next j s d lt = dite (ℕ_discrete j k)
        (λ (e : j ≡ k).
        let a : Finishes setup answers (get_or starts k s) (get_or ends k s) (get_or queues k d) (get_or lasts k d) =
        subst (λ (x : ActiveWorker J A S). Finishes setup answers x (get_or ends k s) (get_or queues k d) (get_or lasts k d)) (same k s (omega arith)) (here s d) in
        let b : IsFinished k s d =
        subst (λ (x : LocalQueue). Finishes setup answers (get_or starts k s) (get_or ends k s) x (get_or lasts k d)) (same' k d (omega arith)) a in
        subst (λ (i : ℕ). IsFinished i s d) (sym e) b)
        (λ (ne : j ≢ k).
        subst (λ (x : ActiveWorker J A S). Finishes setup answers (get_or starts j s) x (get_or firsts j d) (get_or lasts j d)) (sym (others j s ne))
        (subst (λ (x : LocalQueue). Finishes setup answers (get_or starts j s) (get_or seen j s) (get_or firsts j d) x) (sym (others' j d ne))
        (was j s d (omega arith))))

    pub finished_all : (n : ℕ) → ((j : ℕ) (d : LocalQueue) → j < n → TakenIn (get_or firsts j d)) → EachFinishes setup answers n starts ends firsts lasts
    finished_all n taken_in j s d lt = ⊎_elim (λ (low : j < k + 1). finished_next j s d low)
        (λ (high : k + 1 ≤ j).
        let ne : j ≢ k = omega arith in
        subst (λ (x : ActiveWorker J A S). Finishes setup answers (get_or starts j s) x (get_or firsts j d) (get_or lasts j d))
        (sym (others j s ne ∙ same j s (omega arith)))
        (subst (λ (x : LocalQueue). Finishes setup answers (get_or starts j s) (get_or starts j s) (get_or firsts j d) x)
        (sym (others' j d ne ∙ same' j d (omega arith)))
        (Finishes-refl (get_or starts j s) (get_or firsts j d) (taken_in j d lt))))
        (lt_or_le j (k + 1))
