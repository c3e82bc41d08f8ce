-- The moves at each deque make one list of steps of all workers.
use Rattle.std.proofs.Common.{◌≡◌, ◌≢◌, ℕ, zero, suc, ◌+◌, ◌<◌, ◌≤◌, ◌%◌, ◌==◌, Bool, cond, ltb, List, [], ◌∷◌, ◌++◌, take, count_by, All, true, length}
use Rattle.std.proofs.Common.{replicate, get_or, Some, refl, add-one, sym, ap, ◌∙◌, subst, arith}
use mathlib.Core.Logic.{dite}
use native.Mathlib.Decide.{ℕ_discrete}
use Rattle.std.specs.List.{sum_by}
use Rattle.std.proofs.Math.Nat.{mod_self, mod-eq_of_lt}
use Rattle.std.proofs.Math.ListN.{length-set}
use Rattle.std.proofs.lemmas.Bool.Decides.{nat_tests}
use Rattle.std.proofs.lemmas.List.{get_or-set_same, get_or-set_other, take_all}
use Rattle.std.proofs.lemmas.List.Elements.{All-nil, All-cons, All-head, All-tail, All-from_get_or, All-same, All-pop}
use Rattle.std.proofs.lemmas.List.Sums.{sum_by-cons, sum_by-append, sum_by_more}
use Rattle.crossbeam_deque.specs.Handles.{worker_view}
use Rattle.worker_pool.specs.declared.queue.LocalQueue.{LocalQueue}
use Rattle.worker_pool.specs.Tickets.{Step, push, pop, steal, State, of_worker, added, taken_from, stepped, after, IsStepOf, IsDealtRound, number_of, pushed}
use Rattle.worker_pool.specs.Tickets.{count_below}
use Rattle.worker_pool.specs.Tickets.{front_taken as front_to}
use Rattle.worker_pool.specs.inside.Parts.{Taker, owner, thief, Move, add, Part, front_taken, moved, part_after, IsWhole}
use Rattle.worker_pool.specs.inside.Parts.{take as take_by}
use Rattle.worker_pool.specs.inside.Ring.{next_of, pushed_by, gone_by}
use Rattle.worker_pool.specs.Workers.{answered_at, SharesAll, SharesPart}
use Rattle.worker_pool.proofs.Keeps.{balanced}
use Rattle.worker_pool.proofs.Law.{lengths, law}
use Rattle.worker_pool.proofs.Rings.{next_of-within, next_of-apart, next_zero, next_suc, prev_of}

-- a number that stands at place k alone
abbrev here : ℕ → ℕ → ℕ → ℕ
here k j x = cond (k == j) x 0

here_same : (k j x : ℕ) → k ≡ j → here k j x ≡ x
here_same k j x is = grind (arith, nat_tests)

here_other : (k j x : ℕ) → k ≢ j → here k j x ≡ 0
here_other k j x ne = grind (arith, nat_tests)

here_none : (k j : ℕ) → here k j 0 ≡ 0
here_none k j = dite (ℕ_discrete k j) (here_same k j 0) (here_other k j 0)

here_plus : (k j x y : ℕ) → here k j (x + y) ≡ here k j x + here k j y
here_plus k j x y = dite (ℕ_discrete k j)
    (λ (e : k ≡ j). omega (arith, here_same k j (x + y) e, here_same k j x e, here_same k j y e))
    (λ (ne : k ≢ j). omega (arith, here_other k j (x + y) ne, here_other k j x ne, here_other k j y ne))

module _ (test : ℕ → Bool) where
  here_push : (k j : ℕ) (xs : List ℕ) (x : ℕ) → here k j (count_by test (xs ++ x ∷ [])) ≡ here k j (count_by test xs) + here k j (count_by test (x ∷ []))
  here_push k j xs x = ap (here k j) (sum_by-append (λ y. cond (test y) 1 0) xs (x ∷ [])) ∙ here_plus k j (count_by test xs) (count_by test (x ∷ []))

  -- one worker took a number more
  took_more : (lists : List (List ℕ)) (h x j : ℕ) → h < length lists → count_by test (of_worker j (added h x lists)) ≡ count_by test (of_worker j lists) + here h j
      (count_by test (x ∷ []))
  took_more lists h x j within = dite (ℕ_discrete h j)
      (λ (e : h ≡ j).
      let now : of_worker j (added h x lists) ≡ of_worker j lists ++ x ∷ [] = subst (λ (i : ℕ). of_worker i (added h x lists) ≡ of_worker i lists ++ x ∷ []) e
      (get_or-set_same lists h (of_worker h lists ++ x ∷ []) [] within) in
      omega (arith, ap (count_by test) now, sum_by-append (λ y. cond (test y) 1 0) (of_worker j lists) (x ∷ []), here_same h j (count_by test (x ∷ [])) e))
      (λ (ne : h ≢ j).
      let now : of_worker j (added h x lists) ≡ of_worker j lists = get_or-set_other lists h j (of_worker h lists ++ x ∷ []) [] (λ e. ne (sym e)) in
      omega (arith, ap (count_by test) now, here_other h j (count_by test (x ∷ [])) ne))

-- Deque k alone has gone on, to what a part of it says: worker k took what was popped, and worker p what was stolen.
record Grown (n k p : ℕ) (old new : State) (q : Part) : Type 0 where
  lens : (length new.deques ≡ n) × (length new.taken ≡ n)
  deque : of_worker k new.deques ≡ q.held
  others : (j : ℕ) → j ≢ k → of_worker j new.deques ≡ of_worker j old.deques
  taken : (test : ℕ → Bool) (j : ℕ) → count_by test (of_worker j new.taken) ≡ count_by test (of_worker j old.taken) + here k j (count_by test q.popped) + here p j
      (count_by test q.stolen)

module _ (n k p : ℕ) (in_k : k < n) (in_p : p < n) where
  front_owner : (held : List ℕ) (old s : State) (q : Part) → q.held ≡ held → Grown n k p old s q
      → Grown n k p old (front_to k k held s) (front_taken owner held q)
  front_owner [] old s q is g = g
  front_owner (x ∷ rest) old s q is g =
      let l = g.lens.0 in
      let l' = g.lens.1 in
      record {
        lens = (omega (arith, length-set s.deques k rest), omega (arith, length-set s.taken k (of_worker k s.taken ++ x ∷ [])));
        deque = get_or-set_same s.deques k rest [] (omega arith);
        others = λ j ne. get_or-set_other s.deques k j rest [] ne ∙ g.others j ne;
        taken = λ test j. omega (arith, g.taken test j, took_more test s.taken k x j (omega arith), here_push test k j q.popped x);
      }

  front_thief : (held : List ℕ) (old s : State) (q : Part) → q.held ≡ held → Grown n k p old s q
      → Grown n k p old (front_to p k held s) (front_taken thief held q)
  front_thief [] old s q is g = g
  front_thief (x ∷ rest) old s q is g =
      let l = g.lens.0 in
      let l' = g.lens.1 in
      record {
        lens = (omega (arith, length-set s.deques k rest), omega (arith, length-set s.taken p (of_worker p s.taken ++ x ∷ [])));
        deque = get_or-set_same s.deques k rest [] (omega arith);
        others = λ j ne. get_or-set_other s.deques k j rest [] ne ∙ g.others j ne;
        taken = λ test j. omega (arith, g.taken test j, took_more test s.taken p x j (omega arith), here_push test p j q.stolen x);
      }

  module _ (steals : Step) (steals_is : (s : State) → stepped n steals s ≡ taken_from p k s) (of_steals : IsStepOf n steals) (no_number : number_of steals ≡ [])
      (round_steals : IsDealtRound n steals) where
    -- a move at deque k as a step
    abbrev step_of : Move → Step
    step_of (add x) = push k x
    step_of (take_by owner) = pop k
    step_of (take_by thief) = steals

    grown_step : (m : Move) (old s : State) (q : Part) → Grown n k p old s q → Grown n k p old (stepped n (step_of m) s) (moved m q)
    grown_step (add x) old s q g =
        let l = g.lens.0 in
        record {
          lens = (omega (arith, length-set s.deques k (of_worker k s.deques ++ x ∷ [])), g.lens.1);
          deque = get_or-set_same s.deques k (of_worker k s.deques ++ x ∷ []) [] (omega arith) ∙ ap (λ (ys : List ℕ). ys ++ x ∷ []) g.deque;
          others = λ j ne. get_or-set_other s.deques k j (of_worker k s.deques ++ x ∷ []) [] ne ∙ g.others j ne;
          taken = g.taken;
        }
    grown_step (take_by owner) old s q g =
        subst (λ (xs : List ℕ). Grown n k p old (front_to k k xs s) (front_taken owner q.held q)) (sym g.deque) (front_owner q.held old s q refl g)
    grown_step (take_by thief) old s q g =
        subst (λ (t : State). Grown n k p old t (front_taken thief q.held q)) (sym (steals_is s))
        (subst (λ (xs : List ℕ). Grown n k p old (front_to p k xs s) (front_taken thief q.held q)) (sym g.deque) (front_thief q.held old s q refl g))

    abbrev steps_of : List Move → List Step → List Step
    steps_of [] steps = steps
    steps_of (m ∷ moves) steps = step_of m ∷ steps_of moves steps

    grown : (moves : List Move) (steps : List Step) → of_worker k (after n steps).deques ≡ []
        → Grown n k p (after n steps) (after n (steps_of moves steps)) (part_after moves)
    grown [] steps empty = record {
      lens = lengths n steps;
      deque = empty;
      others = λ j ne. refl;
      taken = λ test j. omega (arith, here_none k j, here_none p j);
    }
    grown (m ∷ moves) steps empty = grown_step m (after n steps) (after n (steps_of moves steps)) (part_after moves) (grown moves steps empty)

    of_step : (m : Move) → IsStepOf n (step_of m)
    of_step (add x) = in_k
    of_step (take_by owner) = in_k
    of_step (take_by thief) = of_steals

    all_of : (moves : List Move) (steps : List Step) → All (IsStepOf n) steps → All (IsStepOf n) (steps_of moves steps)
    all_of [] steps of = of
    all_of (m ∷ moves) steps of = All-cons (IsStepOf n) (step_of m) (steps_of moves steps) (of_step m) (all_of moves steps of)

    front_pushed : (who : Taker) (held : List ℕ) (q : Part) → (front_taken who held q).pushed ≡ q.pushed
    front_pushed who [] q = refl
    front_pushed owner (x ∷ held) q = refl
    front_pushed thief (x ∷ held) q = refl

    numbers : (test : ℕ → Bool) (moves : List Move) (steps : List Step) → count_by test (pushed (steps_of moves steps)) ≡ count_by test
        (part_after moves).pushed + count_by test (pushed steps)
    numbers test [] steps = omega arith
    numbers test (add x ∷ moves) steps =
        omega (
          arith,
          numbers test moves steps,
          sum_by-append (λ y. cond (test y) 1 0) (part_after moves).pushed (x ∷ []),
          sum_by-append (λ y. cond (test y) 1 0) (x ∷ []) (pushed (steps_of moves steps)),
        )
    numbers test (take_by owner ∷ moves) steps = omega (
      arith,
      numbers test moves steps,
      ap (count_by test) (front_pushed owner (part_after moves).held (part_after moves)),
    )
    numbers test (take_by thief ∷ moves) steps =
        omega (
          arith,
          numbers test moves steps,
          ap (count_by test) (front_pushed thief (part_after moves).held (part_after moves)),
          ap (count_by test) no_number,
          sum_by-append (λ y. cond (test y) 1 0) (number_of steals) (pushed (steps_of moves steps)),
        )

    -- the numbers pushed at deque k are of its round
    abbrev OfRound : ℕ → Type 0
    OfRound x = x % n ≡ k

    all_round : (moves : List Move) (steps : List Step) → All OfRound (part_after moves).pushed → All (IsDealtRound n) steps
        → All (IsDealtRound n) (steps_of moves steps)
    all_round [] steps of was = was
    all_round (add x ∷ moves) steps of was =
        let parts = All-pop OfRound ((part_after moves).pushed ++ x ∷ []) (part_after moves).pushed (Some x) refl of in
        All-cons (IsDealtRound n) (push k x) (steps_of moves steps) parts.1 (all_round moves steps parts.0 was)
    all_round (take_by owner ∷ moves) steps of was =
        All-cons (IsDealtRound n) (pop k) (steps_of moves steps) tt
        (all_round moves steps (All-same OfRound (part_after moves).pushed _ (sym (front_pushed owner (part_after moves).held (part_after moves))) of) was)
    all_round (take_by thief ∷ moves) steps of was =
        All-cons (IsDealtRound n) steals (steps_of moves steps) round_steals
        (all_round moves steps (All-same OfRound (part_after moves).pushed _ (sym (front_pushed thief (part_after moves).held (part_after moves))) of) was)

-- what stands at a place below m
abbrev before : ℕ → ℕ → ℕ → ℕ
before m j x = cond (ltb j m) x 0

before_yes : (m j x : ℕ) → j < m → before m j x ≡ x
before_yes m j x lt = grind (arith, nat_tests)

before_no : (m j x : ℕ) → m ≤ j → before m j x ≡ 0
before_no m j x le = grind (arith, nat_tests)

before_other : (m j x : ℕ) → m ≢ j → before (m + 1) j x ≡ before m j x
before_other m j x ne = grind (arith, nat_tests)

before_next : (m j : ℕ) (f : ℕ → ℕ) → before (m + 1) j (f j) ≡ before m j (f j) + here m j (f m)
before_next m j f = dite (ℕ_discrete m j)
    (λ (e : m ≡ j). let same : f m ≡ f j = ap f e in omega (
      arith,
      before_yes (m + 1) j (f j) (omega arith),
      before_no m j (f j) (omega arith),
      here_same m j (f m) e,
    ))
    (λ (ne : m ≢ j). omega (arith, before_other m j (f j) ne, here_other m j (f m) ne))

-- the worker before's number at a deque is the deque's number at the worker's next
here_before : (n m p j x : ℕ) → next_of n p ≡ m → p < n → j < n → here p j x ≡ here m (next_of n j) x
here_before n m p j x is in_p in_j = dite (ℕ_discrete p j)
    (λ (e : p ≡ j). here_same p j x e ∙ sym (here_same m (next_of n j) x (sym is ∙ ap (next_of n) e)))
    (λ (ne : p ≢ j). here_other p j x ne ∙ sym (here_other m (next_of n j) x (λ e. next_of-apart n p j in_p in_j ne (is ∙ e))))

none_at : (n k : ℕ) → of_worker k (replicate n []) ≡ []
none_at zero k = refl
none_at (suc n) zero = refl
none_at (suc n) (suc k) = none_at n k

none_left : (xs : List ℕ) → count_by (λ _. true) xs ≡ 0 → xs ≡ []
none_left [] none = refl
none_left (x ∷ xs) none = let e = sum_by-cons (λ (y : ℕ). 1) x xs in absurd (omega arith)

-- the thief's steps at deque k of n
record Thief (n k p : ℕ) : Type 0 where
  step : Step
  is : (s : State) → stepped n step s ≡ taken_from p k s
  of : IsStepOf n step
  no_number : number_of step ≡ []
  round : IsDealtRound n step

next_is : (n k : ℕ) → k < n → (k + 1) % n ≡ next_of n k
next_is n k within = dite (ℕ_discrete (k + 1) n)
    (λ (e : k + 1 ≡ n). ap (λ (m : ℕ). m % n) e ∙ mod_self n ∙ sym (next_zero n k e))
    (λ (ne : k + 1 ≢ n). mod-eq_of_lt (omega arith) ∙ sym (next_suc n k ne))

-- If there is one deque, its owner takes.
thief_of : (n k p : ℕ) → k < n → p < n → next_of n p ≡ k → Thief n k p
thief_of n k p in_k in_p is = dite (ℕ_discrete n 1)
    (λ (one : n ≡ 1).
    let same : p ≡ k = omega arith in
    record { step = pop p; is = λ s. ap (λ (d : ℕ). taken_from p d s) same; of = in_p; no_number = refl; round = tt })
    (λ (more : n ≢ 1). record {
      step = steal p;
      is = λ s. ap (λ (d : ℕ). taken_from p d s) (next_is n p in_p ∙ is);
      of = (in_p, omega arith);
      no_number = refl;
      round = tt;
    })

module _ (n : ℕ) (ds : List LocalQueue) (d : LocalQueue) (len : length ds ≡ n) where
  abbrev at : ℕ → LocalQueue
  at k = get_or ds k d

  abbrev popped_at : (ℕ → Bool) → ℕ → ℕ
  popped_at test k = count_by test (worker_view (at k).own).popped

  abbrev stolen_at : (ℕ → Bool) → ℕ → ℕ
  stolen_at test k = count_by test (worker_view (at k).own).stolen

  -- the steps at the first m deques
  record Upto (m : ℕ) : Type 0 where
    steps : List Step
    of_workers : All (IsStepOf n) steps
    round : All (IsDealtRound n) steps
    numbers : (test : ℕ → Bool) → count_by test (pushed steps) ≡ sum_by (pushed_by test) (take m ds)
    later : (k : ℕ) → m ≤ k → of_worker k (after n steps).deques ≡ []
    empty : (k : ℕ) → k < m → ((test : ℕ → Bool) → pushed_by test (at k) ≡ gone_by test (at k)) → of_worker k (after n steps).deques ≡ []
    taken : (test : ℕ → Bool) (j : ℕ) → j < n → count_by test (of_worker j (after n steps).taken) ≡ before m j (popped_at test j) + before m (next_of n j)
        (stolen_at test (next_of n j))

  begin : Upto 0
  begin = record {
    steps = [];
    of_workers = All-nil (IsStepOf n);
    round = All-nil (IsDealtRound n);
    numbers = λ test. refl;
    later = λ k le. none_at n k;
    empty = λ k lt done. absurd (omega arith);
    taken = λ test j in_j. omega (
      arith,
      ap (count_by test) (none_at n j),
      before_no 0 j (popped_at test j) (omega arith),
      before_no 0 (next_of n j) (stolen_at test (next_of n j)) (omega arith),
    );
  }

  go_on : (m : ℕ) → m < n → (held : List ℕ) → IsWhole (worker_view (at m).own) held → All (λ x. x % n ≡ m) (worker_view (at m).own).pushed → Upto m
      → Upto (m + 1)
  go_on m in_m held w dealt was =
      let p = prev_of n m in_m in
      let t = thief_of n m p.0 in_m p.1 p.2 in
      let g = grown n m p.0 in_m p.1 t.step t.is t.of t.no_number t.round w.moves was.steps (was.later m (omega arith)) in
      let q = part_after w.moves in
      record {
        steps = steps_of n m p.0 in_m p.1 t.step t.is t.of t.no_number t.round w.moves was.steps;
        of_workers = all_of n m p.0 in_m p.1 t.step t.is t.of t.no_number t.round w.moves was.steps was.of_workers;
        round = all_round n m p.0 in_m p.1 t.step t.is t.of t.no_number t.round w.moves was.steps
            (All-same (λ x. x % n ≡ m) q.pushed (worker_view (at m).own).pushed w.pushed dealt) was.round;
        numbers = λ test. omega (
          arith,
          numbers n m p.0 in_m p.1 t.step t.is t.of t.no_number t.round test w.moves was.steps,
          was.numbers test,
          ap (count_by test) w.pushed,
          sum_by_more (pushed_by test) ds m d (omega arith),
        );
        later = λ k le. (let ne : k ≢ m = omega arith in g.others k ne) ∙ was.later k (omega arith);
        empty = λ k lt done. dite (ℕ_discrete k m)
            (λ (e : k ≡ m).
            let all : pushed_by (λ _. true) (at m) ≡ gone_by (λ _. true) (at m) =
            subst (λ (i : ℕ). pushed_by (λ _. true) (at i) ≡ gone_by (λ _. true) (at i)) e (done (λ _. true)) in
            let none : count_by (λ _. true) q.held ≡ 0 =
            omega (
              arith,
              all,
              balanced (λ _. true) w.moves,
              ap (count_by (λ _. true)) w.pushed,
              ap (count_by (λ _. true)) w.popped,
              ap (count_by (λ _. true)) w.stolen,
            ) in
            ap (λ (i : ℕ). of_worker i (after n (steps_of n m p.0 in_m p.1 t.step t.is t.of t.no_number t.round w.moves was.steps)).deques) e ∙ g.deque
            ∙ none_left q.held none)
            (λ (ne : k ≢ m). g.others k ne ∙ was.empty k (omega arith) done);
        taken = λ test j in_j. omega (
          arith,
          g.taken test j,
          was.taken test j in_j,
          before_next m j (popped_at test),
          before_next m (next_of n j) (stolen_at test),
          ap (λ (xs : List ℕ). here m j (count_by test xs)) w.popped,
          ap (λ (xs : List ℕ). here p.0 j (count_by test xs)) w.stolen,
          here_before n m p.0 j (stolen_at test m) p.2 p.1 in_j,
        );
      }

  module _ (whole : (k : ℕ) → k < n → (held : List ℕ) × IsWhole (worker_view (at k).own) held) (dealt : (k : ℕ) → k < n
      → All (λ x. x % n ≡ k) (worker_view (at k).own).pushed) where
    upto : (m : ℕ) → m ≤ n → Upto m
    upto zero le = begin
    upto (suc m) le =
        let in_m : m < n = omega arith in
        let w = whole m in_m in
        subst Upto (add-one m) (go_on m in_m w.0 w.1 (dealt m in_m) (upto m (omega arith)))

    all_numbers : (test : ℕ → Bool) → sum_by (pushed_by test) (take n ds) ≡ sum_by (pushed_by test) ds
    all_numbers test = ap (sum_by (pushed_by test)) (take_all n ds (omega arith))

    -- what worker k took, from its own deque and from the next one
    all_taken : (u : Upto n) (test : ℕ → Bool) (k : ℕ) → k < n → count_by test (of_worker k (after n u.steps).taken) ≡ popped_at test k + stolen_at test
        (next_of n k)
    all_taken u test k in_k = omega (
      arith,
      u.taken test k in_k,
      before_yes n k (popped_at test k) in_k,
      before_yes n (next_of n k) (stolen_at test (next_of n k)) (next_of-within n k in_k),
    )

    pub shares_all : {A : Type 0} (count : ℕ) (lists : List (List (ℕ × A))) → ((test : ℕ → Bool) → sum_by (pushed_by test) ds ≡ count_below test count)
        → ((k : ℕ) → k < n → (test : ℕ → Bool) → pushed_by test (at k) ≡ gone_by test (at k))
        → ((test : ℕ → Bool) (k : ℕ) → k < n → popped_at test k + stolen_at test (next_of n k) ≡ answered_at test lists k)
        → SharesAll n count lists
    shares_all count lists pushes done took =
        let u = upto n (omega arith) in
        let len_q = lengths n u.steps in
        record {
          steps = u.steps;
          of_workers = u.of_workers;
          round = u.round;
          dealt = λ test. u.numbers test ∙ all_numbers test ∙ pushes test;
          empty = All-from_get_or (λ q. q ≡ []) (after n u.steps).deques [] (λ i lt. let in_i : i < n = omega (arith, len_q.0) in u.empty i in_i (done i in_i));
          taken = λ test k in_k. all_taken u test k in_k ∙ took test k in_k;
        }

    pub shares_part : {A : Type 0} (count : ℕ) (lists : List (List (ℕ × A))) → ((test : ℕ → Bool) → sum_by (pushed_by test) ds ≡ count_below test count)
        → ((test : ℕ → Bool) (k : ℕ) → k < n → answered_at test lists k ≤ popped_at test k + stolen_at test (next_of n k))
        → SharesPart n count lists
    shares_part count lists pushes took =
        let u = upto n (omega arith) in
        record {
          steps = u.steps;
          of_workers = u.of_workers;
          round = u.round;
          dealt = λ test. (let a = u.numbers test in let b = all_numbers test in let e = pushes test in omega arith);
          taken = λ test k in_k. (let a = all_taken u test k in_k in let b = took test k in_k in omega arith);
        }

-- sums over two lists, place by place
sums_le : {X Y : Type 0} (f : X → ℕ) (g : Y → ℕ) (xs : List X) (ys : List Y) (x : X) (y : Y) → length xs ≡ length ys
    → ((k : ℕ) → k < length ys → f (get_or xs k x) ≤ g (get_or ys k y)) → sum_by f xs ≤ sum_by g ys
sums_le f g [] [] x y len each = omega arith
sums_le f g [] (b ∷ ys) x y len each = absurd (omega arith)
sums_le f g (a ∷ xs) [] x y len each = absurd (omega arith)
sums_le f g (a ∷ xs) (b ∷ ys) x y len each =
    let first : f a ≤ g b = each 0 (omega arith) in
    let rest = sums_le f g xs ys x y (omega arith) (λ k lt. each (suc k) (omega arith)) in
    omega (arith, sum_by-cons f a xs, sum_by-cons g b ys)

no_sum : (test : ℕ → Bool) (lists : List (List ℕ)) → All (λ l. l ≡ []) lists → sum_by (λ (l : List ℕ). count_by test l) lists ≡ 0
no_sum test [] none = refl
no_sum test (l ∷ lists) none =
    omega (
      arith,
      sum_by-cons (λ (x : List ℕ). count_by test x) l lists,
      ap (count_by test) (All-head (λ q. q ≡ []) l lists none),
      no_sum test lists (All-tail (λ q. q ≡ []) l lists none),
    )

module _ {A : Type 0} (n count : ℕ) (lists : List (List (ℕ × A))) (len : length lists ≡ n) where
  abbrev answers_of : (ℕ → Bool) → List (ℕ × A) → ℕ
  answers_of test l = count_by (λ p. test p.0) l

  -- each number below the count is answered once
  pub once_of_all : SharesAll n count lists → (test : ℕ → Bool) → sum_by (answers_of test) lists ≡ count_below test count
  once_of_all s test =
      let l = lengths n s.steps in
      let most : sum_by (answers_of test) lists ≤ sum_by (λ (q : List ℕ). count_by test q) (after n s.steps).taken =
      sums_le (answers_of test) (λ (q : List ℕ). count_by test q) lists (after n s.steps).taken [] [] (omega (arith, l.1))
      (λ k lt. let e = s.taken test k (omega (arith, l.1)) in omega arith) in
      let least : sum_by (λ (q : List ℕ). count_by test q) (after n s.steps).taken ≤ sum_by (answers_of test) lists =
      sums_le (λ (q : List ℕ). count_by test q) (answers_of test) (after n s.steps).taken lists [] [] (omega (arith, l.1))
      (λ k lt. let e = s.taken test k (omega arith) in omega arith) in
      omega (arith, law test n s.steps s.of_workers, no_sum test (after n s.steps).deques s.empty, s.dealt test)

  pub once_of_part : SharesPart n count lists → (test : ℕ → Bool) → sum_by (answers_of test) lists ≤ count_below test count
  once_of_part s test =
      let l = lengths n s.steps in
      let most : sum_by (answers_of test) lists ≤ sum_by (λ (q : List ℕ). count_by test q) (after n s.steps).taken =
      sums_le (answers_of test) (λ (q : List ℕ). count_by test q) lists (after n s.steps).taken [] [] (omega (arith, l.1))
      (λ k lt. s.taken test k (omega (arith, l.1))) in
      omega (arith, law test n s.steps s.of_workers, s.dealt test)
