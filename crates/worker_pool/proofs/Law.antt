-- Over every list of steps the numbers pushed are, each once, those in the deques and those taken.
use Rattle.std.proofs.Common.{◌≡◌, ℕ, ◌+◌, ◌<◌, ◌%◌, Bool, cond, List, [], ◌∷◌, ◌++◌, count_by, All, length, replicate, refl, ap, ◌∙◌, arith}
use Rattle.std.specs.List.{sum_by}
use Rattle.std.proofs.Math.Nat.{mod-lt}
use Rattle.std.proofs.Math.ListN.{length-set}
use Rattle.std.proofs.lemmas.List.{length-replicate}
use Rattle.std.proofs.lemmas.List.Folds.{sum_by-replicate}
use Rattle.std.proofs.lemmas.List.Elements.{All-head, All-tail}
use Rattle.std.proofs.lemmas.List.Sums.{sum_by-cons, sum_by-append, sum_by-set}
use Rattle.worker_pool.specs.Tickets.{Step, push, pop, steal, State, of_worker, added, front_taken, stepped, after, IsStepOf, number_of, pushed}

front_lengths : (h d : ℕ) (held : List ℕ) (s : State) → (length (front_taken h d held s).deques ≡ length s.deques)
    × (length (front_taken h d held s).taken ≡ length s.taken)
front_lengths h d [] s = (refl, refl)
front_lengths h d (x ∷ rest) s = (length-set s.deques d rest, length-set s.taken h (of_worker h s.taken ++ x ∷ []))

step_lengths : (n : ℕ) (step : Step) (s : State) → (length (stepped n step s).deques ≡ length s.deques) × (length (stepped n step s).taken ≡ length s.taken)
step_lengths n (push h x) s = (length-set s.deques h (of_worker h s.deques ++ x ∷ []), refl)
step_lengths n (pop h) s = front_lengths h h (of_worker h s.deques) s
step_lengths n (steal h) s = front_lengths h ((h + 1) % n) (of_worker ((h + 1) % n) s.deques) s

pub lengths : (n : ℕ) (steps : List Step) → (length (after n steps).deques ≡ n) × (length (after n steps).taken ≡ n)
lengths n [] = (length-replicate n [], length-replicate n [])
lengths n (step ∷ earlier) = let was = lengths n earlier in let now = step_lengths n step (after n earlier) in (now.0 ∙ was.0, now.1 ∙ was.1)

module _ (test : ℕ → Bool) where
  abbrev counts : List ℕ → ℕ
  counts xs = count_by test xs

  pub none : (n : ℕ) → sum_by (λ (l : List ℕ). count_by test l) (replicate n []) ≡ 0
  none n = let e = sum_by-replicate (λ (l : List ℕ). count_by test l) n [] in omega arith

  added_more : (lists : List (List ℕ)) (h x : ℕ) → h < length lists → sum_by counts (added h x lists) ≡ sum_by counts lists + counts (x ∷ [])
  added_more lists h x within = omega (
    arith,
    sum_by-set counts lists h (of_worker h lists ++ x ∷ []) [] within,
    sum_by-append (λ y. cond (test y) 1 0) (of_worker h lists) (x ∷ []),
  )

  -- all that stands in deques or was taken
  abbrev all : State → ℕ
  all s = sum_by counts s.deques + sum_by counts s.taken

  front_kept : (h d : ℕ) (held : List ℕ) (s : State) → of_worker d s.deques ≡ held → d < length s.deques → h < length s.taken
      → all (front_taken h d held s) ≡ all s
  front_kept h d [] s is in_d in_h = refl
  front_kept h d (x ∷ rest) s is in_d in_h =
      omega (
        arith,
        sum_by-set counts s.deques d rest [] in_d,
        ap counts is,
        sum_by-cons (λ y. cond (test y) 1 0) x rest,
        sum_by-cons (λ y. cond (test y) 1 0) x [],
        added_more s.taken h x in_h,
      )

  step_law : (n : ℕ) (step : Step) (s : State) → length s.deques ≡ n → length s.taken ≡ n → IsStepOf n step
      → all (stepped n step s) ≡ counts (number_of step) + all s
  step_law n (push h x) s len len' of = omega (arith, added_more s.deques h x (omega arith))
  step_law n (pop h) s len len' of = omega (arith, front_kept h h (of_worker h s.deques) s refl (omega arith) (omega arith))
  step_law n (steal h) s len len' of =
      let in_h : h < n = of.0 in
      let in_d : (h + 1) % n < n = mod-lt (h + 1) (omega arith) in
      omega (arith, front_kept h ((h + 1) % n) (of_worker ((h + 1) % n) s.deques) s refl (omega arith) (omega arith))

  pub law : (n : ℕ) (steps : List Step) → All (IsStepOf n) steps → counts (pushed steps) ≡ all (after n steps)
  law n [] of = let e = none n in omega arith
  law n (step ∷ earlier) of =
      let len = lengths n earlier in
      let now = step_law n step (after n earlier) len.0 len.1 (All-head (IsStepOf n) step earlier of) in
      let was = law n earlier (All-tail (IsStepOf n) step earlier of) in
      omega (arith, sum_by-append (λ y. cond (test y) 1 0) (number_of step) (pushed earlier))
