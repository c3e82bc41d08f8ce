-- Each step keeps the rule of a deque.
use Rattle.std.proofs.Common.{◌≡◌, ◌≢◌, ℕ, zero, suc, ◌+◌, ◌<◌, ◌≤◌, Bool, List, [], ◌∷◌, ◌++◌, set, sym, refl, ap, subst, ⊎_elim, count_by, arith, cond}
use mathlib.Core.Option.{some, some-injective, some-ne-none}
use lib.ListN.{get_elem?}
use Rattle.std.specs.List.{sum_by}
use Rattle.std.proofs.lemmas.List.Sums.{sum_by-cons, sum_by-append, sum_by_push}
use Rattle.crossbeam_deque.specs.Tasks.{Pushes, Takes, Finds, Forks, Merges, Learns}
use Rattle.crossbeam_deque.proofs.Lists.{at_set, at_snoc}
use Rattle.worker_pool.specs.declared.rule.View.{View}
use Rattle.worker_pool.specs.inside.Parts.{Taker, owner, thief, Move, add, take, Part, taken, front_taken, moved, part_after, view_of, Knows, Dealt, IsWhole}

module _ {A : Type 0} (f : A → ℕ) where
  -- the total after a change at one place
  pub total_set : (views : List A) (port : ℕ) (v w : A) → get_elem? views port ≡ some v → sum_by f (set views port w) + f v ≡ sum_by f views + f w
  total_set [] port v w at = absurd (some-ne-none v (sym at))
  total_set (x ∷ xs) zero v w at = let e = some-injective x v at in omega (arith, sum_by-cons f x xs, sum_by-cons f w xs, ap f e)
  total_set (x ∷ xs) (suc port) v w at = omega (arith, sum_by-cons f x xs, sum_by-cons f x (set xs port w), total_set xs port v w at)

  pub total_at : (views : List A) (port : ℕ) (v : A) → get_elem? views port ≡ some v → f v ≤ sum_by f views
  total_at [] port v at = absurd (some-ne-none v (sym at))
  total_at (x ∷ xs) zero v at = let e = some-injective x v at in omega (arith, sum_by-cons f x xs, ap f e)
  total_at (x ∷ xs) (suc port) v at = omega (arith, sum_by-cons f x xs, total_at xs port v at)

  pub total_two : (views : List A) (port other : ℕ) (v w : A) → port ≢ other → get_elem? views port ≡ some v → get_elem? views other ≡ some w
      → f v + f w ≤ sum_by f views
  total_two [] port other v w ne at at' = absurd (some-ne-none v (sym at))
  total_two (x ∷ xs) zero zero v w ne at at' = absurd (ne refl)
  total_two (x ∷ xs) zero (suc other) v w ne at at' = let e = some-injective x v at in omega (arith, sum_by-cons f x xs, ap f e, total_at xs other w at')
  total_two (x ∷ xs) (suc port) zero v w ne at at' = let e = some-injective x w at' in omega (arith, sum_by-cons f x xs, ap f e, total_at xs port v at)
  total_two (x ∷ xs) (suc port) (suc other) v w ne at at' = omega (arith, sum_by-cons f x xs, total_two xs port other v w (λ e. ne (ap suc e)) at at')

module _ (F : ℕ → View → Type 0) where
  abbrev Each : List View → Type 0
  Each views = (port : ℕ) (v : View) → get_elem? views port ≡ some v → F port v

  each_set : (views : List View) (port : ℕ) (w : View) → F port w → ((j : ℕ) (u : View) → j ≢ port → get_elem? views j ≡ some u → F j u)
      → Each (set views port w)
  each_set views port w mine others j u e = ⊎_elim (λ (x : (j ≡ port) × (w ≡ u)). subst (λ (y : ℕ × View). F y.0 y.1) (λ i. (sym x.0 i, x.1 i)) mine)
      (λ (x : (j ≢ port) × (get_elem? views j ≡ some u)). others j u x.0 x.1) (at_set views port j w u e)

-- another place stays
still : (views : List View) (port other : ℕ) (w u : View) → other ≢ port → get_elem? (set views port w) other ≡ some u → get_elem? views other ≡ some u
still views port other w u ne e = ⊎_elim (λ (x : (other ≡ port) × (w ≡ u)). absurd (ne x.0)) (λ (x : (other ≢ port) × (get_elem? views other ≡ some u)). x.1)
    (at_set views port other w u e)

abbrev pops : View → ℕ
pops v = v.pop_right

abbrev steals : View → ℕ
steals v = v.steal_right

-- a right is one pass's alone
alone : (right : View → ℕ) (views : List View) (port : ℕ) (v : View) → sum_by right views ≡ 1 → get_elem? views port ≡ some v → 0 < right v → (j : ℕ) (u : View)
    → j ≢ port → get_elem? views j ≡ some u → right u ≡ 0
alone right views port v all at mine j u other e = omega (arith, total_two right views port j v u (λ x. other (sym x)) at e)

-- whoever takes it, one number more was taken
taken_more : (test : ℕ → Bool) (who : Taker) (x : ℕ) (rest : List ℕ) (p : Part)
    → count_by test (taken who x rest p).popped + count_by test (taken who x rest p).stolen ≡ count_by test p.popped + count_by test p.stolen + count_by test
    (x ∷ [])
taken_more test owner x rest p = omega (arith, sum_by-append (λ y. cond (test y) 1 0) p.popped (x ∷ []))
taken_more test thief x rest p = omega (arith, sum_by-append (λ y. cond (test y) 1 0) p.stolen (x ∷ []))

taken_pushed : (who : Taker) (x : ℕ) (rest : List ℕ) (p : Part) → ((taken who x rest p).pushed ≡ p.pushed) × ((taken who x rest p).held ≡ rest)
taken_pushed owner x rest p = (refl, refl)
taken_pushed thief x rest p = (refl, refl)

-- over every list of moves the numbers pushed are, each once, those in the deque and those taken
abbrev Balanced : (ℕ → Bool) → Part → Type 0
Balanced test p = count_by test p.pushed ≡ count_by test p.held + (count_by test p.popped + count_by test p.stolen)

front_balanced : (test : ℕ → Bool) (who : Taker) (held : List ℕ) (p : Part) → p.held ≡ held → Balanced test p → Balanced test (front_taken who held p)
front_balanced test who [] p is was = was
front_balanced test who (x ∷ held) p is was =
    let same = taken_pushed who x held p in
    omega (
      arith,
      was,
      ap (count_by test) is,
      ap (count_by test) same.0,
      ap (count_by test) same.1,
      sum_by-cons (λ y. cond (test y) 1 0) x held,
      sum_by-cons (λ y. cond (test y) 1 0) x [],
      taken_more test who x held p,
    )

move_balanced : (test : ℕ → Bool) (m : Move) (p : Part) → Balanced test p → Balanced test (moved m p)
move_balanced test (add x) p was = omega (
  arith,
  was,
  sum_by-append (λ y. cond (test y) 1 0) p.pushed (x ∷ []),
  sum_by-append (λ y. cond (test y) 1 0) p.held (x ∷ []),
)
move_balanced test (take who) p was = front_balanced test who p.held p refl was

pub balanced : (test : ℕ → Bool) (moves : List Move) → Balanced test (part_after moves)
balanced test [] = refl
balanced test (m ∷ earlier) = move_balanced test m (part_after earlier) (balanced test earlier)

-- a pass with no right knows nothing
idle : (p : Part) (u : View) → u.pop_right ≡ 0 → u.steal_right ≡ 0 → Knows p u
idle p u none none' = record { pushed = λ lt. absurd (omega arith); popped = λ lt. absurd (omega arith); stolen = λ lt. absurd (omega arith) }

-- The rights stay if the pass that changes keeps its own.
same_right : (right : View → ℕ) (views : List View) (port : ℕ) (v w : View) → get_elem? views port ≡ some v → right w ≡ right v → sum_by right views ≡ 1
    → sum_by right (set views port w) ≡ 1
same_right right views port v w at same all = let t = total_set right views port v w at in omega arith

pub puts : (port : ℕ) (v : View) (x : ℕ) → 0 < v.pop_right → 0 < v.steal_right
    → Pushes Dealt port v (x ∷ []) (λ w. w ≡ view_of v.pop_right v.steal_right (v.pushed ++ x ∷ []) v.popped v.stolen)
puts port v x may_pop may_steal items views h at =
    let w : View = view_of v.pop_right v.steal_right (v.pushed ++ x ∷ []) v.popped v.stolen in
    let mine = h.known port v at in
    let q : Part = part_after (add x ∷ h.moves) in
    let known : Knows q w = record { pushed = λ lt. ap (λ ys. ys ++ x ∷ []) (mine.pushed lt); popped = mine.popped; stolen = mine.stolen } in (
      w,
      record {
        moves = add x ∷ h.moves;
        held = ap (λ ys. ys ++ x ∷ []) h.held;
        known = each_set (λ j u. Knows q u) views port w known (λ j u n e. idle q u (alone pops views port v h.owner at may_pop j u n e)
            (alone steals views port v h.thief at may_steal j u n e));
        owner = same_right pops views port v w at refl h.owner;
        thief = same_right steals views port v w at refl h.thief;
      },
      refl,
    )

-- what was pushed is among what the taker knows to be pushed
among : (x : ℕ) (items : List ℕ) (views : List View) (v : View) (h : Dealt (x ∷ items) views) → v.pushed ≡ (part_after h.moves).pushed → (test : ℕ → Bool)
    → count_by test v.pushed ≡ 0 → count_by test (x ∷ []) ≡ 0
among x items views v h mine test none =
    omega (arith, balanced test h.moves, ap (count_by test) h.held, ap (count_by test) mine, sum_by-append (λ y. cond (test y) 1 0) (x ∷ []) items)

pub pops_one : (port : ℕ) (v : View) → 0 < v.pop_right
    → Takes Dealt port v 1 (λ xs w. (w ≡ view_of v.pop_right v.steal_right v.pushed (v.popped ++ xs) v.stolen)
    × ((test : ℕ → Bool) → count_by test v.pushed ≡ 0 → count_by test xs ≡ 0))
pops_one port v may [] items views some_x one h at = absurd (omega arith)
pops_one port v may (x ∷ y ∷ xs) items views some_x one h at = absurd (omega arith)
pops_one port v may (x ∷ []) items views some_x one h at =
    let w : View = view_of v.pop_right v.steal_right v.pushed (v.popped ++ x ∷ []) v.stolen in
    let mine = h.known port v at in
    let p = part_after h.moves in
    let q : Part = taken owner x items p in
    let now : front_taken owner p.held p ≡ q = ap (λ held. front_taken owner held p) h.held in
    let known : Knows q w = record { pushed = mine.pushed; popped = λ lt. ap (λ ys. ys ++ x ∷ []) (mine.popped lt); stolen = mine.stolen } in
    let others : (j : ℕ) (u : View) → j ≢ port → get_elem? views j ≡ some u → Knows q u = λ j u n e.
    (let was = h.known j u e in let no = alone pops views port v h.owner at may j u n e in
    record { pushed = was.pushed; popped = λ lt. absurd (omega arith); stolen = was.stolen }) in (
      w,
      record {
        moves = take owner ∷ h.moves;
        held = ap (λ (r : Part). r.held) now;
        known = λ j u e. subst (λ (r : Part). Knows r u) (sym now) (each_set (λ j u. Knows q u) views port w known others j u e);
        owner = same_right pops views port v w at refl h.owner;
        thief = same_right steals views port v w at refl h.thief;
      },
      (refl, among x items views v h (mine.pushed (omega arith))),
    )

pub steals_one : (port : ℕ) (v : View) → 0 < v.steal_right
    → Takes Dealt port v 1 (λ xs w. (w ≡ view_of v.pop_right v.steal_right v.pushed v.popped (v.stolen ++ xs))
    × ((test : ℕ → Bool) → count_by test v.pushed ≡ 0 → count_by test xs ≡ 0))
steals_one port v may [] items views some_x one h at = absurd (omega arith)
steals_one port v may (x ∷ y ∷ xs) items views some_x one h at = absurd (omega arith)
steals_one port v may (x ∷ []) items views some_x one h at =
    let w : View = view_of v.pop_right v.steal_right v.pushed v.popped (v.stolen ++ x ∷ []) in
    let mine = h.known port v at in
    let p = part_after h.moves in
    let q : Part = taken thief x items p in
    let now : front_taken thief p.held p ≡ q = ap (λ held. front_taken thief held p) h.held in
    let known : Knows q w = record { pushed = mine.pushed; popped = mine.popped; stolen = λ lt. ap (λ ys. ys ++ x ∷ []) (mine.stolen lt) } in
    let others : (j : ℕ) (u : View) → j ≢ port → get_elem? views j ≡ some u → Knows q u = λ j u n e.
    (let was = h.known j u e in let no = alone steals views port v h.thief at may j u n e in
    record { pushed = was.pushed; popped = was.popped; stolen = λ lt. absurd (omega arith) }) in (
      w,
      record {
        moves = take thief ∷ h.moves;
        held = ap (λ (r : Part). r.held) now;
        known = λ j u e. subst (λ (r : Part). Knows r u) (sym now) (each_set (λ j u. Knows q u) views port w known others j u e);
        owner = same_right pops views port v w at refl h.owner;
        thief = same_right steals views port v w at refl h.thief;
      },
      (refl, among x items views v h (mine.pushed (omega arith))),
    )

pub finds : (port : ℕ) (v : View) → 0 < v.pop_right → Finds Dealt port v (0 < v.steal_right → (test : ℕ → Bool)
    → count_by test v.pushed ≡ count_by test v.popped + count_by test v.stolen)
finds port v may views h at may' test =
    let mine = h.known port v at in
    omega (
      arith,
      balanced test h.moves,
      ap (count_by test) h.held,
      ap (count_by test) (mine.pushed (omega arith)),
      ap (count_by test) (mine.popped may),
      ap (count_by test) (mine.stolen may'),
    )

pub totals : (port : ℕ) (v : View) → 0 < v.pop_right → 0 < v.steal_right → Learns Dealt port v (λ items. IsWhole v items)
totals port v may may' items views h at =
    let mine = h.known port v at in
    record { moves = h.moves; pushed = sym (mine.pushed (omega arith)); held = h.held; popped = sym (mine.popped may); stolen = sym (mine.stolen may') }

pub forks : (port : ℕ) (v : View) → 0 < v.pop_right → Forks Dealt port v (view_of v.pop_right 0 v.pushed v.popped []) (view_of 0 v.steal_right v.pushed [] v.stolen)
forks port v may items views h at =
    let l : View = view_of v.pop_right 0 v.pushed v.popped [] in
    let r : View = view_of 0 v.steal_right v.pushed [] v.stolen in
    let mine = h.known port v at in
    let p = part_after h.moves in
    let left : Knows p l = record { pushed = λ _. mine.pushed (omega arith); popped = mine.popped; stolen = λ lt. absurd (omega arith) } in
    let right : Knows p r = record { pushed = λ _. mine.pushed (omega arith); popped = λ lt. absurd (omega arith); stolen = mine.stolen } in
    let known : (j : ℕ) (u : View) → get_elem? (set views port l) j ≡ some u → Knows p u =
    each_set (λ j u. Knows p u) views port l left (λ j u n e. h.known j u e) in
    record {
      moves = h.moves;
      held = h.held;
      known = λ j u e. ⊎_elim (λ x. known j u x) (λ (x : r ≡ u). subst (Knows p) x right) (at_snoc (set views port l) r u j e);
      owner = (let t = total_set pops views port v l at in let s = sum_by_push pops (set views port l) r in omega (arith, h.owner));
      thief = (let t = total_set steals views port v l at in let s = sum_by_push steals (set views port l) r in omega (arith, h.thief));
    }

pub merges : (port : ℕ) (v : View) (other : ℕ) (w : View) → 0 < v.pop_right → 0 < w.steal_right
    → Merges Dealt port v other w (view_of v.pop_right w.steal_right v.pushed v.popped w.stolen) (view_of 0 0 [] [] [])
merges port v other w may may' items views h at two at' =
    let both : View = view_of v.pop_right w.steal_right v.pushed v.popped w.stolen in
    let spent : View = view_of 0 0 [] [] [] in
    let p = part_after h.moves in
    let mine = h.known port v at in
    let there : get_elem? views other ≡ some w = still views port other both w two at' in
    let theirs = h.known other w there in
    let first = total_set pops views port v both at in
    let second = total_set pops (set views port both) other w spent at' in
    let first' = total_set steals views port v both at in
    let second' = total_set steals (set views port both) other w spent at' in
    let no : w.pop_right ≡ 0 = alone pops views port v h.owner at may other w two there in
    let no' : v.steal_right ≡ 0 = alone steals views other w h.thief there may' port v (λ e. two (sym e)) at in
    let joined : Knows p both = record { pushed = λ _. mine.pushed (omega arith); popped = mine.popped; stolen = theirs.stolen } in
    let known : (j : ℕ) (u : View) → get_elem? (set views port both) j ≡ some u → Knows p u =
    each_set (λ j u. Knows p u) views port both joined (λ j u n e. h.known j u e) in
    record {
      moves = h.moves;
      held = h.held;
      known = each_set (λ j u. Knows p u) (set views port both) other spent (idle p spent refl refl) (λ j u n e. known j u e);
      owner = omega (arith, h.owner);
      thief = omega (arith, h.thief);
    }
