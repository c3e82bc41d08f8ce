-- Scenarios kept: all faults, how many, and a part of what was kept.
use Rattle.std.proofs.Common.{◌≡◌, ℕ, ◌+◌, ◌<◌, ◌≤◌, List, [], ◌∷◌, Bool, true, false, cond, ◌&&◌, length, refl, ap, sym, ◌∙◌, arith}
use Rattle.std.specs.Prelude.{remove}
use Rattle.std.specs.List.{AllByRecursion, range_with_len}
use Rattle.scenario_values.specs.declared.term.Term.{Term}
use Rattle.scenario_values.specs.Scenario.{Entries, is_off, fault_of, faults_in, all_faults}
use Rattle.scenario_values.specs.Keep.{holds, are_faults, members_at, switched_off, kept_term, after_term, kept_chain, after_chain, kept_from, kept}
use Rattle.scenario_values.specs.inside.Walks.{Ascends}
use Rattle.scenario_values.proofs.Walking.{ascends_from}
use Rattle.scenario_values.proofs.Sets.{rank, rank_absent, rank_present, rank_zero, rank_high, within, holds_members, members_without, range_within, remove_all, holds_range}

-- ---- the numbers of faults

after_case : (n f r : ℕ) (b : Bool) → r ≡ cond b n (n + 1) + f → r ≡ n + (cond b 0 1 + f)
after_case n f r true h = omega arith
after_case n f r false h = omega arith

pub after_is : (n : ℕ) (ts : List Term) → after_chain n ts ≡ n + faults_in ts
unfolding after_chain
after_is n [] = omega arith
after_is n (t ∷ ts) = after_case n (faults_in ts) (after_chain (after_term n t) ts) (is_off t.task) (after_is (after_term n t) ts)

-- ---- all faults kept

all_case : (set : List ℕ) (n f : ℕ) (t : Term) (b : Bool) → ((k : ℕ) → n ≤ k → k < n + (cond b 0 1 + f) → holds set k ≡ true) → cond b t (cond (holds set n) t (switched_off t)) ≡ t
all_case set n f t true h = refl
all_case set n f t false h = ap (λ b. cond b t (switched_off t)) (h n (omega arith) (omega arith))

bound : (n f : ℕ) (b : Bool) (k : ℕ) → cond b n (n + 1) ≤ k → k < cond b n (n + 1) + f → (n ≤ k) × (k < n + (cond b 0 1 + f))
bound n f true k l h = (omega arith, omega arith)
bound n f false k l h = (omega arith, omega arith)

all_chain : (set : List ℕ) (n : ℕ) (ts : List Term) → ((k : ℕ) → n ≤ k → k < n + faults_in ts → holds set k ≡ true) → kept_chain set n ts ≡ ts
unfolding kept_chain
all_chain set n [] h = refl
all_chain set n (t ∷ ts) h =
    let rest = all_chain set (after_term n t) ts (λ k l m. let b = bound n (faults_in ts) (is_off t.task) k l m in h k b.0 b.1) in
    ap (λ u. u ∷ kept_chain set (after_term n t) ts) (all_case set n (faults_in ts) t (is_off t.task) h) ∙ ap (λ l. t ∷ l) rest

pub all_from : (set : List ℕ) (n : ℕ) (es : Entries) → ((k : ℕ) → n ≤ k → k < n + all_faults es → holds set k ≡ true) → kept_from set n es ≡ es
unfolding kept_from
all_from set n [] h = refl
all_from set n (e ∷ es) h =
    let next = after_is n e.1 in
    let here = all_chain set n e.1 (λ k l m. h k l (omega arith)) in
    let rest = all_from set (after_chain n e.1) es (λ k l m. h k (omega (arith, next, l)) (omega (arith, next, m))) in
    ap (λ c. (e.0, c) ∷ kept_from set (after_chain n e.1) es) here ∙ ap (λ l. e ∷ l) rest

pub kept_all : (s : Entries) → kept (range_with_len 0 (all_faults s)) s ≡ s
kept_all s = all_from (range_with_len 0 (all_faults s)) 0 s (λ k l m. holds_range 0 (all_faults s) k l m)

-- ---- a part of what was kept

-- For every number of a fault: the last set holds it exactly if the first one does and the second one holds its number among those kept.
abbrev pub Parts : List ℕ → List ℕ → List ℕ → Type 0
Parts set own last = (k : ℕ) → holds last k ≡ (holds set k && holds own (rank set k))

-- what keeping does to one term, and to the number of the next
step_case : (set own last : List ℕ) (n : ℕ) (t : Term) (b c : Bool) → is_off t.task ≡ b → holds set n ≡ c → Ascends set → Parts set own last
    → (kept_term own (rank set n) (cond b t (cond c t (switched_off t))) ≡ cond b t (cond (holds last n) t (switched_off t)))
    × (after_term (rank set n) (cond b t (cond c t (switched_off t))) ≡ rank set (cond b n (n + 1)))
step_case set own last n t true c e f a p = (ap (λ b. cond b t (cond (holds own (rank set n)) t (switched_off t))) e, ap (λ b. cond b (rank set n) (rank set n + 1)) e)
step_case set own last n t false true e f a p =
    let same : holds last n ≡ holds own (rank set n) = p n ∙ ap (λ b. b && holds own (rank set n)) f in
    let more : rank set n + 1 ≡ rank set (n + 1) = omega (arith, rank_present n set a f) in (
      ap (λ b. cond b t (cond (holds own (rank set n)) t (switched_off t))) e ∙ ap (λ b. cond b t (switched_off t)) (sym same),
      ap (λ b. cond b (rank set n) (rank set n + 1)) e ∙ more,
    )
step_case set own last n t false false e f a p =
    let none : holds last n ≡ false = p n ∙ ap (λ b. b && holds own (rank set n)) f in
    (ap (λ b. cond b t (switched_off t)) (sym none), sym (rank_absent n set f))

again_chain : (set own last : List ℕ) (n : ℕ) (ts : List Term) → Ascends set → Parts set own last
    → (kept_chain own (rank set n) (kept_chain set n ts) ≡ kept_chain last n ts) × (after_chain (rank set n) (kept_chain set n ts) ≡ rank set (after_chain n ts))
unfolding kept_chain after_chain
again_chain set own last n [] a p = (refl, refl)
again_chain set own last n (t ∷ ts) a p =
    let step = step_case set own last n t (is_off t.task) (holds set n) refl refl a p in
    let rest = again_chain set own last (after_term n t) ts a p in
    let more = kept_chain set (after_term n t) ts in (
      ap (λ u. u ∷ kept_chain own (after_term (rank set n) (kept_term set n t)) more) step.0 ∙ ap (λ m. kept_term last n t ∷ kept_chain own m more) step.1 ∙ ap (λ l. kept_term last n t ∷ l) rest.0,
      ap (λ m. after_chain m more) step.1 ∙ rest.1,
    )

again_from : (set own last : List ℕ) (n : ℕ) (es : Entries) → Ascends set → Parts set own last → kept_from own (rank set n) (kept_from set n es) ≡ kept_from last n es
unfolding kept_from
again_from set own last n [] a p = refl
again_from set own last n (e ∷ es) a p =
    let here = again_chain set own last n e.1 a p in
    let more = kept_from set (after_chain n e.1) es in
    ap (λ c. (e.0, c) ∷ kept_from own (after_chain (rank set n) (kept_chain set n e.1)) more) here.0
    ∙ ap (λ m. (e.0, kept_chain last n e.1) ∷ kept_from own m more) here.1
    ∙ ap (λ l. (e.0, kept_chain last n e.1) ∷ l) (again_from set own last (after_chain n e.1) es a p)

pub kept_again : (s : Entries) (set places : List ℕ) → are_faults (all_faults s) set ≡ true → AllByRecursion (λ i. i < length set) places → kept places (kept set s) ≡ kept (members_at set places) s
kept_again s set places e w =
    let a = ascends_from 0 (all_faults s) set e in
    ap (λ m. kept_from places m (kept set s)) (sym (rank_zero set)) ∙ again_from set places (members_at set places) 0 s a (λ k. holds_members k set places a w)

pub kept_without : (s : Entries) (set : List ℕ) (i : ℕ) → are_faults (all_faults s) set ≡ true → kept (remove (range_with_len 0 (length set)) i) (kept set s) ≡ kept (remove set i) s
kept_without s set i e =
    let places = remove (range_with_len 0 (length set)) i in
    kept_again s set places e (remove_all (λ k. k < length set) (range_with_len 0 (length set)) i (range_within 0 (length set) (length set) (omega arith)))
    ∙ ap (λ l. kept l s) (members_without set i)

-- ---- how many faults are kept

count_case : (set : List ℕ) (n g r : ℕ) (t : Term) (b c : Bool) → is_off t.task ≡ b → holds set n ≡ c → Ascends set → g + rank set (cond b n (n + 1)) ≡ r → fault_of (cond b t (cond c t (switched_off t))) + g + rank set n ≡ r
count_case set n g r t true c e f a h = let none : fault_of t ≡ 0 = ap (λ b. cond b 0 1) e in omega arith
count_case set n g r t false true e f a h = let some : fault_of t ≡ 1 = ap (λ b. cond b 0 1) e in omega (arith, rank_present n set a f)
count_case set n g r t false false e f a h = omega (arith, rank_absent n set f)

count_chain : (set : List ℕ) (n : ℕ) (ts : List Term) → Ascends set → faults_in (kept_chain set n ts) + rank set n ≡ rank set (after_chain n ts)
unfolding kept_chain after_chain
count_chain set n [] a = omega arith
count_chain set n (t ∷ ts) a = count_case set n (faults_in (kept_chain set (after_term n t) ts)) (rank set (after_chain (after_term n t) ts)) t (is_off t.task) (holds set n) refl refl a (count_chain set (after_term n t) ts a)

count_from : (set : List ℕ) (n : ℕ) (es : Entries) → Ascends set → all_faults (kept_from set n es) + rank set n ≡ rank set (n + all_faults es)
unfolding kept_from
count_from set n [] a = let same : n + 0 ≡ n = omega arith in let end = ap (rank set) same in omega (arith, end)
count_from set n (e ∷ es) a =
    let here = count_chain set n e.1 a in
    let rest = count_from set (after_chain n e.1) es a in
    let next : after_chain n e.1 + all_faults es ≡ n + (faults_in e.1 + all_faults es) = omega (arith, after_is n e.1) in
    let end = ap (rank set) next in
    omega (arith, here, rest, end)

pub kept_count : (s : Entries) (set : List ℕ) → are_faults (all_faults s) set ≡ true → all_faults (kept set s) ≡ length set
kept_count s set e =
    let a = ascends_from 0 (all_faults s) set e in
    let zero_up : 0 + all_faults s ≡ all_faults s = omega arith in
    let end = ap (rank set) zero_up in
    omega (arith, count_from set 0 s a, rank_zero set, end, rank_high (all_faults s) set (within 0 (all_faults s) set e))
