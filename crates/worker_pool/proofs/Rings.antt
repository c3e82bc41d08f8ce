-- A change of one link keeps the ring.
use Rattle.std.proofs.Common.{◌≡◌, ◌≢◌, ℕ, zero, suc, ◌+◌, ◌-◌, add-one, ◌<◌, Bool, count_by, List, [], ◌∷◌, length, get_or, set, Option, Some, None, sym, refl}
use Rattle.std.proofs.Common.{ap, ◌∙◌, subst, arith}
use mathlib.Core.Logic.{dite}
use native.Mathlib.Decide.{ℕ_discrete}
use Rattle.std.proofs.lemmas.Bool.Decides.{nat_tests}
use Rattle.std.proofs.lemmas.List.{get_or-set_same, get_or-set_other}
use Rattle.std.proofs.Math.ListN.{length-set}
use Rattle.crossbeam_deque.specs.Handles.{view, stealer_deque, worker_deque, worker_view}
use Rattle.worker_pool.specs.declared.rule.View.{View}
use Rattle.worker_pool.specs.declared.queue.Next.{Next}
use Rattle.worker_pool.specs.declared.queue.LocalQueue.{LocalQueue}
use Rattle.worker_pool.specs.inside.Ring.{next_of, Link, IsRing, stolen_by, stolen_from}

pub next_of-within : (n k : ℕ) → k < n → next_of n k < n
next_of-within n k within = grind (arith, nat_tests)

pub next_of-apart : (n j k : ℕ) → j < n → k < n → j ≢ k → next_of n j ≢ next_of n k
next_of-apart n j k in_j in_k apart same = grind (arith, nat_tests)

pub Link-along : (n : Option Next) (e f : LocalQueue) → (worker_view f.own).steal_right ≡ (worker_view e.own).steal_right → worker_deque f.own ≡ worker_deque e.own
    → Link n e → Link n f
Link-along None e f rights deque link = omega arith
Link-along (Some n) e f rights deque link = link ∙ sym deque

pub kept_at_set : {X : Type 0} (g : LocalQueue → X) (ds : List LocalQueue) (i j : ℕ) (v d e : LocalQueue) → g v ≡ g (get_or ds i e)
    → g (get_or (set ds i v) j d) ≡ g (get_or ds j d)
kept_at_set g [] i j v d e same = refl
kept_at_set g (x ∷ xs) zero zero v d e same = same
kept_at_set g (x ∷ xs) zero (suc j) v d e same = refl
kept_at_set g (x ∷ xs) (suc i) zero v d e same = refl
kept_at_set g (x ∷ xs) (suc i) (suc j) v d e same = kept_at_set g xs i j v d e same

pub ring_changed : (ds es : List LocalQueue) (k : ℕ) → length es ≡ length ds → k < length ds
    → ((j : ℕ) (d : LocalQueue) → j ≢ k → (get_or es j d).next ≡ (get_or ds j d).next)
    → ((t : ℕ) (d : LocalQueue) → t ≢ next_of (length ds) k → (worker_view (get_or es t d).own).steal_right ≡ (worker_view (get_or ds t d).own).steal_right)
    → ((t : ℕ) (d : LocalQueue) → worker_deque (get_or es t d).own ≡ worker_deque (get_or ds t d).own)
    → ((d : LocalQueue) → Link (get_or es k d).next (get_or es (next_of (length ds) k) d))
    → IsRing ds → IsRing es
ring_changed ds es k len in_k nexts rights deques here ring j d in_j =
    let n = length ds in
    let in_j' : j < n = omega arith in
    let P : ℕ → Type 0 = λ m. Link (get_or es j d).next (get_or es (next_of m j) d) in
    let Q : ℕ → Type 0 = λ i. Link (get_or es i d).next (get_or es (next_of n i) d) in
    subst P (sym len) (dite (ℕ_discrete j k) (λ (e : j ≡ k). subst Q (sym e) (here d))
    (λ (ne : j ≢ k). let R : Option Next → Type 0 = λ o. Link o (get_or es (next_of n j) d) in
    subst R (sym (nexts j d ne)) (Link-along (get_or ds j d).next (get_or ds (next_of n j) d) (get_or es (next_of n j) d)
    (rights (next_of n j) d (next_of-apart n j k in_j' in_k ne)) (deques (next_of n j) d) (ring j d in_j'))))

abbrev right_of : LocalQueue → ℕ
right_of x = (worker_view x.own).steal_right

-- the pass of queue k is taken in at the next queue
pub ring_absorbed : (ds : List LocalQueue) (k next : ℕ) (old mid there new : LocalQueue) → k < length ds → next ≡ next_of (length ds) k
    → old ≡ get_or ds k old → right_of mid ≡ right_of old → worker_deque mid.own ≡ worker_deque old.own → mid.next ≡ None
    → there ≡ get_or (set ds k mid) next there → new.next ≡ there.next → worker_deque new.own ≡ worker_deque there.own
    → 0 < right_of new
    → IsRing ds → IsRing (set (set ds k mid) next new)
ring_absorbed ds k next old mid there new in_k is old_is mid_rights mid_deque mid_next there_is new_next new_deque whole ring =
    let n = length ds in
    let es = set ds k mid in
    let in_next : next < length es = omega (arith, length-set ds k mid, next_of-within n k in_k) in
    let nexts : new.next ≡ (get_or es next there).next = new_next ∙ ap (λ (x : LocalQueue). x.next) there_is in
    let deques : worker_deque new.own ≡ worker_deque (get_or es next there).own = new_deque ∙ ap (λ (x : LocalQueue). worker_deque x.own) there_is in
    let mids : right_of mid ≡ right_of (get_or ds k old) = mid_rights ∙ ap right_of old_is in
    let mids' : worker_deque mid.own ≡ worker_deque (get_or ds k old).own = mid_deque ∙ ap (λ (x : LocalQueue). worker_deque x.own) old_is in
    ring_changed ds (set es next new) k (omega (arith, length-set es next new, length-set ds k mid)) in_k
    (λ j d ne. kept_at_set (λ (x : LocalQueue). x.next) es next j new d there nexts ∙ ap (λ (x : LocalQueue). x.next) (get_or-set_other ds k j mid d ne))
    (λ t d ne. let ne' : t ≢ next = (λ e. ne (e ∙ is)) in ap right_of (get_or-set_other es next t new d ne') ∙ kept_at_set right_of ds k t mid d old mids)
    (λ t d. kept_at_set (λ (x : LocalQueue). worker_deque x.own) es next t new d there deques ∙ kept_at_set (λ (x : LocalQueue). worker_deque x.own) ds k t mid d old mids')
    (λ d.
    let none : (get_or (set es next new) k d).next ≡ None = kept_at_set (λ (x : LocalQueue). x.next) es next k new d there nexts
    ∙ ap (λ (x : LocalQueue). x.next) (get_or-set_same ds k mid d in_k) ∙ mid_next in
    let here : get_or (set es next new) (next_of n k) d ≡ new = subst (λ (m : ℕ). get_or (set es next new) m d ≡ new) is
    (get_or-set_same es next new d in_next) in
    let R : Option Next → Type 0 = λ o. Link o (get_or (set es next new) (next_of n k) d) in
    subst R (sym none) (subst (λ (x : LocalQueue). 0 < (worker_view x.own).steal_right) (sym here) whole))
    ring

-- what neither change touches is the same at each place
pub same_at : {X : Type 0} (g : LocalQueue → X) (ds : List LocalQueue) (k next : ℕ) (old mid there new : LocalQueue) → old ≡ get_or ds k old → g mid ≡ g old
    → there ≡ get_or (set ds k mid) next there → g new ≡ g there
    → (j : ℕ) (d : LocalQueue) → g (get_or (set (set ds k mid) next new) j d) ≡ g (get_or ds j d)
same_at g ds k next old mid there new old_is mid_is there_is new_is j d = kept_at_set g (set ds k mid) next j new d there (new_is ∙ ap g there_is)
    ∙ kept_at_set g ds k j mid d old (mid_is ∙ ap g old_is)

pub next_zero : (n k : ℕ) → k + 1 ≡ n → next_of n k ≡ 0
next_zero n k is = grind (arith, nat_tests)

pub next_suc : (n k : ℕ) → k + 1 ≢ n → next_of n k ≡ k + 1
next_suc n k ne = grind (arith, nat_tests)

-- a place within has one value, whatever stands for the places beyond
pub at_any : {A : Type 0} (xs : List A) (k : ℕ) (d e : A) → k < length xs → get_or xs k d ≡ get_or xs k e
at_any [] k d e within = absurd (omega arith)
at_any (x ∷ xs) zero d e within = refl
at_any (x ∷ xs) (suc k) d e within = at_any xs k d e (omega arith)

-- a pass at the deque of the next queue is given to queue k
pub ring_linked : (ds : List LocalQueue) (k next : ℕ) (old mid there new : LocalQueue) (n : Next) → k < length ds → next ≡ next_of (length ds) k
    → old ≡ get_or ds next old → mid.next ≡ old.next → worker_deque mid.own ≡ worker_deque old.own
    → there ≡ get_or (set ds next mid) k there → new.next ≡ Some n → worker_view new.own ≡ worker_view there.own → worker_deque new.own ≡ worker_deque there.own
    → stealer_deque n.from ≡ worker_deque old.own
    → IsRing ds → IsRing (set (set ds next mid) k new)
ring_linked ds k next old mid there new n in_k is old_is mid_next mid_deque there_is new_next new_view new_deque from ring =
    let es = set (set ds next mid) k new in
    let m = next_of (length ds) k in
    let in_k' : k < length (set ds next mid) = omega (arith, length-set ds next mid) in
    let in_m : m < length ds = next_of-within (length ds) k in_k in
    let deques : (t : ℕ) (d : LocalQueue) → worker_deque (get_or es t d).own ≡ worker_deque (get_or ds t d).own =
    λ t d. kept_at_set (λ (x : LocalQueue). worker_deque x.own) (set ds next mid) k t new d there (new_deque ∙ ap (λ (x : LocalQueue). worker_deque x.own) there_is)
    ∙ kept_at_set (λ (x : LocalQueue). worker_deque x.own) ds next t mid d old (mid_deque ∙ ap (λ (x : LocalQueue). worker_deque x.own) old_is) in
    ring_changed ds es k (omega (arith, length-set ds next mid, length-set (set ds next mid) k new)) in_k
    (λ j d ne. ap (λ (x : LocalQueue). x.next) (get_or-set_other (set ds next mid) k j new d ne) ∙ kept_at_set (λ (x : LocalQueue). x.next) ds next j mid d old
    (mid_next ∙ ap (λ (x : LocalQueue). x.next) old_is))
    (λ t d ne. kept_at_set right_of (set ds next mid) k t new d there (ap (λ (v : View). v.steal_right) new_view ∙ ap right_of there_is)
    ∙ ap right_of (get_or-set_other ds next t mid d (λ e. ne (e ∙ is))))
    deques
    (λ d.
    let some : (get_or es k d).next ≡ Some n = ap (λ (x : LocalQueue). x.next) (get_or-set_same (set ds next mid) k new d in_k') ∙ new_next in
    let here : old ≡ get_or ds m d = old_is ∙ ap (λ (i : ℕ). get_or ds i old) is ∙ at_any ds m old d in_m in
    let link : stealer_deque n.from ≡ worker_deque (get_or es m d).own = from ∙ ap (λ (x : LocalQueue). worker_deque x.own) here ∙ sym (deques m d) in
    let R : Option Next → Type 0 = λ o. Link o (get_or es m d) in
    subst R (sym some) link)
    ring

pub absorbed_stolen : (test : ℕ → Bool) (ds : List LocalQueue) (k next : ℕ) (old mid new : LocalQueue) (n : Next) (d : LocalQueue) → k < length ds → next < length ds
    → old ≡ get_or ds k old → old.next ≡ Some n
    → (worker_view new.own).stolen ≡ (view n.pass).stolen → stolen_by test (get_or (set (set ds k mid) next new) next d) ≡ stolen_from test (get_or ds k d).next
    (get_or ds next d)
absorbed_stolen test ds k next old mid new n d in_k in_next is some stolen =
    let there : (get_or ds k d).next ≡ Some n = ap (λ (x : LocalQueue). x.next) (at_any ds k d old in_k ∙ sym is) ∙ some in
    ap (stolen_by test) (get_or-set_same (set ds k mid) next new d (omega (arith, length-set ds k mid))) ∙ ap (count_by test) stolen ∙ ap
    (λ (o : Option Next). stolen_from test o (get_or ds next d)) (sym there)

-- only the stolen numbers of the queue count
pub stolen_along : (test : ℕ → Bool) (o p : Option Next) (e f : LocalQueue) → p ≡ o → (worker_view f.own).stolen ≡ (worker_view e.own).stolen
    → stolen_from test p f ≡ stolen_from test o e
stolen_along test None p e f is same = ap (λ (x : Option Next). stolen_from test x f) is ∙ ap (count_by test) same
stolen_along test (Some n) p e f is same = ap (λ (x : Option Next). stolen_from test x f) is

prev_zero : (n : ℕ) → 0 < n → (j : ℕ) × (j < n) × (next_of n j ≡ 0)
prev_zero n some_queue = (n - 1, omega arith, (let e : (n - 1) + 1 ≡ n = omega arith in grind (arith, nat_tests)))

prev_suc : (n i : ℕ) → i + 1 < n → next_of n i ≡ i + 1
prev_suc n i within = grind (arith, nat_tests)

whole_at : (ds : List LocalQueue) (k j : ℕ) (d : LocalQueue) → IsRing ds → j < length ds → (get_or ds j d).next ≡ None → next_of (length ds) j ≡ k
    → 0 < right_of (get_or ds k d)
whole_at ds k j d ring in_j none is =
    let P : Option Next → Type 0 = λ o. Link o (get_or ds (next_of (length ds) j) d) in
    let link : 0 < right_of (get_or ds (next_of (length ds) j) d) = subst P none (ring j d in_j) in
    subst (λ (m : ℕ). 0 < right_of (get_or ds m d)) is link

pub ring_whole : (ds : List LocalQueue) → IsRing ds → ((j : ℕ) (d : LocalQueue) → j < length ds → (get_or ds j d).next ≡ None) → (k : ℕ) (d : LocalQueue) → k < length ds
    → 0 < right_of (get_or ds k d)
ring_whole ds ring none zero d within = let p = prev_zero (length ds) within in whole_at ds 0 p.0 d ring p.1 (none p.0 d p.1) p.2
ring_whole ds ring none (suc i) d within = let i_in : i < length ds = omega arith in
    whole_at ds (suc i) i d ring i_in (none i d i_in) (prev_suc (length ds) i (omega arith) ∙ add-one i)

-- the queue before a queue
pub prev_of : (n k : ℕ) → k < n → (j : ℕ) × (j < n) × (next_of n j ≡ k)
prev_of n zero within = prev_zero n within
prev_of n (suc i) within = (i, omega arith, prev_suc n i (omega arith) ∙ add-one i)
