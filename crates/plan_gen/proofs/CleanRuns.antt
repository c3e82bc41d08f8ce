-- Up to the rigged hit, a run is the run of the empty scenario.
use Rattle.std.proofs.Common.{◌≡◌, ℕ, zero, suc, ◌+◌, ◌-◌, ◌<◌, ◌≤◌, ◌==◌, nat_le, Bool, true, false, cond, true≢false, bytes_eq, Option, Some, None, List, [], ◌∷◌, ◌++◌, take, length, slice_index_or, refl, ap, sym, ◌∙◌, subst, arith}
use Rattle.std.specs.List.{AllByRecursion}
use Rattle.std.proofs.lemmas.List.{append-nil}
use Rattle.std.proofs.lemmas.List.Sums.{sum_by-cons}
use Rattle.std.proofs.lemmas.Bool.Decides.{nat_tests}
use Rattle.std.proofs.lemmas.Slice.Eq.{bytes_eq-Decides}
use Rattle.scenario_values.specs.declared.term.Term.{Term}
use Rattle.scenario_values.specs.declared.term.Task.TheVariants as task
use Rattle.scenario_values.specs.Scenario.{Entries, chain_of, is_name, is_off}
use Rattle.action_eval.specs.Words.{word}
use Rattle.action_eval.specs.Trial.{tried}
use Rattle.action_eval.specs.Answers.{Given, Hit, given_of, run_of, history_of, and_then, next, hit_by, acted, is_term, is_used_up, name_of, words_of}
use Rattle.action_eval.specs.SameMeaning.{meaning}
use Rattle.action_eval.specs.FullShares.{IsFull, NoFaultActed}
use Rattle.action_eval.proofs.Clean.{clean_meaning}
use Rattle.action_eval.specs.Catalogue.{IsCatalogue, HasDistinct}
use Rattle.action_eval.specs.declared.rig.Rig.{Rig}
use Rattle.action_eval.specs.declared.rig.Kind.{Kind}
use Rattle.action_eval.specs.declared.rig.Kind.TheVariants.{OnceReturn, OnwardReturn, OncePanic}
use Rattle.action_eval.specs.RiggedScenario.{offs, term_of, full, rigged, entry, entries_from, rig, rigged_scenario}
use Rattle.plan_gen.specs.LoopRuns.{times}
use Rattle.plan_gen.proofs.Lists.{fold_append}
use Rattle.plan_gen.proofs.Meeting.{IsCleanBefore}

-- ---- names of a catalogue

pub differ : (a b : List ℕ) (r : Bool) → bytes_eq b a ≡ r → bytes_eq a b ≡ false → bytes_eq b a ≡ false
differ a b true e n = absurd (true≢false (sym ((bytes_eq-Decides a b).1 (sym ((bytes_eq-Decides b a).0 e))) ∙ n))
differ a b false e n = e

nameless : (n : List ℕ) → is_name n ≡ true → bytes_eq [] n ≡ false
nameless [] l = absurd cc
nameless (b ∷ bs) l = refl

pub other : (n : List ℕ) (ns : List (List ℕ)) (q : ℕ) → AllByRecursion (λ o. bytes_eq o n ≡ false) ns → is_name n ≡ true → bytes_eq (slice_index_or ns q []) n ≡ false
other n [] q a l = nameless n l
other n (m ∷ ns) zero a l = a.0
other n (m ∷ ns) (suc q) a l = other n ns q a.1 l

-- the names of other points, and of no point, differ from a point's name
pub apart : (names : List (List ℕ)) (p q : ℕ) → HasDistinct names → AllByRecursion (λ n. is_name n ≡ true) names → p < length names → (q == p) ≡ false → bytes_eq (slice_index_or names q []) (slice_index_or names p []) ≡ false
apart [] p q d l h e = absurd (omega (arith, h))
apart (n ∷ ns) zero zero d l h e = absurd cc
apart (n ∷ ns) zero (suc q) d l h e = other n ns q d.0 l.0
apart (n ∷ ns) (suc p) zero d l h e =
    let m = slice_index_or ns p [] in
    differ m n (bytes_eq n m) refl (other n ns p d.0 l.0)
apart (n ∷ ns) (suc p) (suc q) d l h e = let less : (q == p) ≡ false = grind (arith, nat_tests, e) in apart ns p q d.1 l.1 (omega (arith, h)) less

-- ---- the scenario of one rigged hit

none_past : (r : Rig) (i : ℕ) (names : List (List ℕ)) → r.site.point < i → entries_from i names (r ∷ []) ≡ []
none_past r i [] h = refl
none_past r i (n ∷ ns) h =
    let past : (r.site.point == i) ≡ false = grind (arith, nat_tests, h) in
    ap (λ b. entry n (cond b (rigged 0 r) [] ++ []) ++ entries_from (i + 1) ns (r ∷ [])) past ∙ none_past r (i + 1) ns (omega (arith, h))

whole_entry : (n : List ℕ) (a : List Term) (t : Term) → entry n (a ++ t ∷ []) ≡ (n, a ++ t ∷ []) ∷ []
whole_entry n [] t = refl
whole_entry n (x ∷ xs) t = refl

one_entry : (r : Rig) (i j : ℕ) (names : List (List ℕ)) → j < length names → r.site.point ≡ i + j → entries_from i names (r ∷ []) ≡ (slice_index_or names j [], rigged 0 r) ∷ []
one_entry r i j [] h e = absurd (omega (arith, h))
one_entry r i zero (n ∷ ns) h e =
    let here : (r.site.point == i) ≡ true = grind (arith, nat_tests, e) in
    ap (λ b. entry n (cond b (rigged 0 r) [] ++ []) ++ entries_from (i + 1) ns (r ∷ [])) here
    ∙ ap (λ l. entry n (rigged 0 r ++ []) ++ l) (none_past r (i + 1) ns (omega (arith, e)))
    ∙ append-nil (entry n (rigged 0 r ++ []))
    ∙ ap (entry n) (append-nil (rigged 0 r)) ∙ whole_entry n (offs (r.site.hit - 0 - 1)) (term_of r.kind)
one_entry r i (suc j) (n ∷ ns) h e =
    let past : (r.site.point == i) ≡ false = grind (arith, nat_tests, e) in
    ap (λ b. entry n (cond b (rigged 0 r) [] ++ []) ++ entries_from (i + 1) ns (r ∷ [])) past ∙ one_entry r (i + 1) j ns (omega (arith, h)) (omega (arith, e))

one_rig : (names : List (List ℕ)) (r : Rig) → r.site.point < length names → rigged_scenario names (r ∷ []) ≡ (slice_index_or names r.site.point [], rigged 0 r) ∷ []
unfolding rigged_scenario
one_rig names r h = one_entry r 0 r.site.point names h (omega arith)

full_both : (a b : List Term) → IsFull a → IsFull b → IsFull (a ++ b)
full_both [] b h k = k
full_both (x ∷ xs) b h k = (h.0, full_both xs b h.1 k)

full_offs_case : (n : ℕ) (b : Bool) → IsFull (cond b [] (full (Some n) task.Off ∷ []))
full_offs_case n true = tt
full_offs_case n false = (refl, tt)

full_term : (kind : Kind) → IsFull (term_of kind ∷ [])
full_term (OnceReturn text) = (refl, tt)
full_term (OnwardReturn text) = (refl, tt)
full_term OncePanic = (refl, tt)

full_rigged : (r : Rig) → IsFull (rigged 0 r)
full_rigged r = let n = r.site.hit - 0 - 1 in full_both (offs n) (term_of r.kind ∷ []) (full_offs_case n (n == 0)) (full_term r.kind)

-- ---- hits before the rigged one

-- The next hit, if its chain is this one.
abbrev with_chain : Given → List Hit → ℕ → List Term → Hit
with_chain g h q c = hit_by c (name_of g q) (words_of h) q (tried (word g.seed g.stream) (is_used_up (acted h (name_of g q))) 0 c (words_of h))

-- no chain: nothing is done, and no term acts
no_chain : (g : Given) (h : List Hit) (q : ℕ) → chain_of g.scenario (name_of g q) ≡ [] → (is_off (next g h q).did ≡ true) × ((next g h q).term ≡ None)
no_chain g h q e = (ap (λ (c : List Term). is_off (with_chain g h q c).did) e, ap (λ (c : List Term). (with_chain g h q c).term) e)

-- an `off` that isn't used up acts
off_acts : (g : Given) (h : List Hit) (q m : ℕ) (ts : List Term) → chain_of g.scenario (name_of g q) ≡ full (Some m) task.Off ∷ ts → acted h (name_of g q) 0 < m → is_off (next g h q).did ≡ true
off_acts g h q m ts e few =
    let c : List Term = full (Some m) task.Off ∷ ts in
    let w = words_of h in
    let spent = is_used_up (acted h (name_of g q)) in
    let left : nat_le m (acted h (name_of g q) 0) ≡ false = grind (arith, nat_tests, few) in
    ap (λ (c : List Term). is_off (with_chain g h q c).did) e
    ∙ ap (λ b. is_off (hit_by c (name_of g q) w q (cond b (tried (word g.seed g.stream) spent 1 ts w) (record { place = Some 0; next = w }))).did) left

one_more : (b : Bool) (n : ℕ) → n + cond b 1 0 ≤ n + 1
one_more true n = omega arith
one_more false n = omega arith

acted_push : (h : List Hit) (x : Hit) (name : List ℕ) (i : ℕ) → acted (h ++ x ∷ []) name i ≡ acted h name i + cond (is_term name i x.term) 1 0
acted_push h x name i = fold_append (λ a (y : Hit). a + cond (is_term name i y.term) 1 0) 0 h (x ∷ [])

push_quiet : (h : List Hit) (x : Hit) → NoFaultActed h → is_off x.did ≡ true → NoFaultActed (h ++ x ∷ [])
push_quiet [] x n o = (o, tt)
push_quiet (y ∷ h) x n o = (n.0, push_quiet h x n.1 o)

-- at another point no chain is found; at the rigged one the `off` in front, of count m, is found, if there is one
record OneRig (g : Given) (p m : ℕ) (ts : List Term) : Type 0 where
  elsewhere : (q : ℕ) → (q == p) ≡ false → chain_of g.scenario (name_of g q) ≡ []
  here : 0 < m → chain_of g.scenario (name_of g p) ≡ full (Some m) task.Off ∷ ts

quiet_step : (g : Given) (p m : ℕ) (ts : List Term) → OneRig g p m ts → (h : List Hit) (q rest : ℕ) (b : Bool) → (q == p) ≡ b → acted h (name_of g p) 0 + (cond b 1 0 + rest) ≤ m
    → (is_off (next g h q).did ≡ true) × (acted (h ++ next g h q ∷ []) (name_of g p) 0 + rest ≤ m)
quiet_step g p m ts o h q rest true e few =
    let same : q ≡ p = grind (arith, nat_tests, e) in
    let more : acted h (name_of g p) 0 < m = omega (arith, few) in
    let some : 0 < m = omega (arith, few) in
    let off : is_off (next g h p).did ≡ true = off_acts g h p m ts (o.here some) more in
    let x = next g h q in
    (subst (λ (k : ℕ). is_off (next g h k).did ≡ true) (sym same) off, omega (arith, few, acted_push h x (name_of g p) 0, one_more (is_term (name_of g p) 0 x.term) (acted h (name_of g p) 0)))
quiet_step g p m ts o h q rest false e few =
    let none = no_chain g h q (o.elsewhere q e) in
    let x = next g h q in
    let still : acted (h ++ x ∷ []) (name_of g p) 0 ≡ acted h (name_of g p) 0 + 0 = acted_push h x (name_of g p) 0 ∙ ap (λ (t : Option (List ℕ × ℕ)). acted h (name_of g p) 0 + cond (is_term (name_of g p) 0 t) 1 0) none.1 in
    (none.0, omega (arith, few, still))

quiet : (g : Given) (p m : ℕ) (ts : List Term) → OneRig g p m ts → (h : List Hit) (ps : List ℕ) → NoFaultActed h → acted h (name_of g p) 0 + times p ps ≤ m → NoFaultActed (and_then g h ps)
quiet g p m ts o h [] n few = n
quiet g p m ts o h (q ∷ ps) n few =
    let split : times p (q ∷ ps) ≡ cond (q == p) 1 0 + times p ps = sum_by-cons (λ q. cond (q == p) 1 0) q ps in
    let step = quiet_step g p m ts o h q (times p ps) (q == p) refl (omega (arith, few, split)) in
    quiet g p m ts o (h ++ next g h q ∷ []) ps (push_quiet h (next g h q) n step.0) step.1

-- ---- runs

chain_case : (c : List Term) (b : Bool) → b ≡ false → cond b c [] ≡ []
chain_case c b e = ap (λ b. cond b c []) e

front_case : (m : ℕ) (ts : List Term) (b : Bool) → b ≡ false → cond b [] (full (Some m) task.Off ∷ []) ++ ts ≡ full (Some m) task.Off ∷ ts
front_case m ts b e = ap (λ b. cond b [] (full (Some m) task.Off ∷ []) ++ ts) e

rig_is_one : (names : List (List ℕ)) (c : IsCatalogue names) (seed limit : ℕ) (r : Rig) → r.site.point < length names
    → OneRig (given_of ((slice_index_or names r.site.point [], rigged 0 r) ∷ []) names seed 0 limit) r.site.point (r.site.hit - 0 - 1) (term_of r.kind ∷ [])
rig_is_one names c seed limit r h =
    let p = r.site.point in
    let name = slice_index_or names p [] in
    let m = r.site.hit - 0 - 1 in
    record {
      elsewhere = λ q e. chain_case (rigged 0 r) (bytes_eq (slice_index_or names q []) name) (apart names p q c.distinct c.lawful h e);
      here = λ some.
          let found : bytes_eq name name ≡ true = (bytes_eq-Decides name name).1 refl in
          let front : (m == 0) ≡ false = grind (arith, nat_tests, some) in
          ap (λ b. cond b (rigged 0 r) []) found ∙ front_case m (term_of r.kind ∷ []) (m == 0) front;
    }

clean_one : (names : List (List ℕ)) → IsCatalogue names → (seed limit : ℕ) (r : Rig) → r.site.point < length names → 0 < r.site.hit → (hits : List ℕ) → times r.site.point (take limit hits) < r.site.hit
    → meaning (run_of ((slice_index_or names r.site.point [], rigged 0 r) ∷ []) names seed 0 limit hits) ≡ meaning (run_of [] names seed 0 limit hits)
clean_one names c seed limit r h some hits few =
    let s : Entries = (slice_index_or names r.site.point [], rigged 0 r) ∷ [] in
    let g : Given = given_of s names seed 0 limit in
    let none : NoFaultActed (history_of (run_of s names seed 0 limit hits)) = quiet g r.site.point (r.site.hit - 0 - 1) (term_of r.kind ∷ []) (rig_is_one names c seed limit r h) [] (take limit hits) tt (omega (arith, few, some)) in
    clean_meaning s names seed 0 limit hits (full_rigged r, tt) none

pub clean_before : (names : List (List ℕ)) → IsCatalogue names → (seed limit : ℕ) (kind : Kind) → IsCleanBefore names seed limit kind
clean_before names c seed limit kind p k h some hits few =
    let r : Rig = rig (record { point = p; hit = k }) kind in
    subst (λ (s : Entries). meaning (run_of s names seed 0 limit hits) ≡ meaning (run_of [] names seed 0 limit hits)) (sym (one_rig names r h)) (clean_one names c seed limit r h some hits few)
