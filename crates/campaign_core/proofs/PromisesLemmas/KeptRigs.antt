-- A scenario of rigged hits, with some of its faults and tidied, is that of those hits alone.
use Rattle.std.proofs.Common.{◌≡◌, ℕ, suc, ◌+◌, ◌-◌, ◌<◌, ◌≤◌, ◌^◌, ◌==◌, ◌⊎◌, inl, inr, Bool, true, false, cond, nat_lt, not, ◌&&◌, List, [], ◌∷◌, ◌++◌, map, Some, None, refl, ap, sym, ◌∙◌, subst, arith, take, length, reverse, append_assoc, length-append}
use Rattle.std.specs.List.{AllByRecursion, prefix_len, suffix_len, position_or_len}
use Rattle.std.proofs.lemmas.Bool.Decides.{nat_tests}
use Rattle.std.proofs.lemmas.List.{append-nil, reverse-append, take_all, take-append-le}
use Rattle.scenario_values.specs.declared.term.Term.{Term}
use Rattle.scenario_values.specs.declared.term.Task.TheVariants as task
use Rattle.scenario_values.specs.Scenario.{Entries, all_faults, faults_in, is_off}
use Rattle.scenario_values.specs.Keep.{holds, switched_off, kept, kept_chain, kept_from, after_chain}
use Rattle.scenario_values.specs.Tidied.{is_live, is_endless, is_idle, joined_counts, join_by, with_count, joined_onto, joined, without_used, up_to_endless, without_idle_end, tidied_chain, put, tidied}
use Rattle.scenario_values.proofs.KeptAgain.{after_is}
use Rattle.action_eval.specs.declared.rig.Site.{Site}
use Rattle.action_eval.specs.declared.rig.Rig.{Rig}
use Rattle.action_eval.specs.declared.rig.Kind.{Kind}
use Rattle.action_eval.specs.declared.rig.Kind.TheVariants.{OnceReturn, OnwardReturn, OncePanic}
use Rattle.action_eval.specs.RiggedScenario.{full, offs, term_of, rigged, chain_from, done_after, terms_at, entry, entries_from, rigged_scenario}
use Rattle.plan_gen.specs.RiggedAnswers.{IsBefore, AreInOrder, is_onward}
use Rattle.grown_plans.proofs.Members.{all_of, all_right, all_weaker}

-- The rigged hits of a set of numbers, if the first one has number n.
abbrev pub chosen : List ℕ → ℕ → List Rig → List Rig
chosen set n [] = []
chosen set n (r ∷ rs) = cond (holds set n) (r ∷ chosen set (n + 1) rs) (chosen set (n + 1) rs)

pub chosen_all : (P : Rig → Type 0) (set : List ℕ) (n : ℕ) (rs : List Rig) → AllByRecursion P rs → AllByRecursion P (chosen set n rs)
chosen_all P set n [] a = tt
chosen_all P set n (r ∷ rs) a = by_test (holds set n) (chosen_all P set (n + 1) rs a.1)
  where
    by_test : (b : Bool) → AllByRecursion P (chosen set (n + 1) rs) → AllByRecursion P (cond b (r ∷ chosen set (n + 1) rs) (chosen set (n + 1) rs))
    by_test true rest = (a.0, rest)
    by_test false rest = rest

-- they are all of them, or fewer
pub all_or_fewer : (set : List ℕ) (n : ℕ) (rs : List Rig) → (chosen set n rs ≡ rs) ⊎ (length (chosen set n rs) < length rs)
all_or_fewer set n [] = inl refl
all_or_fewer set n (r ∷ rs) = by_test (holds set n) (all_or_fewer set (n + 1) rs)
  where
    by_test : (b : Bool) → (chosen set (n + 1) rs ≡ rs) ⊎ (length (chosen set (n + 1) rs) < length rs)
        → (cond b (r ∷ chosen set (n + 1) rs) (chosen set (n + 1) rs) ≡ r ∷ rs) ⊎ (length (cond b (r ∷ chosen set (n + 1) rs) (chosen set (n + 1) rs)) < length (r ∷ rs))
    by_test true (inl e) = inl (ap (λ (l : List Rig). r ∷ l) e)
    by_test true (inr less) = inr (let goal : suc (length (chosen set (n + 1) rs)) < suc (length rs) = omega (arith, less) in goal)
    by_test false (inl e) = let size : length (chosen set (n + 1) rs) ≡ length rs = ap (λ (l : List Rig). length l) e in inr (let goal : length (chosen set (n + 1) rs) < suc (length rs) = omega (arith, size) in goal)
    by_test false (inr less) = inr (let goal : length (chosen set (n + 1) rs) < suc (length rs) = omega (arith, less) in goal)

-- ---- gaps

abbrev off : ℕ → Term
off n = full (Some n) task.Off

joined_gaps : (a b : ℕ) (ts : List Term) → a + b < 2 ^ 32 → joined (offs a ++ (offs b ++ ts)) ≡ joined (offs (a + b) ++ ts)
unfolding joined joined_onto
joined_gaps a b ts low = by_tests (a == 0) (b == 0) refl refl
  where
    by_tests : (x y : Bool) → (a == 0) ≡ x → (b == 0) ≡ y → joined (cond x [] (off a ∷ []) ++ (cond y [] (off b ∷ []) ++ ts)) ≡ joined (offs (a + b) ++ ts)
    by_tests true y e f =
        let none : a ≡ 0 = grind (arith, nat_tests, e) in
        ap (λ (z : Bool). joined (cond z [] (off b ∷ []) ++ ts)) (sym f) ∙ ap (λ (n : ℕ). joined (offs n ++ ts)) (let goal : b ≡ a + b = omega (arith, none) in goal)
    by_tests false true e f =
        let none : b ≡ 0 = grind (arith, nat_tests, f) in
        ap (λ (z : Bool). joined (cond z [] (off a ∷ []) ++ ts)) (sym e) ∙ ap (λ (n : ℕ). joined (offs n ++ ts)) (let goal : a ≡ a + b = omega (arith, none) in goal)
    by_tests false false e f =
        let some : ((a + b) == 0) ≡ false = grind (arith, nat_tests, e) in
        let small : nat_lt 4294967295 (a + b) ≡ false = grind (arith, nat_tests, low) in
        ap (λ (z : Bool). join_by (cond z None (Some (a + b))) (off a) (joined_onto (with_count (cond z None (Some (a + b))) (off a) (off b)) ts)) small
        ∙ ap (λ (z : Bool). joined (cond z [] (off (a + b) ∷ []) ++ ts)) (sym some)

joined_fault : (t : Term) (ts : List Term) → is_idle t ≡ false → joined (t ∷ ts) ≡ t ∷ joined ts
unfolding joined joined_onto
joined_fault t [] e = refl
joined_fault t (u ∷ us) e =
    ap (λ (z : Bool). join_by (cond (z && is_idle u) (joined_counts t.count u.count) None) t (joined_onto (with_count (cond (z && is_idle u) (joined_counts t.count u.count) None) t u) us)) e

gap_fault : (a : ℕ) (t : Term) (ts : List Term) → is_idle t ≡ false → joined (offs a ++ t ∷ ts) ≡ offs a ++ t ∷ joined ts
unfolding joined joined_onto
gap_fault a t ts e = by_test (a == 0)
  where
    by_test : (x : Bool) → joined (cond x [] (off a ∷ []) ++ t ∷ ts) ≡ cond x [] (off a ∷ []) ++ t ∷ joined ts
    by_test true = joined_fault t ts e
    by_test false =
        ap (λ (z : Bool). join_by (cond z (joined_counts (Some a) t.count) None) (off a) (joined_onto (with_count (cond z (joined_counts (Some a) t.count) None) (off a) t) ts)) e
        ∙ ap (λ (r : List Term). off a ∷ r) (joined_fault t ts e)

gap_end : (a : ℕ) → joined (offs a ++ []) ≡ offs a
unfolding joined joined_onto
gap_end a = by_test (a == 0)
  where
    by_test : (x : Bool) → joined (cond x [] (off a ∷ []) ++ []) ≡ cond x [] (off a ∷ [])
    by_test true = refl
    by_test false = refl

-- ---- the chain of a point

-- rigged hits of one point, after so many hits of it, of which a sticky one is the last
abbrev AreAt : ℕ → ℕ → List Rig → Type 0
AreAt p done [] = Unit {0}
AreAt p done (r ∷ rs) = (r.site.point ≡ p) × (done < r.site.hit) × (r.site.hit < 2 ^ 32) × (is_onward r.kind ≡ true → rs ≡ []) × AreAt p r.site.hit rs

-- the same, in whatever order
abbrev IsAt : ℕ → Rig → Type 0
IsAt p r = r.site.point ≡ p

are_each : (p done : ℕ) (rs : List Rig) → AreAt p done rs → AllByRecursion (IsAt p) rs
are_each p done [] a = tt
are_each p done (r ∷ rs) a = (a.0, are_each p r.site.hit rs a.4)

-- an `off` term without a count: what is left of a sticky fault that is left out
abbrev off_onward : Term
off_onward = full None task.Off

-- what does nothing at the end of the kept chain of rigged hits, after `base` hits: the faults there that are left out
abbrev idle_end : List ℕ → ℕ → ℕ → ℕ → List Rig → List Term
idle_end set n base done [] = offs (done - base)
idle_end set n base done (r ∷ rs) =
    cond (holds set n) (idle_end set (n + 1) r.site.hit r.site.hit rs)
    (cond (is_onward r.kind) (offs (r.site.hit - base - 1) ++ off_onward ∷ []) (idle_end set (n + 1) base r.site.hit rs))

chain_step : (p done : ℕ) (r : Rig) (rs : List Rig) → r.site.point ≡ p → chain_from p done (r ∷ rs) ≡ (offs (r.site.hit - done - 1) ++ term_of r.kind ∷ []) ++ chain_from p r.site.hit rs
chain_step p done r rs e =
    let same : (r.site.point == p) ≡ true = grind (arith, nat_tests, e) in
    ap (λ (b : Bool). cond b (rigged done r) [] ++ chain_from p (cond b r.site.hit done) rs) same

record Busy (t : Term) : Type 0 where
  fault : is_off t.task ≡ false
  busy : is_idle t ≡ false

busy_term : (kind : Kind) → Busy (term_of kind)
busy_term (OnceReturn text) = record { fault = refl; busy = refl }
busy_term (OnwardReturn text) = record { fault = refl; busy = refl }
busy_term OncePanic = record { fault = refl; busy = refl }

once_off : (kind : Kind) → is_onward kind ≡ false → switched_off (term_of kind) ≡ off 1
once_off (OnceReturn text) e = refl
once_off (OnwardReturn text) e = absurd cc
once_off OncePanic e = refl

onward_off : (kind : Kind) → is_onward kind ≡ true → switched_off (term_of kind) ≡ off_onward
onward_off (OnceReturn text) e = absurd cc
onward_off (OnwardReturn text) e = refl
onward_off OncePanic e = absurd cc

kept_gap : (set : List ℕ) (n g : ℕ) (t : Term) (ts : List Term) → is_off t.task ≡ false
    → kept_chain set n ((offs g ++ t ∷ []) ++ ts) ≡ offs g ++ cond (holds set n) t (switched_off t) ∷ kept_chain set (n + 1) ts
unfolding kept_chain
kept_gap set n g t ts busy = by_test (g == 0)
  where
    one : kept_chain set n (t ∷ ts) ≡ cond (holds set n) t (switched_off t) ∷ kept_chain set (n + 1) ts
    one = ap (λ (b : Bool). cond b t (cond (holds set n) t (switched_off t)) ∷ kept_chain set (cond b n (n + 1)) ts) busy

    by_test : (x : Bool) → kept_chain set n ((cond x [] (off g ∷ []) ++ t ∷ []) ++ ts) ≡ cond x [] (off g ∷ []) ++ cond (holds set n) t (switched_off t) ∷ kept_chain set (n + 1) ts
    by_test true = one
    by_test false = ap (λ (l : List Term). off g ∷ l) one

after_gap : (n g : ℕ) (t : Term) (ts : List Term) → is_off t.task ≡ false → after_chain n ((offs g ++ t ∷ []) ++ ts) ≡ after_chain (n + 1) ts
unfolding after_chain
after_gap n g t ts busy = by_test (g == 0)
  where
    one : after_chain n (t ∷ ts) ≡ after_chain (n + 1) ts
    one = ap (λ (b : Bool). after_chain (cond b n (n + 1)) ts) busy

    by_test : (x : Bool) → after_chain n ((cond x [] (off g ∷ []) ++ t ∷ []) ++ ts) ≡ after_chain (n + 1) ts
    by_test true = one
    by_test false = one

after_own : (n p done : ℕ) (rs : List Rig) → AreAt p done rs → after_chain n (chain_from p done rs) ≡ n + length rs
unfolding after_chain
after_own n p done [] a = let goal : n ≡ n + 0 = omega arith in goal
after_own n p done (r ∷ rs) a =
    ap (after_chain n) (chain_step p done r rs a.0)
    ∙ after_gap n (r.site.hit - done - 1) (term_of r.kind) (chain_from p r.site.hit rs) (busy_term r.kind).fault
    ∙ after_own (n + 1) p r.site.hit rs a.4
    ∙ (let goal : n + 1 + length rs ≡ n + suc (length rs) = omega arith in goal)

-- what is kept of a chain behind its first fault
abbrev kept_after : List ℕ → ℕ → ℕ → Rig → List Rig → List Term
kept_after set n p r rs = kept_chain set (n + 1) (chain_from p r.site.hit rs)

-- a gap before what is left of a sticky fault stays as it is
gap_onward : (a : ℕ) → joined (offs a ++ off_onward ∷ []) ≡ offs a ++ off_onward ∷ []
unfolding joined joined_onto
gap_onward a = by_test (a == 0)
  where
    by_test : (x : Bool) → joined (cond x [] (off a ∷ []) ++ off_onward ∷ []) ≡ cond x [] (off a ∷ []) ++ off_onward ∷ []
    by_test true = refl
    by_test false = refl

-- what is kept, joined: the gaps before a fault that is left out, and its own hit, are one with the gap after it
joined_kept : (set : List ℕ) (n p base done : ℕ) (rs : List Rig) → base ≤ done → AreAt p done rs
    → joined (offs (done - base) ++ kept_chain set n (chain_from p done rs)) ≡ chain_from p base (chosen set n rs) ++ idle_end set n base done rs
unfolding kept_chain
joined_kept set n p base done [] low a = gap_end (done - base)
joined_kept set n p base done (r ∷ rs) low a =
    ap (λ (c : List Term). joined (offs (done - base) ++ kept_chain set n c)) (chain_step p done r rs a.0)
    ∙ ap (λ (c : List Term). joined (offs (done - base) ++ c)) (kept_gap set n (r.site.hit - done - 1) (term_of r.kind) (chain_from p r.site.hit rs) busy.fault)
    ∙ by_test (holds set n) (joined_kept set (n + 1) p r.site.hit r.site.hit rs (omega arith) a.4)
    (joined_kept set (n + 1) p base r.site.hit rs (let above : done < r.site.hit = a.1 in omega (arith, low, above)) a.4)
  where
    busy : Busy (term_of r.kind)
    busy = busy_term r.kind

    gap : ℕ
    gap = r.site.hit - base - 1

    joins : (t : Term) → joined (offs (done - base) ++ (offs (r.site.hit - done - 1) ++ t ∷ (kept_after set n p r rs))) ≡ joined (offs gap ++ t ∷ (kept_after set n p r rs))
    joins t =
        let above : done < r.site.hit = a.1 in
        let small : r.site.hit < 2 ^ 32 = a.2 in
        joined_gaps (done - base) (r.site.hit - done - 1) (t ∷ (kept_after set n p r rs)) (omega (arith, low, above, small))
        ∙ ap (λ (k : ℕ). joined (offs k ++ t ∷ (kept_after set n p r rs))) (let goal : done - base + (r.site.hit - done - 1) ≡ r.site.hit - base - 1 = omega (arith, low, above) in goal)

    no_gap : joined (kept_after set n p r rs) ≡ joined (offs (r.site.hit - r.site.hit) ++ (kept_after set n p r rs))
    no_gap = ap (λ (k : ℕ). joined (offs k ++ (kept_after set n p r rs))) (let goal : 0 ≡ r.site.hit - r.site.hit = omega arith in goal)

    -- it is left out
    left_out : (b : Bool) → is_onward r.kind ≡ b
        → joined (offs (r.site.hit - base) ++ (kept_after set n p r rs)) ≡ chain_from p base (chosen set (n + 1) rs) ++ idle_end set (n + 1) base r.site.hit rs
        → joined (offs gap ++ switched_off (term_of r.kind) ∷ (kept_after set n p r rs))
        ≡ chain_from p base (chosen set (n + 1) rs) ++ cond b (offs gap ++ off_onward ∷ []) (idle_end set (n + 1) base r.site.hit rs)
    left_out true e on =
        let none : rs ≡ [] = a.3 e in
        ap (λ (t : Term). joined (offs gap ++ t ∷ (kept_after set n p r rs))) (onward_off r.kind e)
        ∙ ap (λ (l : List Rig). joined (offs gap ++ off_onward ∷ (kept_after set n p r l))) none
        ∙ gap_onward gap
        ∙ ap (λ (l : List Rig). chain_from p base (chosen set (n + 1) l) ++ (offs gap ++ off_onward ∷ [])) (sym none)
    left_out false e on =
        let above : done < r.site.hit = a.1 in
        let small : r.site.hit < 2 ^ 32 = a.2 in
        ap (λ (t : Term). joined (offs gap ++ t ∷ (kept_after set n p r rs))) (once_off r.kind e)
        ∙ joined_gaps gap 1 (kept_after set n p r rs) (omega (arith, low, above, small))
        ∙ ap (λ (k : ℕ). joined (offs k ++ (kept_after set n p r rs))) (let goal : r.site.hit - base - 1 + 1 ≡ r.site.hit - base = omega (arith, low, above) in goal)
        ∙ on

    by_test : (b : Bool)
        → joined (offs (r.site.hit - r.site.hit) ++ (kept_after set n p r rs)) ≡ chain_from p r.site.hit (chosen set (n + 1) rs) ++ idle_end set (n + 1) r.site.hit r.site.hit rs
        → joined (offs (r.site.hit - base) ++ (kept_after set n p r rs)) ≡ chain_from p base (chosen set (n + 1) rs) ++ idle_end set (n + 1) base r.site.hit rs
        → joined (offs (done - base) ++ (offs (r.site.hit - done - 1) ++ cond b (term_of r.kind) (switched_off (term_of r.kind)) ∷ (kept_after set n p r rs)))
        ≡ chain_from p base (cond b (r ∷ (chosen set (n + 1) rs)) (chosen set (n + 1) rs))
        ++ cond b (idle_end set (n + 1) r.site.hit r.site.hit rs) (cond (is_onward r.kind) (offs gap ++ off_onward ∷ []) (idle_end set (n + 1) base r.site.hit rs))
    by_test true from_here on =
        let rest : List Term = chain_from p r.site.hit (chosen set (n + 1) rs) in
        let idle : List Term = idle_end set (n + 1) r.site.hit r.site.hit rs in
        joins (term_of r.kind) ∙ gap_fault gap (term_of r.kind) (kept_after set n p r rs) busy.busy
        ∙ ap (λ (l : List Term). offs gap ++ term_of r.kind ∷ l) (no_gap ∙ from_here)
        ∙ sym (append_assoc (offs gap) (term_of r.kind ∷ []) (rest ++ idle))
        ∙ sym (append_assoc (offs gap ++ term_of r.kind ∷ []) rest idle)
        ∙ ap (λ (c : List Term). c ++ idle) (sym (chain_step p base r (chosen set (n + 1) rs) a.0))
    by_test false from_here on = joins (switched_off (term_of r.kind)) ∙ left_out (is_onward r.kind) refl on

-- ---- the end of a chain

-- it has no term, or ends with one that does something
abbrev EndsBusy : List Term → Type 0
EndsBusy ts = (ts ≡ []) ⊎ ((us : List Term) × (t : Term) × (ts ≡ us ++ t ∷ []) × (is_idle t ≡ false))

abbrev front_of : ℕ → Rig → List Term
front_of base r = offs (r.site.hit - base - 1) ++ term_of r.kind ∷ []

chain_ends : (p base : ℕ) (rs : List Rig) → AllByRecursion (IsAt p) rs → EndsBusy (chain_from p base rs)
chain_ends p base [] a = inl refl
chain_ends p base (r ∷ rs) a = by_rest (chain_ends p r.site.hit rs a.1)
  where
    by_rest : EndsBusy (chain_from p r.site.hit rs) → EndsBusy (chain_from p base (r ∷ rs))
    by_rest (inl e) = inr (
      offs (r.site.hit - base - 1),
      term_of r.kind,
      chain_step p base r rs a.0 ∙ ap (λ (l : List Term). (front_of base r) ++ l) e ∙ append-nil (front_of base r),
      (busy_term r.kind).busy,
    )
    by_rest (inr h) = inr (
      (front_of base r) ++ h.0,
      h.1,
      chain_step p base r rs a.0 ∙ ap (λ (l : List Term). (front_of base r) ++ l) h.2 ∙ sym (append_assoc (front_of base r) h.0 (h.1 ∷ [])),
      h.3,
    )

idle_last : (l : List Term) (e : Term) → is_idle e ≡ true → without_idle_end (l ++ e ∷ []) ≡ without_idle_end l
idle_last l e idle =
    let size = length-append l (e ∷ []) in
    let one : suffix_len is_idle (l ++ e ∷ []) ≡ 1 + suffix_len is_idle l =
    ap (prefix_len is_idle) (reverse-append l (e ∷ [])) ∙ ap (λ (b : Bool). cond b (1 + prefix_len is_idle (reverse l)) 0) idle
    in
    ap (λ (k : ℕ). take (length (l ++ e ∷ []) - k) (l ++ e ∷ [])) one
    ∙ ap (λ (k : ℕ). take k (l ++ e ∷ [])) (let goal : length (l ++ e ∷ []) - (1 + suffix_len is_idle l) ≡ length l - suffix_len is_idle l = omega (arith, size) in goal)
    ∙ take-append-le (length l - suffix_len is_idle l) l (e ∷ []) (omega arith)

idles_last : (l idle : List Term) → AllByRecursion (λ t. is_idle t ≡ true) idle → without_idle_end (l ++ idle) ≡ without_idle_end l
idles_last l [] all = ap without_idle_end (append-nil l)
idles_last l (e ∷ idle) all =
    ap without_idle_end (sym (append_assoc l (e ∷ []) idle)) ∙ idles_last (l ++ e ∷ []) idle all.1 ∙ idle_last l e all.0

busy_stays : (us : List Term) (t : Term) → is_idle t ≡ false → without_idle_end (us ++ t ∷ []) ≡ us ++ t ∷ []
busy_stays us t e =
    let none : suffix_len is_idle (us ++ t ∷ []) ≡ 0 =
    ap (prefix_len is_idle) (reverse-append us (t ∷ [])) ∙ ap (λ (b : Bool). cond b (1 + prefix_len is_idle (reverse us)) 0) e
    in
    ap (λ (k : ℕ). take (length (us ++ t ∷ []) - k) (us ++ t ∷ [])) none ∙ take_all (length (us ++ t ∷ []) - 0) (us ++ t ∷ []) (omega arith)

end_dropped : (ts idle : List Term) → AllByRecursion (λ t. is_idle t ≡ true) idle → EndsBusy ts → without_idle_end (ts ++ idle) ≡ ts
end_dropped ts idle all (inl e) = idles_last ts idle all ∙ ap without_idle_end e ∙ sym e
end_dropped ts idle all (inr h) = idles_last ts idle all ∙ ap without_idle_end h.2 ∙ busy_stays h.0 h.1 h.3 ∙ sym h.2

offs_idle : (n : ℕ) (more : List Term) → AllByRecursion (λ t. is_idle t ≡ true) more → AllByRecursion (λ t. is_idle t ≡ true) (offs n ++ more)
offs_idle n more all = by_test (n == 0)
  where
    by_test : (b : Bool) → AllByRecursion (λ t. is_idle t ≡ true) (cond b [] (off n ∷ []) ++ more)
    by_test true = all
    by_test false = (refl, all)

gap_idle : (n : ℕ) → AllByRecursion (λ t. is_idle t ≡ true) (offs n)
gap_idle n = subst (AllByRecursion (λ (t : Term). is_idle t ≡ true)) (append-nil (offs n)) (offs_idle n [] tt)

end_idle : (set : List ℕ) (n base done : ℕ) (rs : List Rig) → AllByRecursion (λ t. is_idle t ≡ true) (idle_end set n base done rs)
end_idle set n base done [] = gap_idle (done - base)
end_idle set n base done (r ∷ rs) = by_tests (holds set n) (is_onward r.kind) (end_idle set (n + 1) r.site.hit r.site.hit rs) (end_idle set (n + 1) base r.site.hit rs)
  where
    by_tests : (b o : Bool) → AllByRecursion (λ t. is_idle t ≡ true) (idle_end set (n + 1) r.site.hit r.site.hit rs)
        → AllByRecursion (λ t. is_idle t ≡ true) (idle_end set (n + 1) base r.site.hit rs)
        → AllByRecursion (λ t. is_idle t ≡ true)
        (cond b (idle_end set (n + 1) r.site.hit r.site.hit rs) (cond o (offs (r.site.hit - base - 1) ++ off_onward ∷ []) (idle_end set (n + 1) base r.site.hit rs)))
    by_tests true o here on = here
    by_tests false true here on = offs_idle (r.site.hit - base - 1) (off_onward ∷ []) (refl, tt)
    by_tests false false here on = on

-- ---- no term is dropped before that

-- each term is reached: none is used up, and none stands behind one that acts at each hit
abbrev AreReached : List Term → Type 0
AreReached [] = Unit {0}
AreReached (t ∷ ts) = (is_live t ≡ true) × (is_endless t ≡ true → ts ≡ []) × AreReached ts

term_live : (b : Bool) (kind : Kind) → is_live (cond b (term_of kind) (switched_off (term_of kind))) ≡ true
term_live true (OnceReturn text) = refl
term_live true (OnwardReturn text) = refl
term_live true OncePanic = refl
term_live false (OnceReturn text) = refl
term_live false (OnwardReturn text) = refl
term_live false OncePanic = refl

term_ends : (b : Bool) (kind : Kind) → is_endless (cond b (term_of kind) (switched_off (term_of kind))) ≡ true → is_onward kind ≡ true
term_ends true (OnceReturn text) e = absurd cc
term_ends true (OnwardReturn text) e = refl
term_ends true OncePanic e = absurd cc
term_ends false (OnceReturn text) e = absurd cc
term_ends false (OnwardReturn text) e = refl
term_ends false OncePanic e = absurd cc

kept_reached : (set : List ℕ) (n p done : ℕ) (rs : List Rig) → AreAt p done rs → AreReached (kept_chain set n (chain_from p done rs))
unfolding kept_chain
kept_reached set n p done [] a = tt
kept_reached set n p done (r ∷ rs) a =
    subst AreReached
    (sym (ap (kept_chain set n) (chain_step p done r rs a.0) ∙ kept_gap set n (r.site.hit - done - 1) (term_of r.kind) (chain_from p r.site.hit rs) (busy_term r.kind).fault))
    (by_gap ((r.site.hit - done - 1) == 0) refl (kept_reached set (n + 1) p r.site.hit rs a.4))
  where
    own : Term
    own = cond (holds set n) (term_of r.kind) (switched_off (term_of r.kind))

    last : is_endless own ≡ true → kept_chain set (n + 1) (chain_from p r.site.hit rs) ≡ []
    last e = ap (λ (l : List Rig). kept_chain set (n + 1) (chain_from p r.site.hit l)) (a.3 (term_ends (holds set n) r.kind e))

    by_gap : (b : Bool) → ((r.site.hit - done - 1) == 0) ≡ b → AreReached (kept_chain set (n + 1) (chain_from p r.site.hit rs))
        → AreReached (cond b [] (off (r.site.hit - done - 1) ∷ []) ++ own ∷ kept_chain set (n + 1) (chain_from p r.site.hit rs))
    by_gap true e rest = (term_live (holds set n) r.kind, last, rest)
    by_gap false e rest = (ap not e, (λ never. absurd cc), (term_live (holds set n) r.kind, last, rest))

all_live : (ts : List Term) → AreReached ts → without_used ts ≡ ts
all_live [] a = refl
all_live (t ∷ ts) a = ap (λ (b : Bool). cond b (t ∷ without_used ts) (without_used ts)) a.0 ∙ ap (λ (l : List Term). t ∷ l) (all_live ts a.2)

last_endless : (ts : List Term) → AreReached ts → up_to_endless ts ≡ ts
last_endless [] a = refl
last_endless (t ∷ ts) a = by_test (last_endless ts a.2) (is_endless t) refl
  where
    by_test : up_to_endless ts ≡ ts → (b : Bool) → is_endless t ≡ b → take (cond (not b) (1 + position_or_len is_endless ts) 0 + 1) (t ∷ ts) ≡ t ∷ ts
    by_test rest true e = ap (λ (l : List Term). t ∷ l) (sym (a.1 e))
    by_test rest false e =
        ap (λ (k : ℕ). take k (t ∷ ts)) (let goal : 1 + position_or_len is_endless ts + 1 ≡ suc (position_or_len is_endless ts + 1) = omega arith in goal)
        ∙ ap (λ (l : List Term). t ∷ l) rest

kept_tidied : (set : List ℕ) (n p : ℕ) (rs : List Rig) → AreAt p 0 rs → tidied_chain (kept_chain set n (chain_from p 0 rs)) ≡ chain_from p 0 (chosen set n rs)
unfolding tidied_chain
kept_tidied set n p rs a =
    let chain : List Term = kept_chain set n (chain_from p 0 rs) in
    let reached : AreReached chain = kept_reached set n p 0 rs a in
    ap (λ (l : List Term). without_idle_end (joined (up_to_endless l))) (all_live chain reached)
    ∙ ap (λ (l : List Term). without_idle_end (joined l)) (last_endless chain reached)
    ∙ ap without_idle_end (joined_kept set n p 0 0 rs (omega arith) a)
    ∙ end_dropped (chain_from p 0 (chosen set n rs)) (idle_end set n 0 0 rs) (end_idle set n 0 0 rs)
    (chain_ends p 0 (chosen set n rs) (chosen_all (IsAt p) set n rs (are_each p 0 rs a)))

-- ---- rigged hits by their points

-- in order, and a sticky one is the last of its point
abbrev pub AreInPlace : List Rig → Type 0
AreInPlace [] = Unit {0}
AreInPlace (r ∷ rs) =
    (0 < r.site.hit) × (r.site.hit < 2 ^ 32) × (is_onward r.kind ≡ true → AllByRecursion (λ t. r.site.point < t.site.point) rs)
    × AllByRecursion (λ t. IsBefore r.site t.site) rs × AreInPlace rs

-- those of a point, and those of later ones
record Parted (p done : ℕ) (rs : List Rig) : Type 0 where
  own : List Rig
  later : List Rig
  is : rs ≡ own ++ later
  at : AreAt p done own
  past : AllByRecursion (λ r. p < r.site.point) later
  in_place : AreInPlace later

past_point : (p : ℕ) (s : Site) (rs : List Rig) → p < s.point → AllByRecursion (λ t. IsBefore s t.site) rs → AllByRecursion (λ t. p < t.site.point) rs
past_point p s rs low a = all_weaker (λ (t : Rig). IsBefore s t.site) (λ t. p < t.site.point) one rs a
  where
    one : (t : Rig) → IsBefore s t.site → p < t.site.point
    one t (inl less) = omega (arith, low, less)
    one t (inr same) = let e : s.point ≡ t.site.point = same.0 in omega (arith, low, e)

none_own : (p done : ℕ) (own later : List Rig) → AllByRecursion (λ t. p < t.site.point) (own ++ later) → AreAt p done own → own ≡ []
none_own p done [] later past a = refl
none_own p done (r ∷ own) later past a = let low = past.0 in let same = a.0 in absurd (omega (arith, low, same))

parted : (p done : ℕ) (rs : List Rig) → AreInPlace rs → AllByRecursion (λ r. (p ≤ r.site.point) × (r.site.point ≡ p → done < r.site.hit)) rs → Parted p done rs
parted p done [] o a = record { own = []; later = []; is = refl; at = tt; past = tt; in_place = tt }
parted p done (r ∷ rs) o a = by_test (r.site.point == p) refl (λ here. parted p r.site.hit rs o.4 (both rs a.1 o.3 here))
  where
    next : r.site.point ≡ p → (t : Rig) → ((p ≤ t.site.point) × (t.site.point ≡ p → done < t.site.hit)) × IsBefore r.site t.site → (p ≤ t.site.point) × (t.site.point ≡ p → r.site.hit < t.site.hit)
    next here t (h, inl less) = (h.0, λ same. absurd (omega (arith, here, less, same)))
    next here t (h, inr at) = (h.0, λ same. at.1)

    both : (ts : List Rig) → AllByRecursion (λ t. (p ≤ t.site.point) × (t.site.point ≡ p → done < t.site.hit)) ts → AllByRecursion (λ t. IsBefore r.site t.site) ts
        → r.site.point ≡ p → AllByRecursion (λ t. (p ≤ t.site.point) × (t.site.point ≡ p → r.site.hit < t.site.hit)) ts
    both [] h k here = tt
    both (t ∷ ts) h k here = (next here t (h.0, k.0), both ts h.1 k.1 here)

    by_test : (b : Bool) → (r.site.point == p) ≡ b → (r.site.point ≡ p → Parted p r.site.hit rs) → Parted p done (r ∷ rs)
    by_test true e behind =
        let here : r.site.point ≡ p = grind (arith, nat_tests, e) in
        let q = behind here in
        record {
          own = r ∷ q.own;
          later = q.later;
          is = ap (λ (l : List Rig). r ∷ l) q.is;
          at = (
            here,
            a.0.1 here,
            o.1,
            (λ sticky.
                none_own p r.site.hit q.own q.later
                (subst (AllByRecursion (λ (t : Rig). p < t.site.point)) q.is (subst (λ (k : ℕ). AllByRecursion (λ (t : Rig). k < t.site.point) rs) here (o.2 sticky))) q.at),
            q.at,
          );
          past = q.past;
          in_place = q.in_place;
        }
    by_test false e behind =
        let low : p ≤ r.site.point = a.0.0 in
        let less : p < r.site.point = grind (arith, nat_tests, e, low) in
        record { own = []; later = r ∷ rs; is = refl; at = tt; past = (less, past_point p r.site rs less o.3); in_place = o }

-- later points have no part in a chain, and earlier ones none in what follows
past_chain : (p done : ℕ) (later : List Rig) → AllByRecursion (λ r. p < r.site.point) later → chain_from p done later ≡ []
past_chain p done [] a = refl
past_chain p done (r ∷ rs) a =
    let low : p < r.site.point = a.0 in
    let other : (r.site.point == p) ≡ false = grind (arith, nat_tests, low) in
    ap (λ (b : Bool). cond b (rigged done r) [] ++ chain_from p (cond b r.site.hit done) rs) other ∙ past_chain p done rs a.1

own_chain : (p done : ℕ) (own later : List Rig) → AllByRecursion (λ r. p < r.site.point) later → chain_from p done (own ++ later) ≡ chain_from p done own
own_chain p done [] later a = past_chain p done later a
own_chain p done (r ∷ own) later a = ap (λ (l : List Term). terms_at p done r ++ l) (own_chain p (done_after p done r) own later a)

later_chain : (q done : ℕ) (own later : List Rig) → AllByRecursion (λ r. r.site.point < q) own → chain_from q done (own ++ later) ≡ chain_from q done later
later_chain q done [] later a = refl
later_chain q done (r ∷ own) later a =
    let low : r.site.point < q = a.0 in
    let other : (r.site.point == q) ≡ false = grind (arith, nat_tests, low) in
    ap (λ (b : Bool). cond b (rigged done r) [] ++ chain_from q (cond b r.site.hit done) (own ++ later)) other ∙ later_chain q done own later a.1

later_entries : (q : ℕ) (names : List (List ℕ)) (own later : List Rig) → AllByRecursion (λ r. r.site.point < q) own → entries_from q names (own ++ later) ≡ entries_from q names later
later_entries q [] own later a = refl
later_entries q (name ∷ names) own later a =
    ap (λ (c : List Term). entry name c ++ entries_from (q + 1) names (own ++ later)) (later_chain q 0 own later a)
    ∙ ap (λ (es : Entries). entry name (chain_from q 0 later) ++ es)
    (later_entries (q + 1) names own later (all_weaker (λ (r : Rig). r.site.point < q) (λ r. r.site.point < q + 1) (λ r h. omega (arith, h)) own a))

chosen_append : (set : List ℕ) (n : ℕ) (own later : List Rig) → chosen set n (own ++ later) ≡ chosen set n own ++ chosen set (n + length own) later
chosen_append set n [] later = ap (λ (k : ℕ). chosen set k later) (let goal : n ≡ n + 0 = omega arith in goal)
chosen_append set n (r ∷ own) later =
    ap (λ (l : List Rig). cond (holds set n) (r ∷ l) l)
    (chosen_append set (n + 1) own later ∙ ap (λ (k : ℕ). chosen set (n + 1) own ++ chosen set k later) (let goal : n + 1 + length own ≡ n + suc (length own) = omega arith in goal))
    ∙ by_test (holds set n)
  where
    by_test : (b : Bool) → cond b (r ∷ (chosen set (n + 1) own ++ chosen set (n + suc (length own)) later)) (chosen set (n + 1) own ++ chosen set (n + suc (length own)) later) ≡ cond b (r ∷ chosen set (n + 1) own) (chosen set (n + 1) own) ++ chosen set (n + suc (length own)) later
    by_test true = refl
    by_test false = refl

-- ---- entries

kept_entry : (set : List ℕ) (n : ℕ) (name : List ℕ) (c : List Term) (es : Entries) → kept_from set n (entry name c ++ es) ≡ entry name (kept_chain set n c) ++ kept_from set (after_chain n c) es
unfolding kept_from kept_chain after_chain
kept_entry set n name [] es = refl
kept_entry set n name (t ∷ ts) es = refl

put_is : (name : List ℕ) (c : List Term) (es : Entries) → put name c es ≡ entry name c ++ es
put_is name [] es = refl
put_is name (t ∷ ts) es = let some : nat_lt 0 (length (t ∷ ts)) ≡ true = grind (arith, nat_tests) in ap (λ (b : Bool). cond b ((name, t ∷ ts) ∷ es) es) some

tidied_entry : (name : List ℕ) (c : List Term) (es : Entries) → tidied (entry name c ++ es) ≡ entry name (tidied_chain c) ++ tidied es
unfolding tidied_chain joined
tidied_entry name [] es = refl
tidied_entry name (t ∷ ts) es = put_is name (tidied_chain (t ∷ ts)) (tidied es)

module _ (set : List ℕ) (n p : ℕ) (name : List ℕ) (names : List (List ℕ)) (own later : List Rig) (at : AreAt p 0 own) (past : AllByRecursion (λ r. p < r.site.point) later) where
  near : AllByRecursion (λ r. r.site.point < p + 1) own
  near = all_weaker (IsAt p) (λ r. r.site.point < p + 1) (λ r e. omega (arith, e)) own (are_each p 0 own at)

  -- the entry of a point, and those of later ones
  of_parts : (mine others : List Rig) → AllByRecursion (λ r. r.site.point < p + 1) mine → AllByRecursion (λ r. p < r.site.point) others
      → entries_from p (name ∷ names) (mine ++ others) ≡ entry name (chain_from p 0 mine) ++ entries_from (p + 1) names others
  of_parts mine others low high =
      ap (λ (c : List Term). entry name c ++ entries_from (p + 1) names (mine ++ others)) (own_chain p 0 mine others high)
      ∙ ap (λ (es : Entries). entry name (chain_from p 0 mine) ++ es) (later_entries (p + 1) names mine others low)

  parts_kept : tidied (kept_from set (n + length own) (entries_from (p + 1) names later)) ≡ entries_from (p + 1) names (chosen set (n + length own) later)
      → tidied (kept_from set n (entries_from p (name ∷ names) (own ++ later))) ≡ entries_from p (name ∷ names) (chosen set n (own ++ later))
  parts_kept rest =
      let chain : List Term = chain_from p 0 own in
      let more : Entries = entries_from (p + 1) names later in
      ap (λ (es : Entries). tidied (kept_from set n es)) (of_parts own later near past)
      ∙ ap tidied (kept_entry set n name chain more)
      ∙ tidied_entry name (kept_chain set n chain) (kept_from set (after_chain n chain) more)
      ∙ ap (λ (c : List Term). entry name c ++ tidied (kept_from set (after_chain n chain) more)) (kept_tidied set n p own at)
      ∙ ap (λ (k : ℕ). entry name (chain_from p 0 (chosen set n own)) ++ tidied (kept_from set k more)) (after_own n p 0 own at)
      ∙ ap (λ (es : Entries). entry name (chain_from p 0 (chosen set n own)) ++ es) rest
      ∙ sym (of_parts (chosen set n own) (chosen set (n + length own) later) (chosen_all (λ r. r.site.point < p + 1) set n own near)
      (chosen_all (λ r. p < r.site.point) set (n + length own) later past))
      ∙ ap (entries_from p (name ∷ names)) (sym (chosen_append set n own later))

positive : (p : ℕ) (ts : List Rig) → AreInPlace ts → AllByRecursion (λ r. p ≤ r.site.point) ts → AllByRecursion (λ r. (p ≤ r.site.point) × (r.site.point ≡ p → 0 < r.site.hit)) ts
positive p [] o a = tt
positive p (t ∷ ts) o a = ((a.0, λ same. o.0), positive p ts o.4 a.1)

kept_entries : (set : List ℕ) (n p : ℕ) (names : List (List ℕ)) (rs : List Rig) → AreInPlace rs → AllByRecursion (λ r. p ≤ r.site.point) rs
    → tidied (kept_from set n (entries_from p names rs)) ≡ entries_from p names (chosen set n rs)
unfolding kept_from
kept_entries set n p [] rs o a = refl
kept_entries set n p (name ∷ names) rs o a =
    let q = parted p 0 rs o (positive p rs o a) in
    let reach : AllByRecursion (λ r. p + 1 ≤ r.site.point) q.later = all_weaker (λ (r : Rig). p < r.site.point) (λ r. p + 1 ≤ r.site.point) (λ r h. omega (arith, h)) q.later q.past in
    ap (λ (l : List Rig). tidied (kept_from set n (entries_from p (name ∷ names) l))) q.is
    ∙ parts_kept set n p name names q.own q.later q.at q.past (kept_entries set (n + length q.own) (p + 1) names q.later q.in_place reach)
    ∙ ap (λ (l : List Rig). entries_from p (name ∷ names) (chosen set n l)) (sym q.is)

pub kept_rigs : (names : List (List ℕ)) (set : List ℕ) (rs : List Rig) → AreInPlace rs → tidied (kept set (rigged_scenario names rs)) ≡ rigged_scenario names (chosen set 0 rs)
unfolding rigged_scenario
kept_rigs names set rs o = kept_entries set 0 0 names rs o (all_of (λ (r : Rig). 0 ≤ r.site.point) (λ r. omega arith) rs)

-- ---- how many faults the scenario has

entry_faults : (name : List ℕ) (c : List Term) (es : Entries) → all_faults (entry name c ++ es) ≡ faults_in c + all_faults es
entry_faults name [] es = omega arith
entry_faults name (t ∷ ts) es = refl

own_faults : (p : ℕ) (rs : List Rig) → AreAt p 0 rs → faults_in (chain_from p 0 rs) ≡ length rs
own_faults p rs a = let counted = after_is 0 (chain_from p 0 rs) in let own = after_own 0 p 0 rs a in omega (arith, counted, own)

entries_faults : (p : ℕ) (names : List (List ℕ)) (rs : List Rig) → AreInPlace rs → AllByRecursion (λ r. p ≤ r.site.point) rs
    → AllByRecursion (λ r. r.site.point < p + length names) rs → all_faults (entries_from p names rs) ≡ length rs
entries_faults p [] [] o low high = refl
entries_faults p [] (r ∷ rs) o low high = let a = low.0 in let b = high.0 in absurd (omega (arith, a, b))
entries_faults p (name ∷ names) rs o low high =
    let q = parted p 0 rs o (positive p rs o low) in
    let past : AllByRecursion (λ r. p + 1 ≤ r.site.point) q.later = all_weaker (λ (r : Rig). p < r.site.point) (λ r. p + 1 ≤ r.site.point) (λ r h. omega (arith, h)) q.later q.past in
    let within : AllByRecursion (λ r. r.site.point < p + 1 + length names) q.later =
    all_weaker (λ (r : Rig). r.site.point < p + suc (length names)) (λ r. r.site.point < p + 1 + length names) (λ r h. omega (arith, h)) q.later
    (all_right (λ r. r.site.point < p + suc (length names)) q.own q.later (subst (AllByRecursion (λ (r : Rig). r.site.point < p + suc (length names))) q.is high)) in
    let mine = own_faults p q.own q.at in
    let rest = entries_faults (p + 1) names q.later q.in_place past within in
    let both = length-append q.own q.later in
    ap (λ (l : List Rig). all_faults (entries_from p (name ∷ names) l)) q.is
    ∙ ap (λ (es : Entries). all_faults es) (of_parts [] 0 p name names q.own q.later q.at q.past q.own q.later (near [] 0 p name names q.own q.later q.at q.past) q.past)
    ∙ entry_faults name (chain_from p 0 q.own) (entries_from (p + 1) names q.later)
    ∙ (let goal : faults_in (chain_from p 0 q.own) + all_faults (entries_from (p + 1) names q.later) ≡ length (q.own ++ q.later) = omega (arith, mine, rest, both) in goal)
    ∙ ap (λ (l : List Rig). length l) (sym q.is)

pub rigged_faults : (names : List (List ℕ)) (rs : List Rig) → AreInPlace rs → AllByRecursion (λ r. r.site.point < length names) rs → all_faults (rigged_scenario names rs) ≡ length rs
unfolding rigged_scenario
rigged_faults names rs o within =
    entries_faults 0 names rs o (all_of (λ (r : Rig). 0 ≤ r.site.point) (λ r. omega arith) rs)
    (all_weaker (λ (r : Rig). r.site.point < length names) (λ r. r.site.point < 0 + length names) (λ r h. omega (arith, h)) rs within)

-- ---- what can be rigged

pub unmapped : (P : Site → Type 0) (rs : List Rig) → AllByRecursion P (map (λ (r : Rig). r.site) rs) → AllByRecursion (λ r. P r.site) rs
unmapped P [] a = tt
unmapped P (r ∷ rs) a = (a.0, unmapped P rs a.1)

chosen_order : (set : List ℕ) (n : ℕ) (rs : List Rig) → AreInPlace rs → AreInOrder (map (λ (r : Rig). r.site) (chosen set n rs))
chosen_order set n [] o = tt
chosen_order set n (r ∷ rs) o = by_test (holds set n) (chosen_order set (n + 1) rs o.4) (chosen_all (λ t. IsBefore r.site t.site) set (n + 1) rs o.3)
  where
    sites : (ts : List Rig) → AllByRecursion (λ t. IsBefore r.site t.site) ts → AllByRecursion (IsBefore r.site) (map (λ (t : Rig). t.site) ts)
    sites [] a = tt
    sites (t ∷ ts) a = (a.0, sites ts a.1)

    by_test : (b : Bool) → AreInOrder (map (λ (t : Rig). t.site) (chosen set (n + 1) rs)) → AllByRecursion (λ t. IsBefore r.site t.site) (chosen set (n + 1) rs)
        → AreInOrder (map (λ (t : Rig). t.site) (cond b (r ∷ chosen set (n + 1) rs) (chosen set (n + 1) rs)))
    by_test true rest late = (o.0, sites (chosen set (n + 1) rs) late, rest)
    by_test false rest late = rest

pub chosen_in_order : (set : List ℕ) (rs : List Rig) → AreInPlace rs → AreInOrder (map (λ (r : Rig). r.site) (chosen set 0 rs))
chosen_in_order set rs o = chosen_order set 0 rs o
