-- The faults of a scenario by their names and terms: those at its places, and those that are kept.
use Rattle.std.proofs.Common.{◌≡◌, ℕ, ◌+◌, ◌<◌, List, [], ◌∷◌, ◌++◌, Bool, true, false, cond, length, map, Some, option_map, refl, ap, sym, ◌∙◌, arith, subst, append_assoc, length-append}
use Rattle.std.specs.Prelude.{nat_le, slice_get, option_and_then}
use Rattle.std.specs.List.{AllByRecursion}
use Rattle.std.proofs.lemmas.Bool.Decides.{nat_tests}
use Rattle.std.proofs.lemmas.List.{append-nil, map-append}
use Rattle.scenario_values.specs.declared.term.Term.{Term}
use Rattle.scenario_values.specs.declared.place.Place.{Place}
use Rattle.scenario_values.specs.Scenario.{Entries, is_off, faults_in, all_faults}
use Rattle.scenario_values.specs.Faults.{chain_faults, faults_from, faults, chain_named, named_faults, fault_at}
use Rattle.scenario_values.specs.Keep.{holds, are_faults, switched_off, after_term, kept_chain, after_chain, kept_from, kept}
use Rattle.scenario_values.specs.inside.Walks.{Ascends}
use Rattle.scenario_values.proofs.Walking.{from, from_absent, from_present, walk_starts, ascends_from}
use Rattle.scenario_values.proofs.Sets.{within}
use Rattle.scenario_values.proofs.KeptAgain.{after_is}
use Rattle.scenario_values.proofs.OriginLaws.{Named, get_at, place, length_case, count_named}

-- ---- at the places

abbrev Entry : Type 0
Entry = List ℕ × List Term

term_at : (pre : List Term) (t : Term) (ts : List Term) → slice_get (pre ++ (t ∷ ts)) (length pre) ≡ Some t
term_at [] t ts = refl
term_at (u ∷ pre) t ts = term_at pre t ts

entry_at : (pre : Entries) (e : Entry) (es : Entries) → slice_get (pre ++ (e ∷ es)) (length pre) ≡ Some e
entry_at [] e es = refl
entry_at (f ∷ pre) e es = entry_at pre e es

place_case : (s : Entries) (name : List ℕ) (t : Term) (entry k : ℕ) (ps : List Place) (xs : List Named) (b : Bool) → fault_at s (record { entry = entry; term = k }) ≡ Some (name, t) → map (fault_at s) ps ≡ map (λ x. Some x) xs
    → map (fault_at s) (cond b [] (record { entry = entry; term = k } ∷ []) ++ ps) ≡ map (λ x. Some x) (cond b [] ((name, t) ∷ []) ++ xs)
place_case s name t entry k ps xs true h m = m
place_case s name t entry k ps xs false h m = ap (λ o. o ∷ map (fault_at s) ps) h ∙ ap (λ l. Some (name, t) ∷ l) m

chain_at : (s : Entries) (name : List ℕ) (ts pre : List Term) (entry : ℕ) → slice_get s entry ≡ Some (name, pre ++ ts)
    → map (fault_at s) (chain_faults entry (length pre) ts) ≡ map (λ x. Some x) (chain_named name ts)
unfolding chain_faults
chain_at s name [] pre entry e = refl
chain_at s name (t ∷ ts) pre entry e =
    let here : fault_at s (record { entry = entry; term = length pre }) ≡ Some (name, t) =
    ap (λ o. option_and_then (λ (e : Entry). option_map (λ (u : Term). (e.0, u)) (slice_get e.1 (length pre))) o) e ∙ ap (option_map (λ (u : Term). (name, u))) (term_at pre t ts)
    in
    let next : slice_get s entry ≡ Some (name, (pre ++ t ∷ []) ++ ts) = e ∙ ap (λ l. Some (name, l)) (sym (append_assoc pre (t ∷ []) ts)) in
    let long : length (pre ++ t ∷ []) ≡ length pre + 1 = omega (arith, length-append pre (t ∷ [])) in
    place_case s name t entry (length pre) (chain_faults entry (length pre + 1) ts) (chain_named name ts) (is_off t.task) here
    (ap (λ n. map (fault_at s) (chain_faults entry n ts)) (sym long) ∙ chain_at s name ts (pre ++ t ∷ []) entry next)

places_at : (s : Entries) (es pre : Entries) → s ≡ pre ++ es → map (fault_at s) (faults_from (length pre) es) ≡ map (λ x. Some x) (named_faults es)
unfolding faults_from
places_at s [] pre e = refl
places_at s (f ∷ es) pre e =
    let here : slice_get s (length pre) ≡ Some (f.0, [] ++ f.1) = ap (λ l. slice_get l (length pre)) e ∙ entry_at pre f es in
    let next : s ≡ (pre ++ f ∷ []) ++ es = e ∙ sym (append_assoc pre (f ∷ []) es) in
    let long : length (pre ++ f ∷ []) ≡ length pre + 1 = omega (arith, length-append pre (f ∷ [])) in
    map-append (fault_at s) (chain_faults (length pre) 0 f.1) (faults_from (length pre + 1) es)
    ∙ ap (λ l. l ++ map (fault_at s) (faults_from (length pre + 1) es)) (chain_at s f.0 f.1 [] (length pre) here)
    ∙ ap (λ n. map (λ (x : Named). Some x) (chain_named f.0 f.1) ++ map (fault_at s) (faults_from n es)) (sym long)
    ∙ ap (λ l. map (λ (x : Named). Some x) (chain_named f.0 f.1) ++ l) (places_at s es (pre ++ f ∷ []) next)
    ∙ sym (map-append (λ (x : Named). Some x) (chain_named f.0 f.1) (named_faults es))

pub named_at_places : (s : Entries) → map (fault_at s) (faults s) ≡ map (λ x. Some x) (named_faults s)
named_at_places s = places_at s s [] refl

-- ---- that are kept

-- found, and the numbers of the set that follow, are the numbers of the set
abbrev Kept : List Named → List Named → List ℕ → List ℕ → Type 0
Kept found whole after all = map (λ x. Some x) found ++ map (slice_get whole) after ≡ map (slice_get whole) all

kept_step : (set : List ℕ) (name : List ℕ) (t : Term) (pre more found : List Named) (after : List ℕ) (b c : Bool) → Ascends set → holds set (length pre) ≡ c
    → Kept found (pre ++ (cond b [] ((name, t) ∷ []) ++ more)) after (from (cond b (length pre) (length pre + 1)) set)
    → is_off t.task ≡ b
    → Kept (cond (is_off (cond b t (cond c t (switched_off t))).task) [] ((name, cond b t (cond c t (switched_off t))) ∷ []) ++ found) (pre ++ (cond b [] ((name, t) ∷ []) ++ more)) after (from (length pre) set)
kept_step set name t pre more found after true c a h k e = ap (λ b. map (λ (x : Named). Some x) (cond b [] ((name, t) ∷ []) ++ found) ++ map (slice_get (pre ++ more)) after) e ∙ k
kept_step set name t pre more found after false true a h k e =
    let whole = pre ++ ((name, t) ∷ more) in
    ap (λ b. map (λ (x : Named). Some x) (cond b [] ((name, t) ∷ []) ++ found) ++ map (slice_get whole) after) e
    ∙ ap (λ l. Some (name, t) ∷ l) k ∙ ap (λ o. o ∷ map (slice_get whole) (from (length pre + 1) set)) (sym (get_at pre (name, t) more))
    ∙ ap (map (slice_get whole)) (sym (from_present (length pre) set a h))
kept_step set name t pre more found after false false a h k e = k ∙ ap (map (slice_get (pre ++ ((name, t) ∷ more)))) (sym (from_absent (length pre) set h))

kept_chain_named : (set name : List ℕ) (ts : List Term) (pre post : List Named) → Ascends set
    → Kept (chain_named name (kept_chain set (length pre) ts)) (pre ++ (chain_named name ts ++ post)) (from (after_chain (length pre) ts) set) (from (length pre) set)
unfolding kept_chain after_chain
kept_chain_named set name [] pre post a = refl
kept_chain_named set name (t ∷ ts) pre post a =
    let p = place name t in
    let more = chain_named name ts ++ post in
    let n = after_term (length pre) t in
    let long : length (pre ++ p) ≡ n = length_case name t pre (is_off t.task) in
    let again : (pre ++ p) ++ more ≡ pre ++ (p ++ more) = append_assoc pre p more in
    let whole : pre ++ (p ++ more) ≡ pre ++ ((p ++ chain_named name ts) ++ post) = ap (λ l. pre ++ l) (sym (append_assoc p (chain_named name ts) post)) in
    let rest : Kept (chain_named name (kept_chain set n ts)) (pre ++ (p ++ more)) (from (after_chain n ts) set) (from n set) =
    subst (λ (w : List Named). Kept (chain_named name (kept_chain set n ts)) w (from (after_chain n ts) set) (from n set)) again
    (subst (λ (m : ℕ). Kept (chain_named name (kept_chain set m ts)) ((pre ++ p) ++ more) (from (after_chain m ts) set) (from m set)) long (kept_chain_named set name ts (pre ++ p) post a))
    in
    subst (λ (w : List Named). Kept (chain_named name (kept_chain set (length pre) (t ∷ ts))) w (from (after_chain n ts) set) (from (length pre) set)) whole
    (kept_step set name t pre more (chain_named name (kept_chain set n ts)) (from (after_chain n ts) set) (is_off t.task) (holds set (length pre)) a refl rest refl)

kept_from_named : (set : List ℕ) (es : Entries) (pre : List Named) → Ascends set
    → Kept (named_faults (kept_from set (length pre) es)) (pre ++ named_faults es) (from (length pre + all_faults es) set) (from (length pre) set)
unfolding kept_from
kept_from_named set [] pre a = let same : length pre + 0 ≡ length pre = omega arith in ap (λ n. map (slice_get (pre ++ [])) (from n set)) same
kept_from_named set (e ∷ es) pre a =
    let here = chain_named e.0 e.1 in
    let rest = named_faults es in
    let whole = pre ++ (here ++ rest) in
    let n = after_chain (length pre) e.1 in
    let next : length (pre ++ here) ≡ n = omega (arith, length-append pre here, count_named e.0 e.1, after_is (length pre) e.1) in
    let end : n + all_faults es ≡ length pre + (faults_in e.1 + all_faults es) = omega (arith, after_is (length pre) e.1) in
    let found = chain_named e.0 (kept_chain set (length pre) e.1) in
    let others = named_faults (kept_from set n es) in
    let chain : Kept found whole (from n set) (from (length pre) set) = kept_chain_named set e.0 e.1 pre rest a in
    let after : Kept others whole (from (n + all_faults es) set) (from n set) =
    subst (λ (w : List Named). Kept others w (from (n + all_faults es) set) (from n set)) (append_assoc pre here rest)
    (subst (λ (m : ℕ). Kept (named_faults (kept_from set m es)) ((pre ++ here) ++ rest) (from (m + all_faults es) set) (from m set)) next (kept_from_named set es (pre ++ here) a))
    in
    let last = map (slice_get whole) (from (length pre + (faults_in e.1 + all_faults es)) set) in
    ap (λ l. l ++ last) (map-append (λ (x : Named). Some x) found others) ∙ append_assoc (map (λ (x : Named). Some x) found) (map (λ (x : Named). Some x) others) last
    ∙ ap (λ m. map (λ (x : Named). Some x) found ++ (map (λ (x : Named). Some x) others ++ map (slice_get whole) (from m set))) (sym end)
    ∙ ap (λ l. map (λ (x : Named). Some x) found ++ l) after ∙ chain

nothing_from : (n : ℕ) (set : List ℕ) → AllByRecursion (λ k. k < n) set → from n set ≡ []
nothing_from n [] w = refl
nothing_from n (k ∷ ks) w = let past : nat_le n k ≡ false = grind (arith, nat_tests, w.0) in ap (λ b. cond b (k ∷ from n ks) (from n ks)) past ∙ nothing_from n ks w.1

-- fault i of the scenario kept is the fault of the set's i-th number
pub kept_named : (s : Entries) (set : List ℕ) → are_faults (all_faults s) set ≡ true → map (λ x. Some x) (named_faults (kept set s)) ≡ map (slice_get (named_faults s)) set
kept_named s set e =
    let found = map (λ (x : Named). Some x) (named_faults (kept set s)) in
    let all = slice_get (named_faults s) in
    let same : 0 + all_faults s ≡ all_faults s = omega arith in
    let none : from (0 + all_faults s) set ≡ [] = ap (λ n. from n set) same ∙ nothing_from (all_faults s) set (within 0 (all_faults s) set e) in
    sym (ap (λ l. found ++ map all l) none ∙ append-nil found) ∙ kept_from_named set s [] (ascends_from 0 (all_faults s) set e) ∙ ap (map all) (sym (walk_starts set))
