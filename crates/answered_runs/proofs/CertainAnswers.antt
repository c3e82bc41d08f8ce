-- The answers to hits follow from a certain scenario alone, whatever the seed, the stream number and the limit are.
use Rattle.std.proofs.Common.{◌≡◌, ℕ, zero, suc, ◌+◌, ◌≤◌, ◌%◌, Bool, true, false, cond, eqb, nat_lt, List, [], ◌∷◌, ◌++◌, length, take, map, filter, ◌-◌, Option, Some, None, refl, ap, sym, ◌∙◌, arith, ◌⊎◌, inl, inr, length-append}
use Rattle.std.specs.List.{AllByRecursion, position_or_len, suffix_len}
use Rattle.std.specs.Str.{bytes_eq}
use Rattle.std.proofs.lemmas.Bool.Decides.{nat_tests}
use Rattle.std.proofs.lemmas.List.{append-nil, take_all, length-take, length-map, take-map}
use Rattle.scenario_values.specs.declared.term.Term.{Term}
use Rattle.scenario_values.specs.declared.term.Task.TheVariants.{Off}
use Rattle.scenario_values.specs.Scenario.{Entries, chain_of}
use Rattle.scenario_values.specs.Tidied.{is_endless, is_idle, is_live, join_by, joined, joined_onto, joint, put, tidied, tidied_chain, up_to_endless, with_count, without_used}
use Rattle.action_eval.specs.declared.answer.Stop.TheVariants as stop
use Rattle.action_eval.specs.Words.{word}
use Rattle.action_eval.specs.Trial.{Trial, tried}
use Rattle.action_eval.specs.Answers.{Given, Hit, Reply, Halt, next, and_then, words_of, acted, is_used_up, name_of, given_of, run_of, history_of, hit_by, is_over, replies, reply_of, stopped, stopped_by}
use Rattle.action_eval.specs.RiggedScenario.{chain_from, done_after, entries_from, entry, full, offs, rigged, rigged_scenario, term_of, terms_at}
use Rattle.action_eval.specs.declared.rig.Kind.{Kind}
use Rattle.action_eval.specs.declared.rig.Kind.TheVariants.{OnceReturn, OnwardReturn, OncePanic}
use Rattle.action_eval.specs.declared.rig.Rig.{Rig}
use Rattle.action_eval.proofs.RunLaws.{history_part}
use Rattle.answered_runs.specs.Agreement.{IsCertain, run_over}

-- ---- the terms of a chain

abbrev AreCertain : List Term → Type 0
AreCertain ts = AllByRecursion (λ (t : Term). (t.share ≡ 0) ⊎ (t.share ≡ 1000000)) ts

-- a term that is spent, one that acts, and one that never does
by_tests : (b c d e : Bool) (x x' y z u u' : Trial) → x ≡ x' → u ≡ u' → (c ≡ true) ⊎ ((d ≡ false) × (e ≡ false))
    → cond b x (cond c y (cond d z u)) ≡ cond b x' (cond c y (cond e z u'))
by_tests true c d e x x' y z u u' p q h = p
by_tests false true d e x x' y z u u' p q h = refl
by_tests false false d e x x' y z u u' p q (inl h) = cc
by_tests false false true e x x' y z u u' p q (inr h) = absurd (let k : true ≡ false = h.0 in cc)
by_tests false false false true x x' y z u u' p q (inr h) = absurd (let k : true ≡ false = h.1 in cc)
by_tests false false false false x x' y z u u' p q (inr h) = q

acts_or_not : (t : Term) (m n : ℕ) → (t.share ≡ 0) ⊎ (t.share ≡ 1000000) → (eqb t.share 1000000 ≡ true) ⊎ ((nat_lt m t.share ≡ false) × (nat_lt n t.share ≡ false))
acts_or_not t m n (inl e) = inr (grind (arith, nat_tests, e), grind (arith, nat_tests, e))
acts_or_not t m n (inr e) = inl (grind (arith, nat_tests, e))

same_tried : (w v : ℕ → ℕ) (spent : ℕ → Term → Bool) (i : ℕ) (ts : List Term) (n : ℕ) → AreCertain ts → tried w spent i ts n ≡ tried v spent i ts n
same_tried w v spent i [] n c = refl
same_tried w v spent i (t ∷ ts) n c =
    by_tests (spent i t) (eqb t.share 1000000) (nat_lt (w n % 1000000) t.share) (nat_lt (v n % 1000000) t.share) (tried w spent (i + 1) ts n) (tried v spent (i + 1) ts n)
    (record { place = Some i; next = n }) (record { place = Some i; next = n + 1 }) (tried w spent (i + 1) ts (n + 1)) (tried v spent (i + 1) ts (n + 1))
    (same_tried w v spent (i + 1) ts n c.1) (same_tried w v spent (i + 1) ts (n + 1) c.1) (acts_or_not t (w n % 1000000) (v n % 1000000) c.0)

certain_by : (c d : List Term) (b : Bool) → AreCertain c → AreCertain d → AreCertain (cond b c d)
certain_by c d true h k = h
certain_by c d false h k = k

certain_chain : (s : Entries) (name : List ℕ) → IsCertain s → AreCertain (chain_of s name)
certain_chain [] name h = tt
certain_chain (e ∷ es) name h = certain_by e.1 (chain_of es name) (bytes_eq name e.0) h.0 (certain_chain es name h.1)

-- ---- hits

abbrev given_over : List (List ℕ) → Entries → Given
given_over points s = given_of s points 0 0 0

same_next : (s : Entries) (points : List (List ℕ)) (seed stream limit : ℕ) (h : List Hit) (p : ℕ) → IsCertain s → next (given_of s points seed stream limit) h p ≡ next (given_over points s) h p
same_next s points seed stream limit h p c =
    let name : List ℕ = name_of (given_over points s) p in
    ap (hit_by (chain_of s name) name (words_of h) p) (same_tried (word seed stream) (word 0 0) (is_used_up (acted h name)) 0 (chain_of s name) (words_of h) (certain_chain s name c))

same_after : (s : Entries) (points : List (List ℕ)) (seed stream limit : ℕ) (h : List Hit) (ps : List ℕ) → IsCertain s → and_then (given_of s points seed stream limit) h ps ≡ and_then (given_over points s) h ps
same_after s points seed stream limit h [] c = refl
same_after s points seed stream limit h (p ∷ ps) c =
    same_after s points seed stream limit (h ++ next (given_of s points seed stream limit) h p ∷ []) ps c
    ∙ ap (λ (x : Hit). and_then (given_over points s) (h ++ x ∷ []) ps) (same_next s points seed stream limit h p c)

-- the hits of a certain scenario, and their answers
abbrev pub history_over : List (List ℕ) → Entries → List ℕ → List Hit
history_over points s hits = and_then (given_over points s) [] hits

abbrev pub answers_over : List (List ℕ) → Entries → List ℕ → List Reply
answers_over points s hits = map (λ h. reply_of h.did) (history_over points s hits)

certain_history : (s : Entries) (points : List (List ℕ)) (seed stream limit : ℕ) (hits : List ℕ) → IsCertain s → length hits ≤ limit
    → history_of (run_of s points seed stream limit hits) ≡ history_over points s hits
certain_history s points seed stream limit hits c few =
    ap (and_then (given_of s points seed stream limit) []) (take_all limit hits few) ∙ same_after s points seed stream limit [] hits c

not_over : (s : Entries) (points : List (List ℕ)) (seed stream limit : ℕ) (hits : List ℕ) → length hits ≤ limit → is_over (run_of s points seed stream limit hits) ≡ false
not_over s points seed stream limit hits few = grind (arith, nat_tests, few)

pub answers_are : (s : Entries) (points : List (List ℕ)) (seed stream limit : ℕ) (hits : List ℕ) → IsCertain s → length hits ≤ limit
    → replies (run_of s points seed stream limit hits) ≡ answers_over points s hits
answers_are s points seed stream limit hits c few =
    ap (λ (b : Bool). map (λ h. reply_of h.did) (history_of (run_of s points seed stream limit hits)) ++ cond b (Halt ∷ []) []) (not_over s points seed stream limit hits few)
    ∙ append-nil (map (λ h. reply_of h.did) (history_of (run_of s points seed stream limit hits)))
    ∙ ap (map (λ h. reply_of h.did)) (certain_history s points seed stream limit hits c few)

pub stop_is : (s : Entries) (points : List (List ℕ)) (seed stream limit : ℕ) (hits : List ℕ) → IsCertain s → length hits ≤ limit
    → stopped (run_of s points seed stream limit hits) ≡ stopped_by (history_over points s hits)
stop_is s points seed stream limit hits c few =
    ap (λ (b : Bool). cond b (Some stop.Limit) (stopped_by (history_of (run_of s points seed stream limit hits)))) (not_over s points seed stream limit hits few)
    ∙ ap stopped_by (certain_history s points seed stream limit hits c few)

-- ---- the first answers

history_take : (s : Entries) (points : List (List ℕ)) (hits : List ℕ) (n : ℕ) → IsCertain s → history_over points s (take n hits) ≡ take n (history_over points s hits)
history_take s points hits n c =
    let few : length (take n hits) ≤ length hits = omega (arith, length-take n hits) in
    sym (certain_history s points 0 0 (length hits) (take n hits) c few) ∙ history_part (run_over points s hits) n
    ∙ ap (take n) (certain_history s points 0 0 (length hits) hits c (omega arith))

pub answers_take : (s : Entries) (points : List (List ℕ)) (hits : List ℕ) (n : ℕ) → IsCertain s → answers_over points s (take n hits) ≡ take n (answers_over points s hits)
answers_take s points hits n c = ap (map (λ h. reply_of h.did)) (history_take s points hits n c) ∙ sym (take-map (λ (h : Hit). reply_of h.did) n (history_over points s hits))

length_after : (g : Given) (h : List Hit) (ps : List ℕ) → length (and_then g h ps) ≡ length h + length ps
length_after g h [] = omega arith
length_after g h (p ∷ ps) =
    let later = length_after g (h ++ next g h p ∷ []) ps in
    omega (arith, later, length-append h (next g h p ∷ []))

-- each hit is answered
pub answers_many : (s : Entries) (points : List (List ℕ)) (hits : List ℕ) → length (answers_over points s hits) ≡ length hits
answers_many s points hits =
    let all = length_after (given_over points s) [] hits in
    let mapped = length-map (history_over points s hits) (λ (h : Hit). reply_of h.did) in
    omega (arith, all, mapped)

-- ---- the scenario of a plan

certain_kept : (test : Term → Bool) (ts : List Term) → AreCertain ts → AreCertain (filter test ts)
certain_kept test [] c = tt
certain_kept test (t ∷ ts) c = by_test (test t) (certain_kept test ts c.1)
  where
    by_test : (b : Bool) → AreCertain (filter test ts) → AreCertain (cond b (t ∷ filter test ts) (filter test ts))
    by_test true later = (c.0, later)
    by_test false later = later

certain_first : (n : ℕ) (ts : List Term) → AreCertain ts → AreCertain (take n ts)
certain_first zero ts c = tt
certain_first (suc n) [] c = tt
certain_first (suc n) (t ∷ ts) c = (c.0, certain_first n ts c.1)

certain_onto : (t : Term) (us : List Term) → AreCertain (t ∷ us) → AreCertain (joined_onto t us)
unfolding joined_onto
certain_onto t [] c = c
certain_onto t (u ∷ us) c = by_joint (joint t u) (certain_onto u us c.1) (λ n. certain_onto (record t { count = Some n }) us (c.0, c.1.1))
  where
    by_joint : (o : Option ℕ) → AreCertain (joined_onto u us) → ((n : ℕ) → AreCertain (joined_onto (record t { count = Some n }) us)) → AreCertain (join_by o t (joined_onto (with_count o t u) us))
    by_joint None apart together = (c.0, apart)
    by_joint (Some n) apart together = together n

certain_joined : (ts : List Term) → AreCertain ts → AreCertain (joined ts)
unfolding joined
certain_joined [] c = tt
certain_joined (t ∷ ts) c = certain_onto t ts c

certain_tidied_chain : (ts : List Term) → AreCertain ts → AreCertain (tidied_chain ts)
unfolding tidied_chain
certain_tidied_chain ts c =
    let live : List Term = without_used ts in
    let whole : List Term = joined (up_to_endless live) in
    certain_first (length whole - suffix_len is_idle whole) whole
    (certain_joined (up_to_endless live) (certain_first (position_or_len is_endless live + 1) live (certain_kept is_live ts c)))

certain_put : (name : List ℕ) (chain : List Term) (es : Entries) → AreCertain chain → IsCertain es → IsCertain (put name chain es)
certain_put name chain es c d = by_test (nat_lt 0 (length chain))
  where
    by_test : (b : Bool) → IsCertain (cond b ((name, chain) ∷ es) es)
    by_test true = (c, d)
    by_test false = d

certain_tidied : (s : Entries) → IsCertain s → IsCertain (tidied s)
certain_tidied [] c = tt
certain_tidied (e ∷ es) c = certain_put e.0 (tidied_chain e.1) (tidied es) (certain_tidied_chain e.1 c.0) (certain_tidied es c.1)

certain_task : (kind : Kind) → AreCertain (term_of kind ∷ [])
certain_task (OnceReturn text) = (inr refl, tt)
certain_task (OnwardReturn text) = (inr refl, tt)
certain_task OncePanic = (inr refl, tt)

certain_both : (a b : List Term) → AreCertain a → AreCertain b → AreCertain (a ++ b)
certain_both [] b c d = d
certain_both (t ∷ a) b c d = (c.0, certain_both a b c.1 d)

certain_offs : (n : ℕ) → AreCertain (offs n)
certain_offs n = by_test (eqb n 0)
  where
    by_test : (b : Bool) → AreCertain (cond b [] (full (Some n) Off ∷ []))
    by_test true = tt
    by_test false = (inr refl, tt)

certain_rigged : (p done : ℕ) (rigs : List Rig) → AreCertain (chain_from p done rigs)
certain_rigged p done [] = tt
certain_rigged p done (r ∷ rs) = certain_both (terms_at p done r) (chain_from p (done_after p done r) rs) (by_test (eqb r.site.point p)) (certain_rigged p (done_after p done r) rs)
  where
    by_test : (b : Bool) → AreCertain (cond b (rigged done r) [])
    by_test true = certain_both (offs (r.site.hit - done - 1)) (term_of r.kind ∷ []) (certain_offs (r.site.hit - done - 1)) (certain_task r.kind)
    by_test false = tt

certain_entry : (name : List ℕ) (chain : List Term) (es : Entries) → AreCertain chain → IsCertain es → IsCertain (entry name chain ++ es)
certain_entry name [] es c d = d
certain_entry name (t ∷ ts) es c d = (c, d)

certain_entries : (p : ℕ) (names : List (List ℕ)) (rigs : List Rig) → IsCertain (entries_from p names rigs)
certain_entries p [] rigs = tt
certain_entries p (name ∷ names) rigs = certain_entry name (chain_from p 0 rigs) (entries_from (p + 1) names rigs) (certain_rigged p 0 rigs) (certain_entries (p + 1) names rigs)

-- The tidied scenario of rigged hits is certain.
pub rigs_certain : (names : List (List ℕ)) (rigs : List Rig) → IsCertain (tidied (rigged_scenario names rigs))
unfolding rigged_scenario
rigs_certain names rigs = certain_tidied (entries_from 0 names rigs) (certain_entries 0 names rigs)
