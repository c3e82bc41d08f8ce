-- A rigged hit is met exactly if the clean run has it.
use Rattle.std.proofs.Common.{◌≡◌, ℕ, zero, suc, ◌+◌, ◌<◌, ◌≤◌, ◌==◌, ◌⊎◌, inl, inr, nat_le, Bool, true, false, cond, List, [], ◌∷◌, ◌++◌, take, length, refl, ap, sym, ◌∙◌, subst, arith}
use Rattle.std.proofs.lemmas.Bool.{cases_lt, le-leb}
use Rattle.scenario_values.specs.Scenario.{Entries}
use Rattle.action_eval.specs.Answers.{Given, Run, Reply, given_of, hit, asked, cuts_short}
use Rattle.action_eval.specs.SameMeaning.{Meaning, meaning}
use Rattle.target_trait.specs.declared.judgement.Judgement.TheVariants.{Kept}
use Rattle.target_trait.specs.Play.{Move, Ask, Done, Unknown, move_in}
use Rattle.target_trait.specs.Outcomes.{play, moved}
use Rattle.action_eval.specs.declared.rig.Kind.{Kind}
use Rattle.plan_gen.specs.LoopRuns.{times_of, times, IsMetAlike}
use Rattle.action_eval.specs.RiggedScenario.{rigged_scenario, rig}
use Rattle.plan_gen.proofs.Lists.{fold_append}

-- two runs of the same hits mean the same, as long as point p is asked fewer than k times
abbrev pub RunsAlike : Given → Given → ℕ → ℕ → Type 0
RunsAlike rigged clean p k = (hits : List ℕ) → times p (take clean.limit hits) < k → meaning (record { given = rigged; hits = hits }) ≡ meaning (record { given = clean; hits = hits })

-- until the rigged hit, a run is the clean run
abbrev pub IsCleanBefore : List (List ℕ) → ℕ → ℕ → Kind → Type 0
IsCleanBefore names seed limit kind =
    (p k : ℕ) → p < length names → 0 < k → RunsAlike (given_of (rigged_scenario names (rig (record { point = p; hit = k }) kind ∷ [])) names seed 0 limit) (given_of [] names seed 0 limit) p k

at_least : (b : Bool) (n : ℕ) → n ≤ n + cond b 1 0
at_least true n = omega arith
at_least false n = omega arith

times_more : (p q : ℕ) (xs : List ℕ) → times p xs ≤ times p (xs ++ q ∷ [])
times_more p q xs = subst (λ n. times p xs ≤ n) (sym (fold_append (λ a x. a + cond (x == p) 1 0) 0 xs (q ∷ []))) (at_least (q == p) (times p xs))

take_none : (n : ℕ) → take {A = ℕ} n [] ≡ []
take_none zero = refl
take_none (suc n) = refl

take_more : (n : ℕ) (xs : List ℕ) (q : ℕ) → (take n (xs ++ q ∷ []) ≡ take n xs) ⊎ (take n (xs ++ q ∷ []) ≡ take n xs ++ q ∷ [])
take_more zero [] q = inl refl
take_more zero (x ∷ xs) q = inl refl
take_more (suc n) [] q = inr (ap (λ (l : List ℕ). q ∷ l) (take_none n))
take_more (suc n) (x ∷ xs) q = elim (take_more n xs q) [ inl e ↦ inl (ap (λ (l : List ℕ). x ∷ l) e) | inr e ↦ inr (ap (λ (l : List ℕ). x ∷ l) e) ]

same_le : (a b : ℕ) → b ≡ a → a ≤ b
same_le a b e = omega arith

-- one more hit takes nothing away
asked_more : (p q : ℕ) (r : Run) → times p (asked r) ≤ times p (asked (hit r q))
asked_more p q r = elim (take_more r.given.limit r.hits q) [
  | inl e ↦ same_le _ _ (ap (times p) e)
  | inr e ↦ subst (λ (l : List ℕ). times p (asked r) ≤ times p l) (sym e) (times_more p q (asked r))
]

trans : (a b c : ℕ) → a ≤ b → b ≤ c → a ≤ c
trans a b c h k = omega arith

more_move : (p c : ℕ) (m : Move) (r : Run) (further : ℕ → Run) → c ≤ times p (asked r) → ((q : ℕ) → c ≤ times p (asked (further q))) → c ≤ times p (asked (moved m r further))
more_move p c (Ask q) r further h k = k q
more_move p c (Done j) r further h k = h
more_move p c Unknown r further h k = h

play_more : (n : ℕ) (asks : List Reply → Move) (p c : ℕ) (r : Run) → c ≤ times p (asked r) → c ≤ times p (asked (play n asks r))
unfolding play
play_more zero asks p c r h = h
play_more (suc n) asks p c r h = more_move p c (move_in asks r) r (λ q. play n asks (hit r q)) h (λ q. play_more n asks p c (hit r q) (trans _ _ _ h (asked_more p q r)))

alike_move : (p k : ℕ) (m : Move) (r s : Run) (f g : ℕ → Run) → asked r ≡ asked s → ((q : ℕ) → nat_le k (times p (asked (f q))) ≡ nat_le k (times p (asked (g q)))) → nat_le k (times p (asked (moved m r f))) ≡ nat_le k (times p (asked (moved m s g)))
alike_move p k (Ask q) r s f g e h = h q
alike_move p k (Done j) r s f g e h = ap (λ l. nat_le k (times p l)) e
alike_move p k Unknown r s f g e h = ap (λ l. nat_le k (times p l)) e

abbrev run_of : Given → List ℕ → Run
run_of g hits = record { given = g; hits = hits }

-- from the same hits on, both plays meet hit k of p or neither does
alike : (n : ℕ) (asks : List Reply → Move) (s : Entries) (names : List (List ℕ)) (seed limit p k : ℕ) → RunsAlike (given_of s names seed 0 limit) (given_of [] names seed 0 limit) p k → (hits : List ℕ) → times p (take limit hits) < k
    → nat_le k (times p (asked (play n asks (run_of (given_of s names seed 0 limit) hits)))) ≡ nat_le k (times p (asked (play n asks (run_of (given_of [] names seed 0 limit) hits))))
unfolding play
alike zero asks s names seed limit p k law hits few = refl
alike (suc n) asks s names seed limit p k law hits few =
    let g = given_of s names seed 0 limit in
    let c = given_of [] names seed 0 limit in
    ap (λ m. nat_le k (times p (asked (moved m (run_of g hits) (λ q. play n asks (hit (run_of g hits) q)))))) (ap (λ (x : Meaning). cond (cuts_short x.stop) (Done Kept) (asks x.replies)) (law hits few))
    ∙ alike_move p k (move_in asks (run_of c hits)) (run_of g hits) (run_of c hits) (λ q. play n asks (hit (run_of g hits) q)) (λ q. play n asks (hit (run_of c hits) q)) refl
    (λ q. elim (cases_lt (times p (take limit (hits ++ q ∷ []))) k) [
      | inl less ↦ alike n asks s names seed limit p k law (hits ++ q ∷ []) less
      | inr met ↦ le-leb k _ (play_more n asks p k (run_of g (hits ++ q ∷ [])) met) ∙ sym (le-leb k _ (play_more n asks p k (run_of c (hits ++ q ∷ [])) met))
    ])

pub met_alike : (asks : List Reply → Move) (names : List (List ℕ)) (seed limit : ℕ) (kind : Kind) → IsCleanBefore names seed limit kind → IsMetAlike asks names seed limit kind
unfolding times_of
met_alike asks names seed limit kind law p k within some =
    alike (suc limit) asks (rigged_scenario names (rig (record { point = p; hit = k }) kind ∷ [])) names seed limit p k (law p k within some) [] (subst (λ (l : List ℕ). times p l < k) (sym (take_none limit)) some)
