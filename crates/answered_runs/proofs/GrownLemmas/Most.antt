-- The most hits of each point, raised by one run after another.
use Rattle.std.proofs.Common.{◌≡◌, ℕ, zero, suc, ◌+◌, ◌<◌, ◌≤◌, ◌⊎◌, inl, inr, max, Bool, true, false, cond, List, [], ◌∷◌, ◌++◌, map, length, get_or, take, count_by, ◌==◌, refl, ap, sym, ◌∙◌, subst, arith}
use Rattle.std.specs.Prelude.{Contains, Option, Some, None, nat_lt}
use Rattle.std.specs.List.{AllByRecursion, filter, range_with_len}
use Rattle.std.proofs.lemmas.List.Elements.{Contains-append_left, Contains-append_right}
use Rattle.std.proofs.lemmas.Bool.Decides.{nat_tests}
use Rattle.std.proofs.lemmas.List.{map-append, take_more, take_all}
use Rattle.action_eval.specs.declared.rig.Rig.{Rig}
use Rattle.target_trait.specs.declared.judgement.Verdict.{Verdict}
use Rattle.plan_gen.specs.Census.{counts_of}
use Rattle.plan_gen.specs.LoopRuns.{times}
use Rattle.grown_plans.specs.Runs.{Met}
use Rattle.grown_plans.specs.GrownPlans.{Subject, grown, levels, most, onward, reached, run_of_plan}
use Rattle.grown_plans.specs.AskedPoints.{ReachesByAsked}
use Rattle.grown_plans.specs.Promises.{IsLawful}
use Rattle.grown_plans.proofs.Members.{all_append, all_by_contains, all_contains, all_weaker}
use Rattle.grown_plans.proofs.AskedSites.{reaches_by_asked}
use Rattle.grown_runs.specs.Grown.{reached_each}
use Rattle.grown_runs.proofs.Overs.{most_parts, most_single}
use Rattle.grown_runs.specs.known.Known.{Agrees, KnownRuns, Told, hits_of, hits_told}
use Rattle.grown_runs.specs.known.Looks.{told}
use Rattle.grown_runs.specs.known.KnownPart.{are_told, is_reached, is_reached_onward, known_part}
use Rattle.grown_runs.proofs.KnownLemmas.Ends.{filtered}
use Rattle.grown_runs.proofs.KnownLemmas.Listed.{filter_all}
use Rattle.grown_runs.proofs.KnownLemmas.Sites.{asked_told, hits_true}
use Rattle.answered_runs.specs.grown.Reached.{AreMostTold, reached_known, reached_seen, reached_told, times_told}

pub record AreMostOf (runs : KnownRuns) (plans : List (List Rig)) (points : ℕ) (counts : List ℕ) : Type 0 where
  pub many : length counts ≡ points
  pub are : AreMostTold runs plans counts

-- ---- one run after another

pub raised : (runs : KnownRuns) (plans : List (List Rig)) (i points : ℕ) (plan : List Rig) (old new : List ℕ) → i < length plans → plan ≡ get_or plans i [] → AreMostOf runs (take i plans) points old → length new ≡ length old
    → ((p : ℕ) → p < length old → get_or new p 0 ≡ max (get_or old p 0) (times_told p (hits_of runs plan))) → AreMostOf runs (take (i + 1) plans) points new
raised runs plans i points plan old new less is so_far many more = record {
  many = many ∙ so_far.many;
  are =
      λ p lt.
      let count : List Rig → ℕ = λ x. times_told p (hits_of runs x) in
      let whole : take (i + 1) plans ≡ take i plans ++ plan ∷ [] = take_more plans i [] less ∙ ap (λ (x : List Rig). take i plans ++ x ∷ []) (sym is) in
      let within : p < length old = omega (arith, lt, many) in
      more p within ∙ ap (λ (k : ℕ). max k (count plan)) (so_far.are p within)
      ∙ ap (max (most (map count (take i plans)))) (sym (most_single (count plan)))
      ∙ sym (most_parts (map count (take i plans)) (count plan ∷ []))
      ∙ ap most (sym (map-append count (take i plans) (plan ∷ [])))
      ∙ ap (λ (ps : List (List Rig)). most (map count ps)) (sym whole);
}

pub all_raised : (runs : KnownRuns) (plans : List (List Rig)) (i points : ℕ) (counts : List ℕ) → length plans ≤ i → AreMostOf runs (take i plans) points counts → AreMostOf runs plans points counts
all_raised runs plans i points counts end so_far = subst (λ (ps : List (List Rig)). AreMostOf runs ps points counts) (take_all i plans end) so_far

-- ---- one run

range_at : (f : ℕ → ℕ) (a n p : ℕ) → p < n → get_or (map f (range_with_len a n)) p 0 ≡ f (a + p)
range_at f a zero p lt = absurd (omega (arith, lt))
range_at f a (suc n) zero lt = ap f (let e : a ≡ a + 0 = omega arith in e)
range_at f a (suc n) (suc p) lt = range_at f (a + 1) n p (omega (arith, lt)) ∙ ap f (let e : a + 1 + p ≡ a + suc p = omega arith in e)

-- counts of the hits that a look has told
pub counted : (runs : KnownRuns) (plan : List Rig) (v : Verdict) (hits asked counts slice : List ℕ) (n p : ℕ) → runs plan ≡ Some (told v (Some hits)) → asked ≡ hits → counts ≡ counts_of n asked → slice ≡ counts → p < n
    → get_or slice p 0 ≡ times_told p (hits_of runs plan)
counted runs plan v hits asked counts slice n p seen same are is lt =
    ap (λ (l : List ℕ). get_or l p 0) (is ∙ are) ∙ range_at (λ (q : ℕ). times q asked) 0 n p lt ∙ ap (λ (q : ℕ). times q asked) (let e : 0 + p ≡ p = omega arith in e)
    ∙ ap (times p) same ∙ sym (ap (λ (o : Option Told). times_told p (hits_told o)) seen)

-- ---- for a component

none_less : (n : ℕ) → nat_lt n 0 ≡ false
none_less n = grind (arith, nat_tests)

-- Runs whose hits aren't recorded don't count.
most_of : (f g : List Rig → ℕ) (seen : List Rig → Bool) (plans : List (List Rig)) → AllByRecursion (λ plan. ((seen plan ≡ true) × (f plan ≡ g plan)) ⊎ ((seen plan ≡ false) × (f plan ≡ 0))) plans
    → most (map f plans) ≡ most (map g (filter seen plans))
most_of f g seen [] all = refl
most_of f g seen (plan ∷ plans) all = by_plan (most_of f g seen plans all.1) all.0
  where
    by_plan : most (map f plans) ≡ most (map g (filter seen plans)) → ((seen plan ≡ true) × (f plan ≡ g plan)) ⊎ ((seen plan ≡ false) × (f plan ≡ 0))
        → most (f plan ∷ map f plans) ≡ most (map g (cond (seen plan) (plan ∷ filter seen plans) (filter seen plans)))
    by_plan rest (inl h) =
        ap (λ (n : ℕ). cond (nat_lt n (f plan)) (f plan) n) rest
        ∙ ap (λ (n : ℕ). cond (nat_lt (most (map g (filter seen plans))) n) n (most (map g (filter seen plans)))) h.1
        ∙ ap (λ (b : Bool). most (map g (cond b (plan ∷ filter seen plans) (filter seen plans)))) (sym h.0)
    by_plan rest (inr h) =
        ap (λ (n : ℕ). cond (nat_lt n (f plan)) (f plan) n) rest
        ∙ ap (λ (n : ℕ). cond (nat_lt (most (map g (filter seen plans))) n) n (most (map g (filter seen plans)))) h.1
        ∙ ap (λ (b : Bool). cond b 0 (most (map g (filter seen plans)))) (none_less (most (map g (filter seen plans))))
        ∙ ap (λ (b : Bool). most (map g (cond b (plan ∷ filter seen plans) (filter seen plans)))) (sym h.0)

abbrev is_seen : KnownRuns → List Rig → Bool
is_seen runs plan = are_told (hits_of runs plan)

abbrev hits_at : Subject → ℕ → List Rig → ℕ
hits_at t p plan = count_by (λ (m : Met). m.site.point == p) (run_of_plan t plan)

known_in : (t : Subject) (d : ℕ) (runs : KnownRuns) → AllByRecursion (Contains (grown t d)) (known_part t d runs)
known_in t d runs =
    all_append (Contains (grown t d)) (filter (is_reached runs) (levels t d)) (filter (is_reached_onward runs) (onward t d))
    (filtered (is_reached runs) (Contains (grown t d)) (levels t d) (all_by_contains (Contains (grown t d)) (levels t d) (λ plan c. Contains-append_left (levels t d) (onward t d) plan c)))
    (filtered (is_reached_onward runs) (Contains (grown t d)) (onward t d) (all_by_contains (Contains (grown t d)) (onward t d) (λ plan c. Contains-append_right (levels t d) (onward t d) plan c)))

reached_is : (t : Subject) (d : ℕ) (runs : KnownRuns) → IsLawful t → Agrees t d runs → (p : ℕ) → reached_told runs (known_part t d runs) p ≡ reached_known t d runs p
reached_is t d runs lawful agrees p =
    most_of (λ (plan : List Rig). times_told p (hits_of runs plan)) (hits_at t p) (is_seen runs) (known_part t d runs)
    (all_weaker (Contains (grown t d)) _ (λ plan c. by_hits plan c (hits_of runs plan) refl) (known_part t d runs) (known_in t d runs))
  where
    by_hits : (plan : List Rig) → Contains (grown t d) plan → (o : Option (List ℕ)) → hits_of runs plan ≡ o
        → ((are_told o ≡ true) × (times_told p o ≡ hits_at t p plan)) ⊎ ((are_told o ≡ false) × (times_told p o ≡ 0))
    by_hits plan c None e = inr (refl, refl)
    by_hits plan c (Some hits) e =
        let by : ReachesByAsked t plan = all_contains (ReachesByAsked t) (grown t d) plan (reaches_by_asked t lawful d) c in
        inl (refl, ap (times p) (sym (asked_told t plan hits (hits_true t d runs plan hits agrees c e))) ∙ sym (by 0 0 p))

each_is : (counts : List ℕ) (f : ℕ → ℕ) (n : ℕ) → ((p : ℕ) → p < length counts → get_or counts p 0 ≡ f (n + p)) → counts ≡ map f (range_with_len n (length counts))
each_is [] f n at = refl
each_is (x ∷ xs) f n at =
    ap (λ (y : ℕ). y ∷ xs) (at 0 (omega arith) ∙ ap f (let e : n + 0 ≡ n = omega arith in e))
    ∙ ap (λ (l : List ℕ). f n ∷ l) (each_is xs f (n + 1) (λ p lt. at (suc p) (omega (arith, lt)) ∙ ap f (let e : n + suc p ≡ n + 1 + p = omega arith in e)))

pub reached_are : (t : Subject) (d : ℕ) (runs : KnownRuns) (counts : List ℕ) → IsLawful t → Agrees t d runs → AreMostOf runs (known_part t d runs) (length t.names) counts → counts ≡ reached_seen t d runs
reached_are t d runs counts lawful agrees most_of =
    each_is counts (reached_known t d runs) 0 (λ p lt. most_of.are p lt ∙ reached_is t d runs lawful agrees p ∙ ap (reached_known t d runs) (let e : p ≡ 0 + p = omega arith in e))
    ∙ ap (λ (k : ℕ). map (reached_known t d runs) (range_with_len 0 k)) most_of.many

-- The same if the list is whole and the hits of each run are recorded.
pub reached_whole : (t : Subject) (d : ℕ) (runs : KnownRuns) → known_part t d runs ≡ grown t d → AllByRecursion (λ plan. are_told (hits_of runs plan) ≡ true) (grown t d) → reached_seen t d runs ≡ reached_each t d
reached_whole t d runs same seen = maps_are (reached_known t d runs) (reached t d) each 0 (length t.names)
  where
    each : (p : ℕ) → reached_known t d runs p ≡ reached t d p
    each p =
        ap (λ (ps : List (List Rig)). most (map (hits_at t p) (filter (is_seen runs) ps))) same
        ∙ ap (λ (ps : List (List Rig)). most (map (hits_at t p) ps)) (filter_all (is_seen runs) true (grown t d) seen)

    maps_are : (f g : ℕ → ℕ) → ((p : ℕ) → f p ≡ g p) → (first count : ℕ) → map f (range_with_len first count) ≡ map g (range_with_len first count)
    maps_are f g h first zero = refl
    maps_are f g h first (suc count) =
        ap (λ (n : ℕ). n ∷ map f (range_with_len (first + 1) count)) (h first) ∙ ap (λ (l : List ℕ). g first ∷ l) (maps_are f g h (first + 1) count)
