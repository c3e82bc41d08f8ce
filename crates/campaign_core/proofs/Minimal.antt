-- The reduced scenario fails, and no single fault of it can be left out.
use Rattle.std.proofs.Common.{◌≡◌, ℕ, ◌<◌, Bool, true, false, ◌&&◌, List, [], ◌∷◌, length, remove, slice_index, refl, ap, sym, ◌∙◌, subst, arith}
use Rattle.std.specs.List.{range_with_len}
use Rattle.std.proofs.lemmas.List.FromFn.{length-range_with_len}
use Rattle.std.proofs.lemmas.Bool.{false≢true}
use Rattle.scenario_values.specs.Scenario.{Entries, New, DistinctNames, all_faults}
use Rattle.scenario_values.specs.Keep.{after_chain, are_faults, kept, kept_from}
use Rattle.scenario_values.specs.Tidied.{tidied}
use Rattle.scenario_values.specs.Origins.{origins}
use Rattle.scenario_values.proofs.Sets.{all_are_faults, without_are_faults}
use Rattle.scenario_values.proofs.KeptAgain.{kept_all, kept_count, kept_without}
use Rattle.scenario_values.proofs.OriginLaws.{origins_inside, origins_without}
use Rattle.action_eval.specs.Answers.{Reply}
use Rattle.action_eval.proofs.RunLaws.{tidied_means, kept_means, means_back}
use Rattle.target_trait.specs.Play.{Move}
use Rattle.target_trait.specs.declared.judgement.Verdict.{Verdict}
use Rattle.target_trait.specs.Outcomes.{verdict_with}
use Rattle.target_trait.proofs.Verdicts.{verdict_same}
use Rattle.ddmin_parallel.specs.OneMinimal.{IsOneMinimal}
use Rattle.ddmin_parallel.proofs.Minimal.{minimal as one_minimal}
use Rattle.campaign_core.specs.FaultTest.{fails_with, fault_test}
use Rattle.campaign_core.specs.Findings.{IsMinimal, reduced, reduction}

and_left : (a b : Bool) → (a && b) ≡ true → a ≡ true
and_left true b is = refl
and_left false b is = is

and_right : (a b : Bool) → (a && b) ≡ true → b ≡ true
and_right true b is = is
and_right false b is = absurd (false≢true is)

and_both : (a b : Bool) → a ≡ true → b ≡ true → (a && b) ≡ true
and_both a b one two = ap (λ c. c && b) one ∙ two

and_false : (a b : Bool) → b ≡ false → (a && b) ≡ false
and_false true b is = is
and_false false b is = refl

only_right : (a b : Bool) → a ≡ true → (a && b) ≡ false → b ≡ false
only_right a b one is = ap (λ c. c && b) (sym one) ∙ is

-- a scenario that fails fails with all its faults kept
pub all_fail : (say : Entries → Verdict) (code : ℕ) (s : Entries) → fails_with code (say s) ≡ true
    → fault_test say code s (range_with_len 0 (all_faults s)) ≡ true
all_fail say code s fails =
    let all = range_with_len 0 (all_faults s) in
    and_both (are_faults (all_faults s) all) (fails_with code (say (kept all s))) (all_are_faults (all_faults s))
    (ap (λ t. fails_with code (say t)) (kept_all s) ∙ fails)

-- a set whose test fails is of faults
pub own_faults : (say : Entries → Verdict) (code : ℕ) (s : Entries) (set : List ℕ) → IsOneMinimal (fault_test say code s) set
    → are_faults (all_faults s) set ≡ true
own_faults say code s set minimal = and_left (are_faults (all_faults s) set) (fails_with code (say (kept set s))) minimal.fails

-- the names stay
kept_new : (name : List ℕ) (set : List ℕ) (n : ℕ) (es : Entries) → New name es → New name (kept_from set n es)
unfolding kept_from
kept_new name set n [] h = tt
kept_new name set n (e ∷ es) h = (h.0, kept_new name set (after_chain n e.1) es h.1)

pub kept_distinct : (set : List ℕ) (n : ℕ) (es : Entries) → DistinctNames es → DistinctNames (kept_from set n es)
unfolding kept_from
kept_distinct set n [] h = tt
kept_distinct set n (e ∷ es) h = (kept_new e.0 set (after_chain n e.1) es h.0, kept_distinct set (after_chain n e.1) es h.1)

-- what is kept, tidied: it fails, and without any one of its faults it does not
pub minimal_tidied : (asks : List Reply → Move) (names : List (List ℕ)) (seed limit stream code : ℕ) (s : Entries) (set : List ℕ)
    → DistinctNames s
    → IsOneMinimal (fault_test (verdict_with asks names seed limit stream) code s) set
    → IsMinimal (verdict_with asks names seed limit stream) code (tidied (kept set s))
minimal_tidied asks names seed limit stream code s set own_names minimal =
    let say : Entries → Verdict = verdict_with asks names seed limit stream in
    let t : Entries = kept set s in
    let r : Entries = tidied t in
    let distinct : DistinctNames t = kept_distinct set 0 s own_names in
    let own : are_faults (all_faults s) set ≡ true = own_faults say code s set minimal in
    let count : all_faults t ≡ length set = kept_count s set own in
    let fails : fails_with code (say r) ≡ true =
    ap (fails_with code) (verdict_same r t (tidied_means t distinct) asks names seed limit stream)
    ∙ and_right (are_faults (all_faults s) set) (fails_with code (say t)) minimal.fails in (
      fails,
      record {
        fails = all_fail say code r fails;
        each = λ i lt.
            let low : i < all_faults r = omega (arith, length-range_with_len 0 (all_faults r)) in
            let j : ℕ = slice_index (origins t) i in
            let rest : List ℕ = remove (range_with_len 0 (all_faults t)) j in
            let left : List ℕ = remove (range_with_len 0 (all_faults r)) i in
            let inside : j < length set = subst (λ n. j < n) count (origins_inside t i low) in
            let same : kept rest t ≡ kept (remove set j) s = ap (λ n. kept (remove (range_with_len 0 n) j) t) count ∙ kept_without s set j own in
            let passes : fails_with code (say (kept (remove set j) s)) ≡ false =
            only_right (are_faults (all_faults s) (remove set j)) (fails_with code (say (kept (remove set j) s))) (without_are_faults (all_faults s) j set own)
            (minimal.each j inside) in
            let means = means_back (kept rest t) (kept left r) (kept_means t rest left distinct (origins_without t i low)) in
            and_false (are_faults (all_faults r) left) (fails_with code (say (kept left r)))
            (ap (fails_with code) (verdict_same (kept left r) (kept rest t) means asks names seed limit stream ∙ ap say same) ∙ passes);
      },
    )

-- a scenario that fails, reduced: it fails, and without any one of its faults it does not
pub reduced_minimal : (asks : List Reply → Move) (names : List (List ℕ)) (seed limit stream code : ℕ) (s : Entries)
    → DistinctNames s
    → fails_with code (verdict_with asks names seed limit stream s) ≡ true
    → IsMinimal (verdict_with asks names seed limit stream) code (reduced (verdict_with asks names seed limit) stream code s)
reduced_minimal asks names seed limit stream code s own_names fails =
    let say : ℕ → Entries → Verdict = verdict_with asks names seed limit in
    minimal_tidied asks names seed limit stream code s (reduction say stream code s).kept own_names
    (one_minimal (fault_test (say stream) code s) (all_faults s) (all_fail (say stream) code s fails))
