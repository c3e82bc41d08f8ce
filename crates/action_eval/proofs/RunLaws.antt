-- The laws of runs.
use Rattle.std.proofs.Common.{◌≡◌, ℕ, zero, suc, ◌+◌, ◌<◌, ◌≤◌, Bool, true, false, cond, eqb, ◌&&◌, ◌||◌, List, [], ◌∷◌, ◌++◌, length, take, filter, refl, ap, sym, ◌∙◌, arith, subst, add-zero, zero-add, length-append, inl, inr, length-take}
use Rattle.std.specs.Prelude.{slice_index}
use Rattle.std.specs.List.{AllByRecursion, range_with_len}
use Rattle.std.proofs.lemmas.Bool.{cases_lt}
use Rattle.std.proofs.lemmas.Bool.Decides.{nat_tests}
use Rattle.std.proofs.lemmas.List.{take_all, take-take}
use Rattle.std.proofs.Math.Seq.{take-append_seam}
use Rattle.scenario_values.specs.Scenario.{Entries, chain_of, DistinctNames}
use Rattle.scenario_values.specs.Keep.{holds, kept}
use Rattle.scenario_values.specs.Tidied.{tidied}
use Rattle.scenario_values.specs.Origins.{origins, SameFaults}
use Rattle.scenario_values.proofs.Sets.{holds_range}
use Rattle.action_eval.specs.Words.{word}
use Rattle.action_eval.specs.Answers.{Given, Run, Hit, run_of, and_then, next, history_of}
use Rattle.action_eval.specs.FullShares.{HasFullShares, NoFaultActed}
use Rattle.action_eval.specs.LeftFrom.{left_from}
use Rattle.action_eval.specs.SameMeaning.{MeansTheSame, meaning_of}
use Rattle.action_eval.proofs.Alike.{mean_same}
use Rattle.action_eval.proofs.Chains.{same_then, same_by}
use Rattle.action_eval.proofs.Clean.{clean_meaning}
use Rattle.action_eval.proofs.KeptFaults.{kept_of}
use Rattle.action_eval.proofs.Renumbered.{renumbered}
use Rattle.action_eval.proofs.Shut.{tidied_from}
use Rattle.action_eval.proofs.Tidied.{tidied_same}
use Rattle.action_eval.proofs.TidiedEntries.{tidied_of}

pub tidied_means : (s : Entries) → DistinctNames s → MeansTheSame (tidied s) s
tidied_means s d = record {
  at = λ catalogue seed stream limit hits. let w = word seed stream in
      mean_same (tidied s) s catalogue seed stream limit hits (λ name. same_then w _ _ _ (same_by w _ _ (tidied_of s name d)) (tidied_same w (chain_of s name)));
}

-- Keeping a set of a scenario's faults, and keeping the same faults of the tidied scenario by their numbers there, mean the same.
pub kept_means : (s : Entries) (set own : List ℕ) → DistinctNames s → SameFaults set own 0 (origins s) → MeansTheSame (kept set s) (kept own (tidied s))
kept_means s set own d f = record {
  at = λ catalogue seed stream limit hits.
      mean_same (kept set s) (tidied_from set 0 s) catalogue seed stream limit hits (λ name. kept_of (word seed stream) set 0 s name d)
      ∙ ap (λ (t : Entries). meaning_of t catalogue seed stream limit hits) (renumbered set own 0 0 s f);
}

pub means_back : (s t : Entries) → MeansTheSame s t → MeansTheSame t s
means_back s t m = record { at = λ catalogue seed stream limit hits. sym (m.at catalogue seed stream limit hits) }

-- ---- the faults that come from a set

filter_case : (P : ℕ → Bool) (j x : ℕ) (xs : List ℕ) (p e : Bool) → P x ≡ p → eqb x j ≡ e → holds (filter P xs) j ≡ (holds xs j && P j) → holds (cond p (x ∷ filter P xs) (filter P xs)) j ≡ ((e || holds xs j) && P j)
filter_case P j x xs true true q e h =
    let same : x ≡ j = grind (arith, nat_tests) in
    ap (λ b. b || holds (filter P xs) j) e ∙ sym (ap P (sym same) ∙ q)
filter_case P j x xs false true q e h =
    let same : x ≡ j = grind (arith, nat_tests) in
    let no : P j ≡ false = ap P (sym same) ∙ q in
    h ∙ both_false (holds xs j) (P j) no ∙ sym no
  where
    both_false : (a b : Bool) → b ≡ false → (a && b) ≡ false
    both_false true b e = e
    both_false false b e = refl
filter_case P j x xs true false q e h = ap (λ b. b || holds (filter P xs) j) e ∙ h
filter_case P j x xs false false q e h = h

holds_filter : (P : ℕ → Bool) (j : ℕ) (xs : List ℕ) → holds (filter P xs) j ≡ (holds xs j && P j)
holds_filter P j [] = refl
holds_filter P j (x ∷ xs) = filter_case P j x xs (P x) (eqb x j) refl refl (holds_filter P j xs)

pointwise : (set own : List ℕ) (m : ℕ) (ns : List ℕ) → ((j : ℕ) → j < length ns → holds set (slice_index ns j) ≡ holds own (m + j)) → SameFaults set own m ns
pointwise set own m [] h = tt
pointwise set own m (n ∷ ns) h =
    (h 0 (omega arith) ∙ ap (holds own) (add-zero m), pointwise set own (m + 1) ns (λ j less. h (suc j) (omega arith) ∙ ap (holds own) (let e : m + suc j ≡ m + 1 + j = omega arith in e)))

pub from_set : (set : List ℕ) (s : Entries) → SameFaults set (left_from set s) 0 (origins s)
from_set set s =
    let ns = origins s in
    let P : ℕ → Bool = λ i. holds set (slice_index ns i) in
    pointwise set (left_from set s) 0 ns
    (λ j less. sym (ap (holds (left_from set s)) (zero-add j) ∙ holds_filter P j (range_with_len 0 (length ns)) ∙ ap (λ b. b && P j) (holds_range 0 (length ns) j (omega arith) (omega arith))))

-- ---- a part of a run

one_hit : (g : Given) (h : List Hit) (p : ℕ) → length (h ++ next g h p ∷ []) ≡ length h + 1
one_hit g h p = length-append h (next g h p ∷ [])

-- earlier hits stand first
begins : (g : Given) (h : List Hit) (ps : List ℕ) → take (length h) (and_then g h ps) ≡ h
begins g h [] = take_all (length h) h (omega arith)
begins g h (p ∷ ps) =
    let k : List Hit = h ++ next g h p ∷ [] in
    let less : length h ≤ length k = omega (arith, one_hit g h p) in
    sym (take-take (length h) (length k) (and_then g k ps) less) ∙ ap (take (length h)) (begins g k ps) ∙ take-append_seam h (next g h p ∷ [])

part_after : (g : Given) (h : List Hit) (ps : List ℕ) (n : ℕ) → and_then g h (take n ps) ≡ take (length h + n) (and_then g h ps)
part_after g h [] zero = sym (take_all (length h + 0) h (omega arith))
part_after g h [] (suc n) = sym (take_all (length h + suc n) h (omega arith))
part_after g h (p ∷ ps) zero = sym (ap (λ n. take n (and_then g h (p ∷ ps))) (add-zero (length h)) ∙ begins g h (p ∷ ps))
part_after g h (p ∷ ps) (suc n) =
    let k : List Hit = h ++ next g h p ∷ [] in
    part_after g k ps n ∙ ap (λ m. take m (and_then g k ps)) (let e : length k + n ≡ length h + suc n = omega (arith, one_hit g h p) in e)

take_either : (m n : ℕ) (l : List ℕ) → take m (take n l) ≡ take n (take m l)
take_either m n l = elim (cases_lt m n) [
  | inl h ↦ take-take m n l (omega arith) ∙ sym (take_all n (take m l) (omega (arith, length-take m l)))
  | inr h ↦ take_all m (take n l) (omega (arith, length-take n l)) ∙ sym (take-take n m l (omega arith))
]

pub history_part : (r : Run) (n : ℕ) → history_of (record r { hits = take n r.hits }) ≡ take n (history_of r)
history_part r n =
    ap (and_then r.given []) (take_either r.given.limit n r.hits) ∙ part_after r.given [] (take r.given.limit r.hits) n ∙ ap (λ m. take m (history_of r)) (zero-add n)

pub clean_part : (s : Entries) → HasFullShares s → (catalogue : List (List ℕ)) (seed stream limit : ℕ) (hits : List ℕ) (n : ℕ) → NoFaultActed (take n (history_of (run_of s catalogue seed stream limit hits)))
    → meaning_of s catalogue seed stream limit (take n hits) ≡ meaning_of [] catalogue seed stream limit (take n hits)
clean_part s f catalogue seed stream limit hits n none =
    let r : Run = run_of s catalogue seed stream limit hits in
    clean_meaning s catalogue seed stream limit (take n hits) f (subst (λ (h : List Hit). NoFaultActed h) (sym (history_part r n)) none)

-- what holds of all numbers holds of one
pub member : (n : ℕ) (ns : List ℕ) (i : ℕ) → AllByRecursion (λ k. k < n) ns → i < length ns → slice_index ns i < n
member n [] i a h = absurd (omega arith)
member n (k ∷ ns) zero a h = a.0
member n (k ∷ ns) (suc i) a h = member n ns i a.1 (omega arith)
