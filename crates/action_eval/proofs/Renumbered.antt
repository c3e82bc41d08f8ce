-- The faults of a tidied scenario, by their own numbers.
use Rattle.std.proofs.Common.{◌≡◌, ℕ, zero, suc, ◌+◌, ◌-◌, ◌≤◌, Bool, true, false, cond, eqb, nat_lt, not, List, [], ◌∷◌, ◌++◌, map, Option, Some, None, refl, ap, sym, ◌∙◌, arith, take, length, get_or, subst, add-zero}
use Rattle.std.specs.List.{suffix_len, position_or_len}
use Rattle.std.proofs.lemmas.List.Sums.{suffix_len-take_yes, suffix_len-take_no}
use Rattle.std.proofs.lemmas.Bool.Decides.{nat_tests}
use Rattle.std.proofs.lemmas.List.{take_all}
use Rattle.std.proofs.Math.Seq.{take-suc}
use Rattle.scenario_values.specs.declared.term.Term.{Term}
use Rattle.scenario_values.specs.Scenario.{Entries, is_off}
use Rattle.scenario_values.specs.Keep.{holds, switched_off, after_term, kept_chain, after_chain, kept_from}
use Rattle.scenario_values.specs.Tidied.{is_used, is_idle, is_endless, joint, join_by, with_count, joined_onto, joined, without_used, up_to_endless, without_idle_end, tidied_chain, tidied, put}
use Rattle.scenario_values.specs.Origins.{number_of, left_numbers, all_left_numbers, SameFaults}
use Rattle.action_eval.proofs.Shut.{first_flag, other_flags, shut_term, shut, tidied_chain_with, tidied_from}
use Rattle.action_eval.proofs.Chains.{off}
use Rattle.action_eval.proofs.Tidied.{and_first, one_less}
use Rattle.action_eval.proofs.KeptFaults.{clipped, pair_off}

-- how many faults a chain has
abbrev faults_in : List Term → ℕ
faults_in [] = 0
faults_in (t ∷ ts) = cond (is_off t.task) (faults_in ts) (suc (faults_in ts))

after_case : (n : ℕ) (b : Bool) (ts : List Term) → ((m : ℕ) → after_chain m ts ≡ m + faults_in ts) → after_chain (cond b n (n + 1)) ts ≡ n + cond b (faults_in ts) (suc (faults_in ts))
after_case n true ts h = h n
after_case n false ts h = let e = h (n + 1) in omega (arith, e)

pub after_is : (n : ℕ) (ts : List Term) → after_chain n ts ≡ n + faults_in ts
unfolding after_chain
after_is n [] = omega arith
after_is n (t ∷ ts) = after_case n (is_off t.task) ts (λ m. after_is m ts)

-- ---- tidying leaves as many faults as it leaves numbers

number_case : (n : ℕ) (b : Bool) (k : ℕ) (more : List ℕ) → k ≡ length more → cond b k (suc k) ≡ length (cond b [] (n ∷ []) ++ more)
number_case n true k more e = e
number_case n false k more e = ap suc e

count_case : (n : ℕ) (t : Term) (ts : List Term) → faults_in (clipped ts) ≡ length (left_numbers (after_term n t) ts) → (u v : Bool) → is_endless t ≡ v
    → faults_in (up_to_endless (cond (not u) (t ∷ without_used ts) (without_used ts))) ≡ length (cond u (left_numbers (after_term n t) ts) (number_of n t ++ cond v [] (left_numbers (after_term n t) ts)))
count_case n t ts h true v f = h
count_case n t ts h false true f =
    let first = without_used ts in
    let one : up_to_endless (t ∷ first) ≡ t ∷ [] = ap (λ b. take (cond (not b) (1 + position_or_len is_endless first) 0 + 1) (t ∷ first)) f in
    ap faults_in one ∙ number_case n (is_off t.task) 0 [] refl
count_case n t ts h false false f =
    let first = without_used ts in
    let more : (1 + position_or_len is_endless first) + 1 ≡ suc (position_or_len is_endless first + 1) = omega arith in
    let one : up_to_endless (t ∷ first) ≡ t ∷ up_to_endless first =
    ap (λ b. take (cond (not b) (1 + position_or_len is_endless first) 0 + 1) (t ∷ first)) f ∙ ap (λ n. take n (t ∷ first)) more
    in
    ap faults_in one ∙ number_case n (is_off t.task) (faults_in (up_to_endless first)) (left_numbers (after_term n t) ts) h

clipped_count : (n : ℕ) (ts : List Term) → faults_in (clipped ts) ≡ length (left_numbers n ts)
clipped_count n [] = refl
clipped_count n (t ∷ ts) = count_case n t ts (clipped_count (after_term n t) ts) (is_used t.count) (is_endless t) refl

off_counts : (t : Term) (ts : List Term) → is_off t.task ≡ true → faults_in (t ∷ ts) ≡ faults_in ts
off_counts t ts e = ap (λ b. cond b (faults_in ts) (suc (faults_in ts))) e

join_case : (t u : Term) (us : List Term) (o : Option ℕ) → joint t u ≡ o → faults_in (joined_onto (with_count o t u) us) ≡ faults_in (with_count o t u ∷ us) → faults_in (join_by o t (joined_onto (with_count o t u) us)) ≡ faults_in (t ∷ u ∷ us)
join_case t u us None e h = ap (λ n. cond (is_off t.task) n (suc n)) h
join_case t u us (Some n) e h =
    let offs = pair_off t u n (is_idle t) (is_idle u) refl refl e in
    let j : Term = record t { count = Some n } in
    h ∙ off_counts j us offs.0 ∙ sym (off_counts t (u ∷ us) offs.0 ∙ off_counts u us offs.1)

onto_count : (t : Term) (us : List Term) → faults_in (joined_onto t us) ≡ faults_in (t ∷ us)
unfolding joined_onto
onto_count t [] = refl
onto_count t (u ∷ us) = join_case t u us (joint t u) refl (onto_count (with_count (joint t u) t u) us)

joined_count : (ts : List Term) → faults_in (joined ts) ≡ faults_in ts
unfolding joined
joined_count [] = refl
joined_count (t ∷ ts) = onto_count t ts

one_more : (w : List Term) (t : Term) → is_idle t ≡ true → faults_in (w ++ t ∷ []) ≡ faults_in w
one_more [] t e = off_counts t [] (and_first (is_off t.task) (eqb t.share 1000000) e)
one_more (u ∷ w) t e = ap (λ n. cond (is_off u.task) n (suc n)) (one_more w t e)

end_case : (c : List Term) (m : ℕ) → suc m ≤ length c → faults_in (take (m - suffix_len is_idle (take m c)) c) ≡ faults_in (take m c)
    → (b : Bool) → is_idle (get_or c m (off 0)) ≡ b → faults_in (take (suc m - suffix_len is_idle (take (suc m) c)) c) ≡ faults_in (take (suc m) c)
end_case c m h s true e =
    let same : suffix_len is_idle (take (suc m) c) ≡ 1 + suffix_len is_idle (take m c) = suffix_len-take_yes is_idle c (suc m) (off 0) (omega arith) h (ap (λ k. is_idle (get_or c k (off 0))) (one_less m) ∙ e) ∙ ap (λ k. 1 + suffix_len is_idle (take k c)) (one_less m) in
    let less : suc m - suffix_len is_idle (take (suc m) c) ≡ m - suffix_len is_idle (take m c) = omega (arith, same) in
    ap (λ n. faults_in (take n c)) less ∙ s ∙ sym (ap faults_in (take-suc c m (off 0) h) ∙ one_more (take m c) (get_or c m (off 0)) e)
end_case c m h s false e =
    let same : suffix_len is_idle (take (suc m) c) ≡ 0 = suffix_len-take_no is_idle c (suc m) (off 0) (omega arith) h (ap (λ k. is_idle (get_or c k (off 0))) (one_less m) ∙ e) in
    let less : suc m - suffix_len is_idle (take (suc m) c) ≡ suc m = omega (arith, same) in
    ap (λ n. faults_in (take n c)) less

ends_at : (c : List Term) (n : ℕ) → n ≤ length c → faults_in (take (n - suffix_len is_idle (take n c)) c) ≡ faults_in (take n c)
ends_at c zero h = let less : 0 - suffix_len is_idle (take 0 c) ≡ 0 = omega arith in ap (λ n. faults_in (take n c)) less
ends_at c (suc m) h = end_case c m h (ends_at c m (omega arith)) (is_idle (get_or c m (off 0))) refl

ends_count : (c : List Term) → faults_in (without_idle_end c) ≡ faults_in c
ends_count c =
    let whole : take (length c) c ≡ c = take_all (length c) c (omega arith) in
    ap (λ x. faults_in (take (length c - suffix_len is_idle x) c)) (sym whole) ∙ ends_at c (length c) (omega arith) ∙ ap faults_in whole

pub tidied_count : (n : ℕ) (c : List Term) → faults_in (tidied_chain c) ≡ length (left_numbers n c)
unfolding tidied_chain
tidied_count n c = ends_count (joined (clipped c)) ∙ joined_count (clipped c) ∙ clipped_count n c

-- ---- by their own numbers

shut_case : (own : List ℕ) (m : ℕ) (t : Term) (ts : List Term) (set : List ℕ) (ns : List ℕ) (b : Bool)
    → ((m : ℕ) (ns : List ℕ) → SameFaults set own m ns → faults_in ts ≡ length ns → shut (map (holds set) ns) ts ≡ kept_chain own m ts)
    → SameFaults set own m ns → cond b (faults_in ts) (suc (faults_in ts)) ≡ length ns
    → cond b (t ∷ shut (map (holds set) ns) ts) (shut_term (first_flag (map (holds set) ns)) t ∷ shut (other_flags (map (holds set) ns)) ts)
    ≡ cond b t (cond (holds own m) t (switched_off t)) ∷ kept_chain own (cond b m (m + 1)) ts
shut_case own m t ts set ns true h f e = ap (λ l. t ∷ l) (h m ns f e)
shut_case own m t ts set [] false h f e = absurd (omega arith)
shut_case own m t ts set (n ∷ ns) false h f e =
    ap (λ b. cond b t (switched_off t) ∷ shut (map (holds set) ns) ts) f.0 ∙ ap (λ l. cond (holds own m) t (switched_off t) ∷ l) (h (m + 1) ns f.1 (omega arith))

shut_is : (own : List ℕ) (m : ℕ) (ts : List Term) (set : List ℕ) (ns : List ℕ) → SameFaults set own m ns → faults_in ts ≡ length ns → shut (map (holds set) ns) ts ≡ kept_chain own m ts
unfolding kept_chain
shut_is own m [] set ns f e = refl
shut_is own m (t ∷ ts) set ns f e = shut_case own m t ts set ns (is_off t.task) (λ m ns f e. shut_is own m ts set ns f e) f e

same_front : (set own : List ℕ) (m : ℕ) (ns ks : List ℕ) → SameFaults set own m (ns ++ ks) → SameFaults set own m ns
same_front set own m [] ks f = tt
same_front set own m (n ∷ ns) ks f = (f.0, same_front set own (m + 1) ns ks f.1)

same_end : (set own : List ℕ) (m : ℕ) (ns ks : List ℕ) → SameFaults set own m (ns ++ ks) → SameFaults set own (m + length ns) ks
same_end set own m [] ks f = let P : ℕ → Type 0 = λ x. SameFaults set own x ks in subst P (sym (add-zero m)) f
same_end set own m (n ∷ ns) ks f =
    let P : ℕ → Type 0 = λ x. SameFaults set own x ks in
    let e : (m + 1) + length ns ≡ m + suc (length ns) = omega arith in
    subst P e (same_end set own (m + 1) ns ks f.1)

positive : (n : ℕ) → nat_lt 0 (suc n) ≡ true
positive n = grind (arith, nat_tests)

kept_put : (own : List ℕ) (m : ℕ) (name : List ℕ) (c : List Term) (es : Entries) → put name (kept_chain own m c) (kept_from own (after_chain m c) es) ≡ kept_from own m (put name c es)
unfolding kept_chain kept_from after_chain
kept_put own m name [] es = refl
kept_put own m name (t ∷ c) es =
    ap (λ b. cond b ((name, kept_chain own m (t ∷ c)) ∷ kept_from own (after_chain m (t ∷ c)) es) (kept_from own (after_chain m (t ∷ c)) es)) (positive (length (kept_chain own (after_term m t) c)))
    ∙ sym (ap (λ b. kept_from own m (cond b ((name, t ∷ c) ∷ es) es)) (positive (length c)))

-- the tidied scenario with the faults left that come from a set is the tidied scenario, kept by its own numbers
pub renumbered : (set own : List ℕ) (n m : ℕ) (s : Entries) → SameFaults set own m (all_left_numbers n s) → tidied_from set n s ≡ kept_from own m (tidied s)
unfolding kept_from
renumbered set own n m [] f = refl
renumbered set own n m (e ∷ es) f =
    let ns = left_numbers n e.1 in
    let ks = all_left_numbers (after_chain n e.1) es in
    let c = tidied_chain e.1 in
    let count : faults_in c ≡ length ns = tidied_count n e.1 in
    let here : tidied_chain_with set n e.1 ≡ kept_chain own m c = shut_is own m c set ns (same_front set own m ns ks f) count in
    let next : m + length ns ≡ after_chain m c = sym (after_is m c ∙ ap (λ k. m + k) count) in
    let P : ℕ → Type 0 = λ x. SameFaults set own x ks in
    let rest : tidied_from set (after_chain n e.1) es ≡ kept_from own (after_chain m c) (tidied es) = renumbered set own (after_chain n e.1) (after_chain m c) es (subst P next (same_end set own m ns ks f)) in
    ap (λ x. put e.0 x (tidied_from set (after_chain n e.1) es)) here ∙ ap (λ x. put e.0 (kept_chain own m c) x) rest ∙ kept_put own m e.0 c (tidied es)
