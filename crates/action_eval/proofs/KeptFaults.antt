-- A kept scenario means what the tidied one means with the faults left that come from the set.
use Rattle.std.proofs.Common.{◌≡◌, ℕ, zero, suc, ◌+◌, ◌-◌, ◌≤◌, Bool, true, false, cond, eqb, nat_lt, not, ◌&&◌, List, [], ◌∷◌, ◌++◌, map, Option, Some, None, refl, ap, sym, ◌∙◌, arith, take, length, get_or}
use Rattle.std.specs.List.{suffix_len, position_or_len}
use Rattle.std.specs.Str.{bytes_eq}
use Rattle.std.proofs.lemmas.List.Sums.{suffix_len-take_yes, suffix_len-take_no}
use Rattle.std.proofs.lemmas.List.{take_all}
use Rattle.std.proofs.lemmas.Slice.Eq.{bytes_eq-Decides}
use Rattle.std.proofs.Math.Seq.{take-suc}
use Rattle.scenario_values.specs.declared.term.Term.{Term}
use Rattle.scenario_values.specs.Scenario.{Entries, chain_of, New, DistinctNames, is_off}
use Rattle.scenario_values.specs.Keep.{holds, switched_off, kept_term, after_term, kept_chain, after_chain, kept_from}
use Rattle.scenario_values.specs.Tidied.{is_used, is_idle, is_endless, is_uncounted, joined_counts, joint, join_by, with_count, joined_onto, joined, without_used, up_to_endless, without_idle_end, tidied_chain, put}
use Rattle.action_eval.proofs.Machine.{Same}
use Rattle.scenario_values.specs.Origins.{number_of, left_numbers}
use Rattle.action_eval.proofs.Shut.{first_flag, other_flags, shut_term, shut, tidied_chain_with, tidied_from}
use Rattle.action_eval.proofs.Chains.{same_self, same_back, same_then, same_by, under, without, endless, idle, off}
use Rattle.action_eval.proofs.Tidied.{and_first, and_second, uncounted_is, off_is, idle_pair, one_less}
use Rattle.action_eval.proofs.TidiedEntries.{flipped, put_found, put_other}

abbrev flags : List ℕ → ℕ → List Term → List Bool
flags set n ts = map (holds set) (left_numbers n ts)

-- the chain that stands before terms are joined
abbrev pub clipped : List Term → List Term
clipped ts = up_to_endless (without_used ts)

used_kept : (set : List ℕ) (n : ℕ) (t : Term) (a b : Bool) → is_used t.count ≡ true → is_used (cond a t (cond b t (switched_off t))).count ≡ true
used_kept set n t true b e = e
used_kept set n t false true e = e
used_kept set n t false false e = e

endless_kept : (t : Term) (a b : Bool) → t.count ≡ None → (cond a t (cond b t (switched_off t))).count ≡ None
endless_kept t true b e = e
endless_kept t false true e = e
endless_kept t false false e = e

share_kept : (t : Term) (a b : Bool) → eqb t.share 1000000 ≡ true → eqb (cond a t (cond b t (switched_off t))).share 1000000 ≡ true
share_kept t true b e = e
share_kept t false true e = e
share_kept t false false e = e

-- a term shut by the flags, and the rest
shut_front : (set : List ℕ) (n : ℕ) (t : Term) (ts : List Term) (more : List ℕ) (a : Bool)
    → cond a (t ∷ shut (map (holds set) (cond a [] (n ∷ []) ++ more)) ts) (shut_term (first_flag (map (holds set) (cond a [] (n ∷ []) ++ more))) t ∷ shut (other_flags (map (holds set) (cond a [] (n ∷ []) ++ more))) ts)
    ≡ cond a t (cond (holds set n) t (switched_off t)) ∷ shut (map (holds set) more) ts
shut_front set n t ts more true = refl
shut_front set n t ts more false = refl

-- the numbers that are left behind a term, and the terms
abbrev Left : (word : ℕ → ℕ) → List ℕ → ℕ → List Term → Type 0
Left word set n ts = Same word (kept_chain set n ts) (shut (flags set n ts) (clipped ts))

clip_case : (word : ℕ → ℕ) (set : List ℕ) (n : ℕ) (t : Term) (ts : List Term) → Left word set (after_term n t) ts → (u v : Bool) → is_used t.count ≡ u → is_endless t ≡ v
    → Same word (kept_term set n t ∷ kept_chain set (after_term n t) ts)
    (shut (map (holds set) (cond u (left_numbers (after_term n t) ts) (number_of n t ++ cond v [] (left_numbers (after_term n t) ts))))
    (up_to_endless (cond (not u) (t ∷ without_used ts) (without_used ts))))
clip_case word set n t ts s true v e f =
    same_then word _ (kept_chain set (after_term n t) ts) _ (without word (kept_term set n t) _ (used_kept set n t (is_off t.task) (holds set n) e)) s
clip_case word set n t ts s false true e f =
    let first = without_used ts in
    let one : up_to_endless (t ∷ first) ≡ t ∷ [] = ap (λ b. take (cond (not b) (1 + position_or_len is_endless first) 0 + 1) (t ∷ first)) f in
    let k = kept_term set n t in
    same_then word _ (k ∷ []) _
    (endless word k _ (endless_kept t (is_off t.task) (holds set n) (uncounted_is t.count (and_first (is_uncounted t.count) (eqb t.share 1000000) f))) (share_kept t (is_off t.task) (holds set n) (and_second (is_uncounted t.count) (eqb t.share 1000000) f)))
    (same_by word _ _ (sym (ap (shut (map (holds set) (number_of n t ++ []))) one ∙ shut_front set n t [] [] (is_off t.task))))
clip_case word set n t ts s false false e f =
    let first = without_used ts in
    let more : (1 + position_or_len is_endless first) + 1 ≡ suc (position_or_len is_endless first + 1) = omega arith in
    let one : up_to_endless (t ∷ first) ≡ t ∷ up_to_endless first =
    ap (λ b. take (cond (not b) (1 + position_or_len is_endless first) 0 + 1) (t ∷ first)) f ∙ ap (λ n. take n (t ∷ first)) more
    in
    let k = kept_term set n t in
    same_then word _ (k ∷ shut (flags set (after_term n t) ts) (clipped ts)) _ (under word k _ _ s)
    (same_by word _ _ (sym (ap (shut (map (holds set) (number_of n t ++ left_numbers (after_term n t) ts))) one ∙ shut_front set n t (up_to_endless first) (left_numbers (after_term n t) ts) (is_off t.task))))

clipped_same : (word : ℕ → ℕ) (set : List ℕ) (n : ℕ) (ts : List Term) → Left word set n ts
unfolding kept_chain
clipped_same word set n [] = same_self word []
clipped_same word set n (t ∷ ts) = clip_case word set n t ts (clipped_same word set (after_term n t) ts) (is_used t.count) (is_endless t) refl refl

-- ---- joined

-- behind a term, the same
shut_under : (word : ℕ → ℕ) (bs : List Bool) (t : Term) (c d : List Term) → ((fs : List Bool) → Same word (shut fs c) (shut fs d)) → Same word (shut bs (t ∷ c)) (shut bs (t ∷ d))
shut_under word bs t c d s = both (is_off t.task)
  where
    both : (a : Bool) → Same word (cond a (t ∷ shut bs c) (shut_term (first_flag bs) t ∷ shut (other_flags bs) c)) (cond a (t ∷ shut bs d) (shut_term (first_flag bs) t ∷ shut (other_flags bs) d))
    both true = under word t _ _ (s bs)
    both false = under word (shut_term (first_flag bs) t) _ _ (s (other_flags bs))

shut_off : (bs : List Bool) (t : Term) (c : List Term) → is_off t.task ≡ true → shut bs (t ∷ c) ≡ t ∷ shut bs c
shut_off bs t c e = ap (λ a. cond a (t ∷ shut bs c) (shut_term (first_flag bs) t ∷ shut (other_flags bs) c)) e

pub pair_off : (t u : Term) (n : ℕ) (b c : Bool) → is_idle t ≡ b → is_idle u ≡ c → cond (b && c) (joined_counts t.count u.count) None ≡ Some n → (is_off t.task ≡ true) × (is_off u.task ≡ true)
pair_off t u n true true it iu e = (and_first (is_off t.task) (eqb t.share 1000000) it, and_first (is_off u.task) (eqb u.share 1000000) iu)
pair_off t u n true false it iu e = absurd (cc)
pair_off t u n false c it iu e = absurd (cc)

join_case : (word : ℕ → ℕ) (t u : Term) (us : List Term) (o : Option ℕ) → joint t u ≡ o → ((fs : List Bool) → Same word (shut fs (joined_onto (with_count o t u) us)) (shut fs (with_count o t u ∷ us)))
    → (fs : List Bool) → Same word (shut fs (join_by o t (joined_onto (with_count o t u) us))) (shut fs (t ∷ u ∷ us))
join_case word t u us None e s fs = shut_under word fs t (joined_onto u us) (u ∷ us) s
join_case word t u us (Some n) e s fs =
    let offs = pair_off t u n (is_idle t) (is_idle u) refl refl e in
    let j : Term = record t { count = Some n } in
    same_then word _ _ _ (s fs)
    (same_then word _ (j ∷ shut fs us) _ (same_by word _ _ (shut_off fs j us offs.0))
    (same_then word _ (t ∷ u ∷ shut fs us) _ ((idle_pair word t u n (is_idle t) (is_idle u) refl refl e).one (shut fs us))
    (same_by word _ _ (sym (shut_off fs t (u ∷ us) offs.0 ∙ ap (λ l. t ∷ l) (shut_off fs u us offs.1))))))

onto_same : (word : ℕ → ℕ) (t : Term) (us : List Term) (fs : List Bool) → Same word (shut fs (joined_onto t us)) (shut fs (t ∷ us))
unfolding joined_onto
onto_same word t [] fs = same_self word (shut fs (t ∷ []))
onto_same word t (u ∷ us) fs = join_case word t u us (joint t u) refl (λ fs. onto_same word (with_count (joint t u) t u) us fs) fs

joined_shut : (word : ℕ → ℕ) (c : List Term) (fs : List Bool) → Same word (shut fs (joined c)) (shut fs c)
unfolding joined
joined_shut word [] fs = same_self word []
joined_shut word (t ∷ ts) fs = onto_same word t ts fs

-- ---- idle ends

one_more : (word : ℕ → ℕ) (w : List Term) (t : Term) (fs : List Bool) → is_idle t ≡ true → Same word (shut fs (w ++ t ∷ [])) (shut fs w)
one_more word [] t fs e =
    let o = and_first (is_off t.task) (eqb t.share 1000000) e in
    same_then word _ (t ∷ []) _ (same_by word _ _ (shut_off fs t [] o)) (idle word t (off_is t.task o) (and_second (is_off t.task) (eqb t.share 1000000) e))
one_more word (u ∷ w) t fs e = shut_under word fs u (w ++ t ∷ []) w (λ bs. one_more word w t bs e)

end_case : (word : ℕ → ℕ) (c : List Term) (fs : List Bool) (m : ℕ) → suc m ≤ length c → Same word (shut fs (take (m - suffix_len is_idle (take m c)) c)) (shut fs (take m c))
    → (b : Bool) → is_idle (get_or c m (off 0)) ≡ b → Same word (shut fs (take (suc m - suffix_len is_idle (take (suc m) c)) c)) (shut fs (take (suc m) c))
end_case word c fs m h s true e =
    let same : suffix_len is_idle (take (suc m) c) ≡ 1 + suffix_len is_idle (take m c) = suffix_len-take_yes is_idle c (suc m) (off 0) (omega arith) h (ap (λ k. is_idle (get_or c k (off 0))) (one_less m) ∙ e) ∙ ap (λ k. 1 + suffix_len is_idle (take k c)) (one_less m) in
    let less : suc m - suffix_len is_idle (take (suc m) c) ≡ m - suffix_len is_idle (take m c) = omega (arith, same) in
    same_then word _ (shut fs (take m c)) _ (same_then word _ _ _ (same_by word _ _ (ap (λ n. shut fs (take n c)) less)) s)
    (same_back word (shut fs (take (suc m) c)) (shut fs (take m c)) (same_then word _ (shut fs (take m c ++ get_or c m (off 0) ∷ [])) _ (same_by word _ _ (ap (shut fs) (take-suc c m (off 0) h))) (one_more word (take m c) (get_or c m (off 0)) fs e)))
end_case word c fs m h s false e =
    let same : suffix_len is_idle (take (suc m) c) ≡ 0 = suffix_len-take_no is_idle c (suc m) (off 0) (omega arith) h (ap (λ k. is_idle (get_or c k (off 0))) (one_less m) ∙ e) in
    let less : suc m - suffix_len is_idle (take (suc m) c) ≡ suc m = omega (arith, same) in
    same_by word _ _ (ap (λ n. shut fs (take n c)) less)

ends_at : (word : ℕ → ℕ) (c : List Term) (fs : List Bool) (n : ℕ) → n ≤ length c → Same word (shut fs (take (n - suffix_len is_idle (take n c)) c)) (shut fs (take n c))
ends_at word c fs zero h = let less : 0 - suffix_len is_idle (take 0 c) ≡ 0 = omega arith in same_by word _ _ (ap (λ n. shut fs (take n c)) less)
ends_at word c fs (suc m) h = end_case word c fs m h (ends_at word c fs m (omega arith)) (is_idle (get_or c m (off 0))) refl

ends_shut : (word : ℕ → ℕ) (c : List Term) (fs : List Bool) → Same word (shut fs (without_idle_end c)) (shut fs c)
ends_shut word c fs =
    let whole : take (length c) c ≡ c = take_all (length c) c (omega arith) in
    same_then word _ (shut fs (take (length c) c)) _
    (same_then word _ _ _ (same_by word _ _ (ap (λ x. shut fs (take (length c - suffix_len is_idle x) c)) (sym whole))) (ends_at word c fs (length c) (omega arith))) (same_by word _ _ (ap (shut fs) whole))

-- ---- whole chains and scenarios

pub kept_same : (word : ℕ → ℕ) (set : List ℕ) (n : ℕ) (c : List Term) → Same word (kept_chain set n c) (tidied_chain_with set n c)
unfolding tidied_chain
kept_same word set n c =
    let fs = flags set n c in
    same_then word _ (shut fs (clipped c)) _ (clipped_same word set n c)
    (same_back word (tidied_chain_with set n c) (shut fs (clipped c)) (same_then word _ (shut fs (joined (clipped c))) _ (ends_shut word (joined (clipped c)) fs) (joined_shut word (clipped c) fs)))

new_from : (set : List ℕ) (n : ℕ) (es : Entries) (name : List ℕ) → New name es → chain_of (tidied_from set n es) name ≡ []
new_from set n [] name h = refl
new_from set n (e ∷ es) name h = put_other name e.0 (tidied_chain_with set n e.1) (tidied_from set (after_chain n e.1) es) (nat_lt 0 (length (tidied_chain_with set n e.1))) (flipped e.0 name h.0) ∙ new_from set (after_chain n e.1) es name h.1

from_case : (word : ℕ → ℕ) (set : List ℕ) (n : ℕ) (e : List ℕ × List Term) (es : Entries) (name : List ℕ) → New e.0 es
    → Same word (chain_of (kept_from set (after_chain n e.1) es) name) (chain_of (tidied_from set (after_chain n e.1) es) name) → (b : Bool) → bytes_eq name e.0 ≡ b
    → Same word (cond b (kept_chain set n e.1) (chain_of (kept_from set (after_chain n e.1) es) name)) (chain_of (put e.0 (tidied_chain_with set n e.1) (tidied_from set (after_chain n e.1) es)) name)
from_case word set n e es name h s true q =
    let here : name ≡ e.0 = (bytes_eq-Decides name e.0).0 q in
    let none : chain_of (tidied_from set (after_chain n e.1) es) name ≡ [] = ap (chain_of (tidied_from set (after_chain n e.1) es)) here ∙ new_from set (after_chain n e.1) es e.0 h in
    same_then word _ _ _ (kept_same word set n e.1) (same_by word _ _ (sym (put_found name e.0 (tidied_chain_with set n e.1) (tidied_from set (after_chain n e.1) es) q none)))
from_case word set n e es name h s false q =
    same_then word _ _ _ s (same_by word _ _ (sym (put_other name e.0 (tidied_chain_with set n e.1) (tidied_from set (after_chain n e.1) es) (nat_lt 0 (length (tidied_chain_with set n e.1))) q)))

pub kept_of : (word : ℕ → ℕ) (set : List ℕ) (n : ℕ) (s : Entries) (name : List ℕ) → DistinctNames s → Same word (chain_of (kept_from set n s) name) (chain_of (tidied_from set n s) name)
unfolding kept_from
kept_of word set n [] name d = same_self word []
kept_of word set n (e ∷ es) name d = from_case word set n e es name d.0 (kept_of word set (after_chain n e.1) es name d.1) (bytes_eq name e.0) refl
