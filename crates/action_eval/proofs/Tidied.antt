-- A tidied chain does what the chain does.
use Rattle.std.proofs.Common.{◌≡◌, ℕ, zero, suc, ◌+◌, ◌-◌, ◌≤◌, Bool, true, false, cond, eqb, nat_lt, not, ◌&&◌, List, [], ◌∷◌, ◌++◌, Option, Some, None, refl, ap, sym, ◌∙◌, arith, take, length, get_or}
use Rattle.std.specs.List.{suffix_len, position_or_len}
use Rattle.std.proofs.lemmas.Bool.Decides.{nat_tests}
use Rattle.std.proofs.lemmas.List.Sums.{suffix_len-take_yes, suffix_len-take_no}
use Rattle.std.proofs.lemmas.List.{take_all}
use Rattle.std.proofs.Math.Seq.{take-suc}
use Rattle.scenario_values.specs.declared.term.Term.{Term}
use Rattle.scenario_values.specs.declared.term.Task.{Task}
use Rattle.scenario_values.specs.declared.term.Task.TheVariants as task
use Rattle.scenario_values.specs.Scenario.{is_off}
use Rattle.scenario_values.specs.Tidied.{is_used, is_idle, is_endless, is_uncounted, joined_counts, joint, join_by, with_count, joined_onto, joined, without_used, up_to_endless, without_idle_end, tidied_chain}
use Rattle.action_eval.proofs.Machine.{Same}
use Rattle.action_eval.proofs.Chains.{same_self, same_back, same_then, same_by, under, without, endless, idle, off, joined_offs}

used_case : (word : ℕ → ℕ) (t : Term) (c d : List Term) → Same word d c → (b : Bool) → is_used t.count ≡ b → Same word (cond (not b) (t ∷ d) d) (t ∷ c)
used_case word t c d s true e = same_then word d c (t ∷ c) s (same_back word (t ∷ c) c (without word t c e))
used_case word t c d s false e = under word t d c s

pub without_used_same : (word : ℕ → ℕ) (c : List Term) → Same word (without_used c) c
without_used_same word [] = same_self word []
without_used_same word (t ∷ ts) = used_case word t ts (without_used ts) (without_used_same word ts) (is_used t.count) refl

pub and_first : (b c : Bool) → (b && c) ≡ true → b ≡ true
and_first true c e = refl
and_first false c e = cc

pub and_second : (b c : Bool) → (b && c) ≡ true → c ≡ true
and_second true c e = e
and_second false c e = cc

pub uncounted_is : (o : Option ℕ) → is_uncounted o ≡ true → o ≡ None
uncounted_is None e = refl
uncounted_is (Some n) e = cc

pub off_is : (k : Task) → is_off k ≡ true → k ≡ task.Off
off_is task.Off e = refl
off_is (task.Return x) e = cc
off_is (task.Sleep x) e = cc
off_is (task.Panic x) e = cc
off_is (task.Print x) e = cc
off_is task.Pause e = cc
off_is task.Yield e = cc
off_is (task.Delay x) e = cc

endless_case : (word : ℕ → ℕ) (t : Term) (ts : List Term) (k : ℕ) → Same word (take (k + 1) ts) ts → (b : Bool) → is_endless t ≡ b → Same word (take (cond (not b) (1 + k) 0 + 1) (t ∷ ts)) (t ∷ ts)
endless_case word t ts k s true e =
    same_back word (t ∷ ts) (t ∷ []) (endless word t ts (uncounted_is t.count (and_first (is_uncounted t.count) (eqb t.share 1000000) e)) (and_second (is_uncounted t.count) (eqb t.share 1000000) e))
endless_case word t ts k s false e =
    let more : (1 + k) + 1 ≡ suc (k + 1) = omega arith in
    same_then word _ (t ∷ take (k + 1) ts) _ (same_by word _ _ (ap (λ n. take n (t ∷ ts)) more)) (under word t _ ts s)

pub up_to_endless_same : (word : ℕ → ℕ) (c : List Term) → Same word (up_to_endless c) c
up_to_endless_same word [] = same_self word []
up_to_endless_same word (t ∷ ts) = endless_case word t ts (position_or_len is_endless ts) (up_to_endless_same word ts) (is_endless t) refl

-- ---- joined

million : (s : ℕ) → eqb s 1000000 ≡ true → s ≡ 1000000
million s e = grind (arith, nat_tests)

idle_is : (t : Term) (m : ℕ) → is_idle t ≡ true → t.count ≡ Some m → t ≡ off m
idle_is t m e c =
    ap (λ x. let u : Term = record { share = x; count = t.count; task = t.task } in u) (million t.share (and_second (is_off t.task) (eqb t.share 1000000) e))
    ∙ ap (λ x. let u : Term = record { share = 1000000; count = x; task = t.task } in u) c
    ∙ ap (λ x. let u : Term = record { share = 1000000; count = Some m; task = x } in u) (off_is t.task (and_first (is_off t.task) (eqb t.share 1000000) e))

pub record Joins (word : ℕ → ℕ) (t u : Term) (n : ℕ) : Type 0 where
  pub one : (c : List Term) → Same word (record t { count = Some n } ∷ c) (t ∷ u ∷ c)

joins_offs : (word : ℕ → ℕ) (t u : Term) (m k n : ℕ) → t ≡ off m → u ≡ off k → n ≡ m + k → Joins word t u n
joins_offs word t u m k n et eu en = record {
  one = λ c. same_then word (record t { count = Some n } ∷ c) (off (m + k) ∷ c) (t ∷ u ∷ c)
      (same_by word _ _ (ap (λ (x : Term). record x { count = Some n } ∷ c) et ∙ ap (λ x. off x ∷ c) en))
      (same_back word (t ∷ u ∷ c) (off (m + k) ∷ c) (same_then word (t ∷ u ∷ c) (off m ∷ off k ∷ c) (off (m + k) ∷ c) (same_by word _ _ (ap (λ (x : Term). x ∷ u ∷ c) et ∙ ap (λ (x : Term). off m ∷ x ∷ c) eu)) (joined_offs word m k c)));
}

some_is : (m k n : ℕ) (b : Bool) → cond b None (Some (m + k)) ≡ Some n → n ≡ m + k
some_is m k n true e = cc
some_is m k n false e = cc

counts_case : (word : ℕ → ℕ) (t u : Term) (n : ℕ) → is_idle t ≡ true → is_idle u ≡ true → (o p : Option ℕ) → t.count ≡ o → u.count ≡ p → joined_counts o p ≡ Some n → Joins word t u n
counts_case word t u n it iu None None eo ep e = absurd (cc)
counts_case word t u n it iu None (Some k) eo ep e = absurd (cc)
counts_case word t u n it iu (Some m) None eo ep e = absurd (cc)
counts_case word t u n it iu (Some m) (Some k) eo ep e = joins_offs word t u m k n (idle_is t m it eo) (idle_is u k iu ep) (some_is m k n (nat_lt 4294967295 (m + k)) e)

pub idle_pair : (word : ℕ → ℕ) (t u : Term) (n : ℕ) (b c : Bool) → is_idle t ≡ b → is_idle u ≡ c → cond (b && c) (joined_counts t.count u.count) None ≡ Some n → Joins word t u n
idle_pair word t u n true true it iu e = counts_case word t u n it iu t.count u.count refl refl e
idle_pair word t u n true false it iu e = absurd (cc)
idle_pair word t u n false c it iu e = absurd (cc)

join_case : (word : ℕ → ℕ) (t u : Term) (us : List Term) (o : Option ℕ) → joint t u ≡ o → Same word (joined_onto (with_count o t u) us) (with_count o t u ∷ us) → Same word (join_by o t (joined_onto (with_count o t u) us)) (t ∷ u ∷ us)
join_case word t u us None e s = under word t _ _ s
join_case word t u us (Some n) e s = same_then word _ _ _ s ((idle_pair word t u n (is_idle t) (is_idle u) refl refl e).one us)

joined_onto_same : (word : ℕ → ℕ) (t : Term) (us : List Term) → Same word (joined_onto t us) (t ∷ us)
unfolding joined_onto
joined_onto_same word t [] = same_self word (t ∷ [])
joined_onto_same word t (u ∷ us) = join_case word t u us (joint t u) refl (joined_onto_same word (with_count (joint t u) t u) us)

pub joined_same : (word : ℕ → ℕ) (c : List Term) → Same word (joined c) c
unfolding joined
joined_same word [] = same_self word []
joined_same word (t ∷ ts) = joined_onto_same word t ts

-- ---- idle ends

one_more : (word : ℕ → ℕ) (w : List Term) (t : Term) → is_idle t ≡ true → Same word (w ++ t ∷ []) w
one_more word [] t e = idle word t (off_is t.task (and_first (is_off t.task) (eqb t.share 1000000) e)) (and_second (is_off t.task) (eqb t.share 1000000) e)
one_more word (u ∷ w) t e = under word u _ _ (one_more word w t e)

pub one_less : (m : ℕ) → suc m - 1 ≡ m
one_less m = omega arith

end_case : (word : ℕ → ℕ) (c : List Term) (m : ℕ) → suc m ≤ length c → Same word (take (m - suffix_len is_idle (take m c)) c) (take m c)
    → (b : Bool) → is_idle (get_or c m (off 0)) ≡ b → Same word (take (suc m - suffix_len is_idle (take (suc m) c)) c) (take (suc m) c)
end_case word c m h s true e =
    let same : suffix_len is_idle (take (suc m) c) ≡ 1 + suffix_len is_idle (take m c) = suffix_len-take_yes is_idle c (suc m) (off 0) (omega arith) h (ap (λ k. is_idle (get_or c k (off 0))) (one_less m) ∙ e) ∙ ap (λ k. 1 + suffix_len is_idle (take k c)) (one_less m) in
    let less : suc m - suffix_len is_idle (take (suc m) c) ≡ m - suffix_len is_idle (take m c) = omega (arith, same) in
    same_then word _ (take m c) _ (same_then word _ _ _ (same_by word _ _ (ap (λ n. take n c) less)) s)
    (same_back word (take (suc m) c) (take m c) (same_then word _ (take m c ++ get_or c m (off 0) ∷ []) _ (same_by word _ _ (take-suc c m (off 0) h)) (one_more word (take m c) (get_or c m (off 0)) e)))
end_case word c m h s false e =
    let same : suffix_len is_idle (take (suc m) c) ≡ 0 = suffix_len-take_no is_idle c (suc m) (off 0) (omega arith) h (ap (λ k. is_idle (get_or c k (off 0))) (one_less m) ∙ e) in
    let less : suc m - suffix_len is_idle (take (suc m) c) ≡ suc m = omega (arith, same) in
    same_by word _ _ (ap (λ n. take n c) less)

ends_at : (word : ℕ → ℕ) (c : List Term) (n : ℕ) → n ≤ length c → Same word (take (n - suffix_len is_idle (take n c)) c) (take n c)
ends_at word c zero h = let less : 0 - suffix_len is_idle (take 0 c) ≡ 0 = omega arith in same_by word _ _ (ap (λ n. take n c) less)
ends_at word c (suc m) h = end_case word c m h (ends_at word c m (omega arith)) (is_idle (get_or c m (off 0))) refl

pub without_idle_end_same : (word : ℕ → ℕ) (c : List Term) → Same word (without_idle_end c) c
without_idle_end_same word c =
    let whole : take (length c) c ≡ c = take_all (length c) c (omega arith) in
    same_then word _ (take (length c) c) _ (same_then word _ _ _ (same_by word _ _ (ap (λ x. take (length c - suffix_len is_idle x) c) (sym whole))) (ends_at word c (length c) (omega arith))) (same_by word _ _ whole)

pub tidied_same : (word : ℕ → ℕ) (c : List Term) → Same word (tidied_chain c) c
unfolding tidied_chain
tidied_same word c =
    same_then word _ _ _ (without_idle_end_same word (joined (up_to_endless (without_used c))))
    (same_then word _ _ _ (joined_same word (up_to_endless (without_used c))) (same_then word _ _ _ (up_to_endless_same word (without_used c)) (without_used_same word c)))
