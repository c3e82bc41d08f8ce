-- A tidied scenario is left as it is by tidying. Each of the steps leaves what the later ones leave: terms of count 0 aren't made by
-- joining, a joined term has a count, and a term that couldn't be joined into the one before it can't be once it has grown.
use Rattle.std.proofs.Common.{◌≡◌, ℕ, suc, ◌+◌, ◌-◌, List, [], ◌∷◌, ◌++◌, Bool, true, false, ◌&&◌, not, eqb, ltb, cond, length, take, reverse, Option, Some, None, refl, ap, sym, ◌∙◌, arith, subst}
use Rattle.std.specs.List.{AllByRecursion, list_all, prefix_len, suffix_len, position_or_len}
use Rattle.std.proofs.lemmas.Bool.Decides.{nat_tests}
use Rattle.std.proofs.lemmas.List.{reverse-append, length-reverse}
use Rattle.std.proofs.lemmas.List.Folds.{list_all-append}
use Rattle.std.proofs.lemmas.List.Sums.{suffix_len-le-length}
use Rattle.scenario_values.specs.declared.term.Term.{Term}
use Rattle.scenario_values.specs.Scenario.{Entries}
use Rattle.scenario_values.specs.Tidied.{is_used, is_live, is_endless, is_idle, joined_counts, joint, join_by, with_count, joined_onto, joined, without_used, up_to_endless, without_idle_end, tidied_chain, put, tidied}
use Rattle.answer_text.specs.inside.Tidy.{is_tidy, is_tidy_chain, is_tidy_from, leads_to}

-- ---- what a join says of its terms

record Joint (t u : Term) (n : ℕ) : Type 0 where
  first : ℕ
  second : ℕ
  idle : is_idle t ≡ true
  count_is : t.count ≡ Some first
  sum_is : n ≡ first + second

some_number : (m n : ℕ) → Some m ≡ Some n → m ≡ n
some_number m n e = cc

both : (a b : Bool) → (a && b) ≡ true → (a ≡ true) × (b ≡ true)
both true b h = (refl, h)
both false b h = absurd cc

counts_give : (a b : Option ℕ) (n : ℕ) → joined_counts a b ≡ Some n → (x : ℕ) × (y : ℕ) × (a ≡ Some x) × (n ≡ x + y)
counts_give None None n h = absurd cc
counts_give None (Some y) n h = absurd cc
counts_give (Some x) None n h = absurd cc
counts_give (Some x) (Some y) n h = (x, y, refl, by_test (ltb 4294967295 (x + y)) h)
  where
    by_test : (t : Bool) → cond t None (Some (x + y)) ≡ Some n → n ≡ x + y
    by_test true e = absurd cc
    by_test false e = sym (some_number (x + y) n e)

joint_gives : (t u : Term) (n : ℕ) → joint t u ≡ Some n → Joint t u n
joint_gives t u n h = by_test (is_idle t) (is_idle u) refl h
  where
    by_test : (a b : Bool) → is_idle t ≡ a → cond (a && b) (joined_counts t.count u.count) None ≡ Some n → Joint t u n
    by_test true true e k = let c = counts_give t.count u.count n k in record { first = c.0; second = c.1; idle = e; count_is = c.2; sum_is = c.3 }
    by_test true false e k = absurd cc
    by_test false b e k = absurd cc

-- ---- neighbours that aren't joined

abbrev Apart : List Term → Type 0
Apart [] = Unit {0}
Apart (t ∷ []) = Unit {0}
Apart (t ∷ u ∷ us) = (joint t u ≡ None) × Apart (u ∷ us)

more_over : (q m k : ℕ) → ltb 4294967295 (q + m) ≡ true → ltb 4294967295 (q + (m + k)) ≡ true
more_over q m k h = grind (arith, nat_tests)

counts_grow : (a : Option ℕ) (m k : ℕ) → joined_counts a (Some m) ≡ None → joined_counts a (Some (m + k)) ≡ None
counts_grow None m k h = refl
counts_grow (Some q) m k h = by_test (ltb 4294967295 (q + m)) refl h
  where
    by_test : (t : Bool) → ltb 4294967295 (q + m) ≡ t → cond t None (Some (q + m)) ≡ None → joined_counts (Some q) (Some (m + k)) ≡ None
    by_test true e h = rw (more_over q m k e) refl
    by_test false e h = absurd cc

joint_grows : (p t u : Term) (n : ℕ) → joint t u ≡ Some n → joint p t ≡ None → joint p (record t { count = Some n }) ≡ None
joint_grows p t u n h none = by_idle (is_idle p) (is_idle t) none
  where
    j : Joint t u n
    j = joint_gives t u n h

    by_idle : (a b : Bool) → cond (a && b) (joined_counts p.count t.count) None ≡ None → cond (a && b) (joined_counts p.count (Some n)) None ≡ None
    by_idle true true e =
        let P : ℕ → Type 0 = λ k. joined_counts p.count (Some k) ≡ None in
        let Q : Option ℕ → Type 0 = λ o. joined_counts p.count o ≡ None in
        subst P (sym j.sum_is) (counts_grow p.count j.first j.second (subst Q j.count_is e))
    by_idle true false e = refl
    by_idle false b e = refl

record Joined (t : Term) (out : List Term) : Type 0 where
  head : Term
  rest : List Term
  is : out ≡ head ∷ rest
  apart : Apart (head ∷ rest)
  keeps : (p : Term) → joint p t ≡ None → joint p head ≡ None

joined_gives : (t : Term) (us : List Term) → Joined t (joined_onto t us)
unfolding joined_onto
joined_gives t [] = record { head = t; rest = []; is = refl; apart = tt; keeps = λ p h. h }
joined_gives t (u ∷ us) = by_joint (joint t u) refl (joined_gives u us) (λ n. joined_gives (record t { count = Some n }) us)
  where
    by_joint : (o : Option ℕ) → joint t u ≡ o → Joined u (joined_onto u us) → ((n : ℕ) → Joined (record t { count = Some n }) (joined_onto (record t { count = Some n }) us))
        → Joined t (join_by o t (joined_onto (with_count o t u) us))
    by_joint None e j grown = record { head = t; rest = j.head ∷ j.rest; is = ap (λ (r : List Term). t ∷ r) j.is; apart = (j.keeps t e, j.apart); keeps = λ p h. h }
    by_joint (Some n) e j grown =
        let g = grown n in
        record { head = g.head; rest = g.rest; is = g.is; apart = g.apart; keeps = λ p h. g.keeps p (joint_grows p t u n e h) }

joined_same : (t : Term) (us : List Term) → Apart (t ∷ us) → joined_onto t us ≡ t ∷ us
unfolding joined_onto
joined_same t [] h = refl
joined_same t (u ∷ us) h = rw h.0 (ap (λ (r : List Term). t ∷ r) (joined_same u us h.1))

all_joined : (ts : List Term) → Apart (joined ts)
unfolding joined
all_joined [] = tt
all_joined (t ∷ ts) = let j = joined_gives t ts in subst Apart (sym j.is) j.apart

joined_again : (ts : List Term) → Apart ts → joined ts ≡ ts
unfolding joined
joined_again [] h = refl
joined_again (t ∷ ts) h = joined_same t ts h

-- ---- no term of count 0

abbrev AllLive : List Term → Type 0
AllLive ts = AllByRecursion (λ t. is_live t ≡ true) ts

kept_live : (ts : List Term) → AllLive (without_used ts)
kept_live [] = tt
kept_live (t ∷ ts) = by_test (is_live t) refl (kept_live ts)
  where
    by_test : (b : Bool) → is_live t ≡ b → AllLive (without_used ts) → AllLive (cond b (t ∷ without_used ts) (without_used ts))
    by_test true e h = (e, h)
    by_test false e h = h

all_live : (ts : List Term) → AllLive ts → without_used ts ≡ ts
all_live [] h = refl
all_live (t ∷ ts) h = rw h.0 (ap (λ (r : List Term). t ∷ r) (all_live ts h.1))

live_sum : (m k : ℕ) → not (eqb m 0) ≡ true → not (eqb (m + k) 0) ≡ true
live_sum m k h = grind (arith, nat_tests)

live_grows : (t u : Term) (n : ℕ) → joint t u ≡ Some n → is_live t ≡ true → not (eqb n 0) ≡ true
live_grows t u n h live =
    let j = joint_gives t u n h in
    let P : Option ℕ → Type 0 = λ o. not (is_used o) ≡ true in
    let first : not (eqb j.first 0) ≡ true = subst P j.count_is live in
    rw j.sum_is (live_sum j.first j.second first)

joined_live : (t : Term) (us : List Term) → is_live t ≡ true → AllLive us → AllLive (joined_onto t us)
unfolding joined_onto
joined_live t [] live h = (live, tt)
joined_live t (u ∷ us) live h = by_joint (joint t u) refl (joined_live u us h.0 h.1) (λ n l. joined_live (record t { count = Some n }) us l h.1)
  where
    by_joint : (o : Option ℕ) → joint t u ≡ o → AllLive (joined_onto u us) → ((n : ℕ) → not (eqb n 0) ≡ true → AllLive (joined_onto (record t { count = Some n }) us))
        → AllLive (join_by o t (joined_onto (with_count o t u) us))
    by_joint None e rest grown = (live, rest)
    by_joint (Some n) e rest grown = grown n (live_grows t u n e live)

all_joined_live : (ts : List Term) → AllLive ts → AllLive (joined ts)
unfolding joined
all_joined_live [] h = tt
all_joined_live (t ∷ ts) h = joined_live t ts h.0 h.1

-- ---- at most the last term is endless

abbrev EndsOnly : List Term → Type 0
EndsOnly [] = Unit {0}
EndsOnly (t ∷ []) = Unit {0}
EndsOnly (t ∷ u ∷ us) = (is_endless t ≡ false) × EndsOnly (u ∷ us)

ends_cons : (t : Term) (us : List Term) → is_endless t ≡ false → EndsOnly us → EndsOnly (t ∷ us)
ends_cons t [] e h = tt
ends_cons t (u ∷ us) e h = (e, h)

ends_tail : (t : Term) (us : List Term) → EndsOnly (t ∷ us) → EndsOnly us
ends_tail t [] h = tt
ends_tail t (u ∷ us) h = h.1

cut_at_end : (t : Term) (ts : List Term) (b : Bool) → take (cond (not b) (1 + position_or_len is_endless ts) 0 + 1) (t ∷ ts) ≡ cond b (t ∷ []) (t ∷ up_to_endless ts)
cut_at_end t ts true = refl
cut_at_end t ts false =
    let e : 1 + position_or_len is_endless ts + 1 ≡ suc (position_or_len is_endless ts + 1) = omega arith in
    ap (λ (k : ℕ). take k (t ∷ ts)) e

up_to_ends : (ts : List Term) → EndsOnly (up_to_endless ts)
up_to_ends [] = tt
up_to_ends (t ∷ ts) = subst EndsOnly (sym (cut_at_end t ts (is_endless t))) (by_test (is_endless t) refl (up_to_ends ts))
  where
    by_test : (b : Bool) → is_endless t ≡ b → EndsOnly (up_to_endless ts) → EndsOnly (cond b (t ∷ []) (t ∷ up_to_endless ts))
    by_test true e h = tt
    by_test false e h = ends_cons t (up_to_endless ts) e h

up_to_same : (ts : List Term) → EndsOnly ts → up_to_endless ts ≡ ts
up_to_same [] h = refl
up_to_same (t ∷ []) h = cut_at_end t [] (is_endless t) ∙ by_test (is_endless t)
  where
    by_test : (b : Bool) → cond b (t ∷ []) (t ∷ up_to_endless []) ≡ t ∷ []
    by_test true = refl
    by_test false = refl
up_to_same (t ∷ u ∷ us) h =
    cut_at_end t (u ∷ us) (is_endless t) ∙ ap (λ (b : Bool). cond b (t ∷ []) (t ∷ up_to_endless (u ∷ us))) h.0
    ∙ ap (λ (r : List Term). t ∷ r) (up_to_same (u ∷ us) h.1)

up_to_live : (ts : List Term) → AllLive ts → AllLive (up_to_endless ts)
up_to_live [] h = tt
up_to_live (t ∷ ts) h = subst AllLive (sym (cut_at_end t ts (is_endless t))) (by_test (is_endless t) (up_to_live ts h.1))
  where
    by_test : (b : Bool) → AllLive (up_to_endless ts) → AllLive (cond b (t ∷ []) (t ∷ up_to_endless ts))
    by_test true k = (h.0, tt)
    by_test false k = (h.0, k)

joined_ends : (t : Term) (us : List Term) → EndsOnly (t ∷ us) → EndsOnly (joined_onto t us)
unfolding joined_onto
joined_ends t [] h = tt
joined_ends t (u ∷ us) h = by_joint (joint t u) (joined_ends u us h.1) (λ n. joined_ends (record t { count = Some n }) us (ends_cons (record t { count = Some n }) us refl (ends_tail u us h.1)))
  where
    by_joint : (o : Option ℕ) → EndsOnly (joined_onto u us) → ((n : ℕ) → EndsOnly (joined_onto (record t { count = Some n }) us))
        → EndsOnly (join_by o t (joined_onto (with_count o t u) us))
    by_joint None rest grown = ends_cons t (joined_onto u us) h.0 rest
    by_joint (Some n) rest grown = grown n

all_joined_ends : (ts : List Term) → EndsOnly ts → EndsOnly (joined ts)
unfolding joined
all_joined_ends [] h = tt
all_joined_ends (t ∷ ts) h = joined_ends t ts h

-- ---- the end without idle terms

front_or_all : (p : Term → Bool) (ts : List Term) (x : Term) → prefix_len p (ts ++ x ∷ []) ≡ cond (list_all p ts) (length ts + cond (p x) 1 0) (prefix_len p ts)
front_or_all p [] x = by_test (p x)
  where
    by_test : (b : Bool) → cond b (1 + 0) 0 ≡ 0 + cond b 1 0
    by_test true = refl
    by_test false = refl
front_or_all p (t ∷ ts) x = by_test (p t) (list_all p ts) (front_or_all p ts x)
  where
    by_test : (b a : Bool) → prefix_len p (ts ++ x ∷ []) ≡ cond a (length ts + cond (p x) 1 0) (prefix_len p ts)
        → cond b (1 + prefix_len p (ts ++ x ∷ [])) 0 ≡ cond (b && a) (suc (length ts) + cond (p x) 1 0) (cond b (1 + prefix_len p ts) 0)
    by_test true true e = rw e (omega arith)
    by_test true false e = rw e refl
    by_test false a e = refl

all_push : (ts : List Term) (t : Term) → list_all is_idle (ts ++ t ∷ []) ≡ (is_idle t && list_all is_idle ts)
all_push ts t = list_all-append is_idle ts (t ∷ []) ∙ turn (is_idle t) (list_all is_idle ts)
  where
    turn : (a b : Bool) → (b && (a && true)) ≡ (a && b)
    turn true true = refl
    turn true false = refl
    turn false true = refl
    turn false false = refl

all_reversed : (ts : List Term) → list_all is_idle (reverse ts) ≡ list_all is_idle ts
all_reversed [] = refl
all_reversed (t ∷ ts) =
    ap (list_all is_idle) (reverse-append (t ∷ []) ts)
    ∙ all_push (reverse ts) t
    ∙ ap (λ (b : Bool). is_idle t && b) (all_reversed ts)

suffix_cons : (t : Term) (ts : List Term) → suffix_len is_idle (t ∷ ts) ≡ cond (list_all is_idle ts) (length ts + cond (is_idle t) 1 0) (suffix_len is_idle ts)
suffix_cons t ts =
    ap (prefix_len is_idle) (reverse-append (t ∷ []) ts)
    ∙ front_or_all is_idle (reverse ts) t
    ∙ ap (λ (b : Bool). cond b (length (reverse ts) + cond (is_idle t) 1 0) (suffix_len is_idle ts)) (all_reversed ts)
    ∙ ap (λ (n : ℕ). cond (list_all is_idle ts) (n + cond (is_idle t) 1 0) (suffix_len is_idle ts)) (length-reverse ts)

suffix_all : (ts : List Term) → list_all is_idle ts ≡ true → suffix_len is_idle ts ≡ length ts
suffix_all [] h = refl
suffix_all (t ∷ ts) h =
    let p = both (is_idle t) (list_all is_idle ts) h in
    suffix_cons t ts ∙ rw (p.1, p.0) (omega arith)

end_cons : (t : Term) (ts : List Term) → without_idle_end (t ∷ ts) ≡ cond (is_idle t && list_all is_idle ts) [] (t ∷ without_idle_end ts)
end_cons t ts = ap (λ (k : ℕ). take (suc (length ts) - k) (t ∷ ts)) (suffix_cons t ts) ∙ by_test (list_all is_idle ts) (is_idle t) (suffix_all ts)
  where
    by_test : (a b : Bool) → (a ≡ true → suffix_len is_idle ts ≡ length ts)
        → take (suc (length ts) - cond a (length ts + cond b 1 0) (suffix_len is_idle ts)) (t ∷ ts) ≡ cond (b && a) [] (t ∷ without_idle_end ts)
    by_test true true all = let e : suc (length ts) - (length ts + 1) ≡ 0 = omega arith in ap (λ (k : ℕ). take k (t ∷ ts)) e
    by_test true false all =
        let e : suc (length ts) - (length ts + 0) ≡ suc (length ts - suffix_len is_idle ts) = let s = all refl in omega arith in
        ap (λ (k : ℕ). take k (t ∷ ts)) e
    by_test false b all =
        let le = suffix_len-le-length is_idle ts in
        let e : suc (length ts) - suffix_len is_idle ts ≡ suc (length ts - suffix_len is_idle ts) = omega arith in
        ap (λ (k : ℕ). take k (t ∷ ts)) e ∙ by_first b
      where
        by_first : (b : Bool) → t ∷ without_idle_end ts ≡ cond (b && false) [] (t ∷ without_idle_end ts)
        by_first true = refl
        by_first false = refl

-- what is left is all idle just where the whole was
end_idle : (ts : List Term) → list_all is_idle (without_idle_end ts) ≡ true → list_all is_idle ts ≡ true
end_idle [] h = refl
end_idle (t ∷ ts) h = by_test (is_idle t) (list_all is_idle ts) refl refl (end_idle ts) (ap (list_all is_idle) (sym (end_cons t ts)) ∙ h)
  where
    by_test : (a b : Bool) → is_idle t ≡ a → list_all is_idle ts ≡ b → (list_all is_idle (without_idle_end ts) ≡ true → list_all is_idle ts ≡ true)
        → list_all is_idle (cond (a && b) [] (t ∷ without_idle_end ts)) ≡ true → (is_idle t && list_all is_idle ts) ≡ true
    by_test true true e f ih k = rw (e, f) refl
    by_test true false e f ih k = let p = both (is_idle t) (list_all is_idle (without_idle_end ts)) k in rw e (ih p.1)
    by_test false b e f ih k = let p = both (is_idle t) (list_all is_idle (without_idle_end ts)) k in absurd (cc (e, p.0))

end_again : (ts : List Term) → without_idle_end (without_idle_end ts) ≡ without_idle_end ts
end_again [] = refl
end_again (t ∷ ts) = ap without_idle_end (end_cons t ts) ∙ by_test (is_idle t && list_all is_idle ts) refl (end_again ts) ∙ sym (end_cons t ts)
  where
    by_left : (c : Bool) → (is_idle t && list_all is_idle (without_idle_end ts)) ≡ c → (is_idle t && list_all is_idle ts) ≡ false → without_idle_end (without_idle_end ts) ≡ without_idle_end ts
        → cond c [] (t ∷ without_idle_end (without_idle_end ts)) ≡ t ∷ without_idle_end ts
    by_left true e f ih =
        let p = both (is_idle t) (list_all is_idle (without_idle_end ts)) e in
        let q : (is_idle t && list_all is_idle ts) ≡ true = rw (p.0, end_idle ts p.1) refl in
        absurd (cc (q, f))
    by_left false e f ih = ap (λ (r : List Term). t ∷ r) ih

    by_test : (b : Bool) → (is_idle t && list_all is_idle ts) ≡ b → without_idle_end (without_idle_end ts) ≡ without_idle_end ts
        → without_idle_end (cond b [] (t ∷ without_idle_end ts)) ≡ cond b [] (t ∷ without_idle_end ts)
    by_test true e ih = refl
    by_test false e ih = end_cons t (without_idle_end ts) ∙ by_left (is_idle t && list_all is_idle (without_idle_end ts)) refl e ih

-- ---- the end taken off keeps the rest

end_live : (ts : List Term) → AllLive ts → AllLive (without_idle_end ts)
end_live [] h = tt
end_live (t ∷ ts) h = subst AllLive (sym (end_cons t ts)) (by_test (is_idle t && list_all is_idle ts) (end_live ts h.1))
  where
    by_test : (b : Bool) → AllLive (without_idle_end ts) → AllLive (cond b [] (t ∷ without_idle_end ts))
    by_test true k = tt
    by_test false k = (h.0, k)

-- a fact of each element and the next is kept by a list that begins alike
end_ends : (ts : List Term) → EndsOnly ts → EndsOnly (without_idle_end ts)
end_ends [] h = tt
end_ends (t ∷ []) h = subst EndsOnly (sym (end_cons t [])) (by_test (is_idle t && true))
  where
    by_test : (b : Bool) → EndsOnly (cond b [] (t ∷ []))
    by_test true = tt
    by_test false = tt
end_ends (t ∷ u ∷ us) h = subst EndsOnly (sym (end_cons t (u ∷ us))) (by_test (is_idle t && list_all is_idle (u ∷ us)) (end_ends (u ∷ us) h.1))
  where
    by_test : (b : Bool) → EndsOnly (without_idle_end (u ∷ us)) → EndsOnly (cond b [] (t ∷ without_idle_end (u ∷ us)))
    by_test true k = tt
    by_test false k = ends_cons t (without_idle_end (u ∷ us)) h.0 k

end_apart : (ts : List Term) → Apart ts → Apart (without_idle_end ts)
end_apart [] h = tt
end_apart (t ∷ []) h = subst Apart (sym (end_cons t [])) (by_test (is_idle t && true))
  where
    by_test : (b : Bool) → Apart (cond b [] (t ∷ []))
    by_test true = tt
    by_test false = tt
end_apart (t ∷ u ∷ us) h = subst Apart (sym (end_cons t (u ∷ us))) (by_test (is_idle t && list_all is_idle (u ∷ us)) (end_apart (u ∷ us) h.1))
  where
    by_next : (c : Bool) → Apart (cond c [] (u ∷ without_idle_end us)) → Apart (t ∷ cond c [] (u ∷ without_idle_end us))
    by_next true k = tt
    by_next false k = (h.0, k)

    by_test : (b : Bool) → Apart (without_idle_end (u ∷ us)) → Apart (cond b [] (t ∷ without_idle_end (u ∷ us)))
    by_test true k = tt
    by_test false k =
        let P : List Term → Type 0 = λ r. Apart (t ∷ r) in
        subst P (sym (end_cons u us)) (by_next (is_idle u && list_all is_idle us) (subst Apart (end_cons u us) k))

-- ---- all steps

pub chain_again : (ts : List Term) → tidied_chain (tidied_chain ts) ≡ tidied_chain ts
unfolding tidied_chain
chain_again ts =
    let a : List Term = up_to_endless (without_used ts) in
    let c : List Term = without_idle_end (joined a) in
    let live : AllLive c = end_live (joined a) (all_joined_live a (up_to_live (without_used ts) (kept_live ts))) in
    let ends : EndsOnly c = end_ends (joined a) (all_joined_ends a (up_to_ends (without_used ts))) in
    let apart : Apart c = end_apart (joined a) (all_joined a) in
    ap (λ (x : List Term). without_idle_end (joined (up_to_endless x))) (all_live c live)
    ∙ ap (λ (x : List Term). without_idle_end (joined x)) (up_to_same c ends)
    ∙ ap without_idle_end (joined_again c apart)
    ∙ end_again (joined a)

put_again : (name : List ℕ) (chain : List Term) (es : Entries) → tidied_chain chain ≡ chain → tidied es ≡ es → tidied (put name chain es) ≡ put name chain es
put_again name chain es e f = by_test (ltb 0 (length chain)) refl
  where
    by_test : (b : Bool) → ltb 0 (length chain) ≡ b → tidied (cond b ((name, chain) ∷ es) es) ≡ cond b ((name, chain) ∷ es) es
    by_test true k = rw (e, k) (ap (λ (r : Entries). (name, chain) ∷ r) f)
    by_test false k = f

pub tidied_again : (s : Entries) → tidied (tidied s) ≡ tidied s
tidied_again [] = refl
tidied_again (e ∷ es) = put_again e.0 (tidied_chain e.1) (tidied es) (chain_again e.1) (tidied_again es)

-- ---- what is easily seen to be tidy

not_true : (b : Bool) → not b ≡ true → b ≡ false
not_true true h = absurd cc
not_true false h = refl

joint_none : (t u : Term) → (is_idle t && is_idle u) ≡ false → joint t u ≡ None
joint_none t u h = ap (λ (b : Bool). cond b (joined_counts t.count u.count) None) h

record Leads (t u : Term) : Type 0 where
  live : is_live t ≡ true
  ends : is_endless t ≡ false
  apart : (is_idle t && is_idle u) ≡ false

leads_gives : (t u : Term) → leads_to t u ≡ true → Leads t u
leads_gives t u h =
    let last = both (is_live t && not (is_endless t)) (not (is_idle t && is_idle u)) h in
    let first = both (is_live t) (not (is_endless t)) last.0 in
    record { live = first.0; ends = not_true (is_endless t) first.1; apart = not_true (is_idle t && is_idle u) last.1 }

from_gives : (t u : Term) (us : List Term) → is_tidy_from t (u ∷ us) ≡ true → Leads t u × (is_tidy_from u us ≡ true)
from_gives t u us h = let p = both (leads_to t u) (is_tidy_from u us) h in (leads_gives t u p.0, p.1)

tidy_apart : (t : Term) (us : List Term) → is_tidy_from t us ≡ true → Apart (t ∷ us)
tidy_apart t [] h = tt
tidy_apart t (u ∷ us) h = let p = from_gives t u us h in (joint_none t u p.0.apart, tidy_apart u us p.1)

tidy_live : (t : Term) (us : List Term) → is_tidy_from t us ≡ true → AllLive (t ∷ us)
tidy_live t [] h = ((both (is_live t) (not (is_idle t)) h).0, tt)
tidy_live t (u ∷ us) h = let p = from_gives t u us h in (p.0.live, tidy_live u us p.1)

tidy_ends : (t : Term) (us : List Term) → is_tidy_from t us ≡ true → EndsOnly (t ∷ us)
tidy_ends t [] h = tt
tidy_ends t (u ∷ us) h = let p = from_gives t u us h in (p.0.ends, tidy_ends u us p.1)

none_with : (a b : Bool) → b ≡ false → (a && b) ≡ false
none_with true b h = h
none_with false b h = refl

not_all_idle : (t : Term) (us : List Term) → is_tidy_from t us ≡ true → (is_idle t && list_all is_idle us) ≡ false
not_all_idle t [] h = ap (λ (b : Bool). b && true) (not_true (is_idle t) (both (is_live t) (not (is_idle t)) h).1)
not_all_idle t (u ∷ us) h = none_with (is_idle t) (list_all is_idle (u ∷ us)) (not_all_idle u us (from_gives t u us h).1)

tidy_end : (t : Term) (us : List Term) → is_tidy_from t us ≡ true → without_idle_end (t ∷ us) ≡ t ∷ us
tidy_end t [] h = end_cons t [] ∙ ap (λ (b : Bool). cond b [] (t ∷ [])) (not_all_idle t [] h)
tidy_end t (u ∷ us) h =
    end_cons t (u ∷ us) ∙ ap (λ (b : Bool). cond b [] (t ∷ without_idle_end (u ∷ us))) (not_all_idle t (u ∷ us) h)
    ∙ ap (λ (r : List Term). t ∷ r) (tidy_end u us (from_gives t u us h).1)

chain_same : (ts : List Term) → is_tidy_chain ts ≡ true → tidied_chain ts ≡ ts
unfolding tidied_chain
chain_same [] h = absurd cc
chain_same (t ∷ us) h =
    ap (λ (x : List Term). without_idle_end (joined (up_to_endless x))) (all_live (t ∷ us) (tidy_live t us h))
    ∙ ap (λ (x : List Term). without_idle_end (joined x)) (up_to_same (t ∷ us) (tidy_ends t us h))
    ∙ ap without_idle_end (joined_again (t ∷ us) (tidy_apart t us h))
    ∙ tidy_end t us h

some_length : (n : ℕ) → ltb 0 (suc n) ≡ true
some_length n = grind (arith, nat_tests)

put_same : (name : List ℕ) (chain : List Term) (es : Entries) → is_tidy_chain chain ≡ true → put name chain es ≡ (name, chain) ∷ es
put_same name [] es h = absurd cc
put_same name (t ∷ ts) es h = ap (λ (b : Bool). cond b ((name, t ∷ ts) ∷ es) es) (some_length (length ts))

pub scenario_same : (s : Entries) → is_tidy s ≡ true → tidied s ≡ s
scenario_same [] h = refl
scenario_same (e ∷ es) h =
    let p = both (is_tidy_chain e.1) (is_tidy es) h in
    ap (λ (c : List Term). put e.0 c (tidied es)) (chain_same e.1 p.0)
    ∙ put_same e.0 e.1 (tidied es) p.0
    ∙ ap (λ (r : Entries). (e.0, e.1) ∷ r) (scenario_same es p.1)
