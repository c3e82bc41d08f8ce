-- If nothing is left to be run, the part of a list that is known is the whole list; and no plan is to be run twice.
use Rattle.std.proofs.Common.{◌≡◌, ◌≢◌, ℕ, zero, suc, ◌+◌, ◌≤◌, length, ◌&&◌, Bool, true, false, cond, List, [], ◌∷◌, ◌++◌, refl, ap, sym, ◌∙◌, arith}
use Rattle.std.specs.Prelude.{Contains, Option, Some, None, is_none}
use Rattle.std.specs.List.{AllByRecursion, filter}
use Rattle.action_eval.specs.declared.rig.Rig.{Rig}
use Rattle.action_eval.specs.declared.rig.Kind.{Kind}
use Rattle.action_eval.specs.declared.rig.Kind.TheVariants.{OnceReturn, OnwardReturn, OncePanic}
use Rattle.action_eval.specs.RiggedScenario.{rig, text_of}
use Rattle.grown_plans.specs.GrownPlans.{Subject, run_of_plan, hits_past, children, is_once_return, is_hit_again, onward_of, level, levels, levels_to, onward, grown}
use Rattle.grown_plans.specs.Promises.{EachTwo, IsLawful}
use Rattle.grown_plans.proofs.Members.{all_weaker, all_append, all_both, all_left, all_right, all_flat, all_by_contains, all_contains, two_weaker}
use Rattle.grown_plans.proofs.Apart.{level_in_levels}
use Rattle.grown_plans.proofs.Onward.{runs_nothing_twice}
use Rattle.grown_runs.specs.known.Known.{KnownRuns, Told, hits_of, hits_told}
use Rattle.grown_runs.specs.known.KnownPart.{are_told, is_reached, is_reached_onward, known_part, once_of, to_run}
use Rattle.grown_runs.specs.known.Unseen.{is_unseen, is_without_hits, unseen}
use Rattle.grown_runs.specs.known.Promises.{EndsWhole, RunsEachOnce}
use Rattle.grown_runs.proofs.KnownLemmas.Listed.{filter_all, children_reached}

-- ---- members that pass a test

held : {A : Type 0} (p : A → Bool) (Q : A → Type 0) (xs : List A) → AllByRecursion Q (filter p xs) → AllByRecursion (λ x. p x ≡ true → Q x) xs
held p Q [] a = tt
held {A} p Q (x ∷ xs) a = by_test (held p Q xs) (p x) refl a
  where
    by_test : (AllByRecursion Q (filter p xs) → AllByRecursion (λ x. p x ≡ true → Q x) xs) → (b : Bool) → p x ≡ b → AllByRecursion Q (cond b (x ∷ filter p xs) (filter p xs)) → AllByRecursion (λ x. p x ≡ true → Q x) (x ∷ xs)
    by_test rest true e h = ((λ f. h.0), rest h.1)
    by_test rest false e h = ((λ f. absurd (let no_test : false ≡ true = sym e ∙ f in cc)), rest h)

pub none_left : {A : Type 0} (p : A → Bool) (xs : List A) → filter p xs ≡ [] → AllByRecursion (λ x. p x ≡ false) xs
none_left p [] e = tt
none_left {A} p (x ∷ xs) e = by_test (none_left p xs) (p x) refl e
  where
    by_test : (filter p xs ≡ [] → AllByRecursion (λ x. p x ≡ false) xs) → (b : Bool) → p x ≡ b → cond b (x ∷ filter p xs) (filter p xs) ≡ [] → AllByRecursion (λ x. p x ≡ false) (x ∷ xs)
    by_test rest true f h = absurd cc
    by_test rest false f h = (f, rest h)

pub filtered : {A : Type 0} (p : A → Bool) (Q : A → Type 0) (xs : List A) → AllByRecursion Q xs → AllByRecursion Q (filter p xs)
filtered p Q [] a = tt
filtered {A} p Q (x ∷ xs) a = by_test (p x) (filtered p Q xs a.1)
  where
    by_test : (b : Bool) → AllByRecursion Q (filter p xs) → AllByRecursion Q (cond b (x ∷ filter p xs) (filter p xs))
    by_test true rest = (a.0, rest)
    by_test false rest = rest

both : (a b : Bool) → a ≡ true → b ≡ true → (a && b) ≡ true
both true b e f = f
both false b e f = absurd cc

-- A run that is recorded, and not without its hits, is recorded with them.
with_hits : (o : Option Told) → is_none o ≡ false → is_without_hits o ≡ false → are_told (hits_told o) ≡ true
with_hits None e f = absurd cc
with_hits (Some told) e f = by_hits told.hits f
  where
    by_hits : (o : Option (List ℕ)) → is_none o ≡ false → are_told o ≡ true
    by_hits None h = absurd cc
    by_hits (Some hits) h = refl

-- ---- the whole list

abbrev HasHits : Subject → ℕ → KnownRuns → Type 0
HasHits t d known = (plan : List Rig) → Contains (levels t d) plan → is_reached known plan ≡ true → are_told (hits_of known plan) ≡ true

level_reached : (t : Subject) (d : ℕ) (known : KnownRuns) → HasHits t d known → (n : ℕ) → n ≤ d + 1 → AllByRecursion (λ plan. is_reached known plan ≡ true) (level t n)
unfolding level
level_reached t d known h zero le = (refl, tt)
level_reached t d known h (suc n) le =
    let before : AllByRecursion (λ plan. is_reached known plan ≡ true) (level t n) = level_reached t d known h n (omega (arith, le)) in
    all_flat (λ (plan : List Rig). is_reached known plan ≡ true) (children t) (level t n)
    (all_by_contains _ (level t n) (λ plan c.
    let reached : is_reached known plan ≡ true = all_contains (λ (p : List Rig). is_reached known p ≡ true) (level t n) plan before c in
    let told : are_told (hits_of known plan) ≡ true = h plan (level_in_levels t d n plan (omega (arith, le)) c) reached in
    all_weaker (λ (child : List Rig). is_reached known child ≡ (are_told (hits_of known plan) && is_reached known plan)) (λ (child : List Rig). is_reached known child ≡ true)
    (λ child e. e ∙ both (are_told (hits_of known plan)) (is_reached known plan) told reached) (children t plan) (children_reached t known plan (hits_past plan (run_of_plan t plan)))))

levels_reached : (t : Subject) (d : ℕ) (known : KnownRuns) → HasHits t d known → (n : ℕ) → n ≤ d → AllByRecursion (λ plan. is_reached known plan ≡ true) (levels t n)
unfolding levels_to
levels_reached t d known h zero le = level_reached t d known h zero (omega (arith, le))
levels_reached t d known h (suc n) le =
    all_append (λ (plan : List Rig). is_reached known plan ≡ true) (levels t n) (level t (suc n)) (levels_reached t d known h n (omega (arith, le))) (level_reached t d known h (suc n) (omega (arith, le)))

of_leaf : (t : Subject) (known : KnownRuns) (plan : List Rig) → are_told (hits_of known plan) ≡ true → is_reached known plan ≡ true → AllByRecursion (λ y. is_reached_onward known y ≡ true) (onward_of t plan)
of_leaf t known [] told reached = tt
of_leaf t known (r ∷ rs) told reached = by_kind r.kind refl (is_hit_again r.site (run_of_plan t (r ∷ rs)))
  where
    by_again : (b : Bool) → is_reached_onward known (rig r.site (OnwardReturn (text_of r.kind)) ∷ rs) ≡ true → AllByRecursion (λ y. is_reached_onward known y ≡ true) (cond b ((rig r.site (OnwardReturn (text_of r.kind)) ∷ rs) ∷ []) [])
    by_again true e = (e, tt)
    by_again false e = tt

    by_kind : (kind : Kind) → r.kind ≡ kind → (b : Bool) → AllByRecursion (λ y. is_reached_onward known y ≡ true) (cond (is_once_return r.kind && b) ((rig r.site (OnwardReturn (text_of r.kind)) ∷ rs) ∷ []) [])
    by_kind (OnceReturn text) e b =
        let once : once_of (rig r.site (OnwardReturn (text_of r.kind)) ∷ rs) ≡ r ∷ rs = ap (λ (k : Kind). rig r.site k ∷ rs) (ap (λ (k : Kind). OnceReturn (text_of k)) e ∙ sym e) in
        by_again (is_once_return r.kind && b)
        (ap (λ (p : List Rig). are_told (hits_of known p) && is_reached known p) once ∙ both (are_told (hits_of known (r ∷ rs))) (is_reached known (r ∷ rs)) told reached)
    by_kind (OnwardReturn text) e b = rw e tt
    by_kind OncePanic e b = rw e tt

onward_reached : (t : Subject) (d : ℕ) (known : KnownRuns) → HasHits t d known → AllByRecursion (λ plan. is_reached_onward known plan ≡ true) (onward t d)
unfolding onward
onward_reached t d known h =
    let reached : AllByRecursion (λ plan. is_reached known plan ≡ true) (level t d) = level_reached t d known h d (omega arith) in
    all_flat (λ (plan : List Rig). is_reached_onward known plan ≡ true) (onward_of t) (level t d)
    (all_by_contains _ (level t d) (λ plan c.
    let one : is_reached known plan ≡ true = all_contains (λ (p : List Rig). is_reached known p ≡ true) (level t d) plan reached c in
    of_leaf t known plan (h plan (level_in_levels t d d plan (omega arith) c) one) one))

-- The hits of each known plan are recorded.
pub all_seen : (t : Subject) (d : ℕ) (known : KnownRuns) → to_run t d known ≡ [] → unseen t d known ≡ [] → AllByRecursion (λ plan. are_told (hits_of known plan) ≡ true) (known_part t d known)
all_seen t d known e f =
    all_weaker (λ (plan : List Rig). (is_none (known plan) ≡ false) × (is_unseen known plan ≡ false)) (λ (plan : List Rig). are_told (hits_of known plan) ≡ true)
    (λ plan h. with_hits (known plan) h.0 h.1) (known_part t d known)
    (all_both (λ (plan : List Rig). is_none (known plan) ≡ false) (λ (plan : List Rig). is_unseen known plan ≡ false) (known_part t d known)
    (none_left (λ (plan : List Rig). is_none (known plan)) (known_part t d known) e) (none_left (is_unseen known) (known_part t d known) f))

has_hits : (t : Subject) (d : ℕ) (known : KnownRuns) → to_run t d known ≡ [] → unseen t d known ≡ [] → HasHits t d known
has_hits t d known e f plan c reached =
    let front : AllByRecursion (λ p. are_told (hits_of known p) ≡ true) (filter (is_reached known) (levels t d)) =
    all_left (λ (p : List Rig). are_told (hits_of known p) ≡ true) (filter (is_reached known) (levels t d)) (filter (is_reached_onward known) (onward t d)) (all_seen t d known e f)
    in
    all_contains (λ (p : List Rig). is_reached known p ≡ true → are_told (hits_of known p) ≡ true) (levels t d) plan
    (held (is_reached known) (λ (p : List Rig). are_told (hits_of known p) ≡ true) (levels t d) front) c reached

whole_by : (t : Subject) (d : ℕ) (known : KnownRuns) → HasHits t d known → known_part t d known ≡ grown t d
whole_by t d known h =
    ap (λ (x : List (List Rig)). x ++ filter (is_reached_onward known) (onward t d)) (filter_all (is_reached known) true (levels t d) (levels_reached t d known h d (omega arith)))
    ∙ ap (λ (x : List (List Rig)). levels t d ++ x) (filter_all (is_reached_onward known) true (onward t d) (onward_reached t d known h))

pub ends_whole : (t : Subject) (d : ℕ) (known : KnownRuns) → EndsWhole t d known
ends_whole t d known e f =
    let h : HasHits t d known = has_hits t d known e f in
    record {
      list = whole_by t d known h;
      levels = λ n le. ap length (filter_all (is_reached known) true (level t n) (level_reached t d known h n le));
      onward_size = ap length (filter_all (is_reached_onward known) true (onward t d) (onward_reached t d known h));
    }

-- ---- each plan once

pub two_filtered : {A : Type 0} (R : A → A → Type 0) (p : A → Bool) (xs : List A) → EachTwo R xs → EachTwo R (filter p xs)
two_filtered R p [] e = tt
two_filtered {A} R p (x ∷ xs) e = by_test (p x) (two_filtered R p xs e.1)
  where
    by_test : (b : Bool) → EachTwo R (filter p xs) → EachTwo R (cond b (x ∷ filter p xs) (filter p xs))
    by_test true rest = (filtered p (R x) xs e.0, rest)
    by_test false rest = rest

pub two_parts : {A : Type 0} (R : A → A → Type 0) (p q : A → Bool) (xs ys : List A) → EachTwo R (xs ++ ys) → EachTwo R (filter p xs ++ filter q ys)
two_parts R p q [] ys e = two_filtered R q ys e
two_parts {A} R p q (x ∷ xs) ys e = by_test (p x) (two_parts R p q xs ys e.1)
  where
    by_test : (b : Bool) → EachTwo R (filter p xs ++ filter q ys) → EachTwo R (cond b (x ∷ filter p xs) (filter p xs) ++ filter q ys)
    by_test true rest = (all_append (R x) (filter p xs) (filter q ys) (filtered p (R x) xs (all_left (R x) xs ys e.0)) (filtered q (R x) ys (all_right (R x) xs ys e.0)), rest)
    by_test false rest = rest

pub runs_each_once : (t : Subject) → IsLawful t → (d : ℕ) (known : KnownRuns) → RunsEachOnce t d known
runs_each_once t l d known =
    let apart : EachTwo (λ a b. a ≢ b) (grown t d) = two_weaker (λ a b. run_of_plan t a ≢ run_of_plan t b) (λ (a b : List Rig). a ≢ b) (λ a b n same. n (ap (run_of_plan t) same)) (grown t d) (runs_nothing_twice t l d) in
    two_filtered (λ (a b : List Rig). a ≢ b) (λ (plan : List Rig). is_none (known plan)) (known_part t d known) (two_parts (λ (a b : List Rig). a ≢ b) (is_reached known) (is_reached_onward known) (levels t d) (onward t d) apart)
