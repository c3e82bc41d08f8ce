-- Chains that do the same.
use Rattle.std.proofs.Common.{◌≡◌, ℕ, zero, suc, ◌+◌, ◌-◌, ◌%◌, Bool, true, false, cond, eqb, nat_lt, List, [], ◌∷◌, Some, None, option_map, refl, ap, sym, ◌∙◌, arith}
use Rattle.std.proofs.lemmas.Bool.Decides.{nat_tests}
use Rattle.scenario_values.specs.declared.term.Term.{Term}
use Rattle.scenario_values.specs.declared.term.Task.{Task}
use Rattle.scenario_values.specs.declared.term.Task.TheVariants as task
use Rattle.scenario_values.specs.Tidied.{is_used}
use Rattle.action_eval.proofs.Machine.{Step, spent_once, passed, acts, step, done, Same}

-- what is done at a step, and at the hits after it
abbrev pub from : (ℕ → ℕ) → List ℕ → Step → List (Task × ℕ)
from word ns s = (s.did, s.next) ∷ done word s.left ns

tails : {A : Type 0} (x y : A) (xs ys : List A) → x ∷ xs ≡ y ∷ ys → xs ≡ ys
tails x y xs ys e = cc

abbrev first_did : List (Task × ℕ) → Task
first_did [] = task.Off
first_did (x ∷ xs) = x.0

abbrev first_next : List (Task × ℕ) → ℕ
first_next [] = 0
first_next (x ∷ xs) = x.1

pub same_did : (word : ℕ → ℕ) (c d : List Term) → Same word c d → (n : ℕ) → (step word c n).did ≡ (step word d n).did
same_did word c d s n = ap first_did (s.at (n ∷ []))

pub same_next : (word : ℕ → ℕ) (c d : List Term) → Same word c d → (n : ℕ) → (step word c n).next ≡ (step word d n).next
same_next word c d s n = ap first_next (s.at (n ∷ []))

pub same_left : (word : ℕ → ℕ) (c d : List Term) → Same word c d → (n : ℕ) → Same word (step word c n).left (step word d n).left
same_left word c d s n = record { at = λ ns. tails _ _ _ _ (s.at (n ∷ ns)) }

pub same_self : (word : ℕ → ℕ) (c : List Term) → Same word c c
same_self word c = record { at = λ ns. refl }

pub same_back : (word : ℕ → ℕ) (c d : List Term) → Same word c d → Same word d c
same_back word c d s = record { at = λ ns. sym (s.at ns) }

pub same_then : (word : ℕ → ℕ) (b c d : List Term) → Same word b c → Same word c d → Same word b d
same_then word b c d s t = record { at = λ ns. s.at ns ∙ t.at ns }

pub same_by : (word : ℕ → ℕ) (c d : List Term) → c ≡ d → Same word c d
same_by word c d e = record { at = λ ns. ap (λ x. done word x ns) e }

from_parts : (word : ℕ → ℕ) (ns : List ℕ) (s t : Step) → s.did ≡ t.did → s.next ≡ t.next → done word s.left ns ≡ done word t.left ns → from word ns s ≡ from word ns t
from_parts word ns s t d n l = ap (λ x. (x, s.next) ∷ done word s.left ns) d ∙ ap (λ x. (t.did, x) ∷ done word s.left ns) n ∙ ap (λ x. (t.did, t.next) ∷ x) l

four : (word : ℕ → ℕ) (ns : List ℕ) (b c d : Bool) (s t u v s' t' u' v' : Step)
    → from word ns s ≡ from word ns s' → from word ns t ≡ from word ns t' → from word ns u ≡ from word ns u' → from word ns v ≡ from word ns v'
    → from word ns (cond b s (cond c t (cond d u v))) ≡ from word ns (cond b s' (cond c t' (cond d u' v')))
four word ns true c d s t u v s' t' u' v' e f g h = e
four word ns false true d s t u v s' t' u' v' e f g h = f
four word ns false false true s t u v s' t' u' v' e f g h = g
four word ns false false false s t u v s' t' u' v' e f g h = h

-- chains that do the same do so behind a term
under_at : (word : ℕ → ℕ) (ns : List ℕ) (t : Term) (c d : List Term) → Same word c d → done word (t ∷ c) ns ≡ done word (t ∷ d) ns
under_at word [] t c d s = refl
under_at word (n ∷ ns) t c d s =
    let past : (m : ℕ) → from word ns (passed t (step word c m)) ≡ from word ns (passed t (step word d m)) =
    λ m. from_parts word ns (passed t (step word c m)) (passed t (step word d m)) (same_did word c d s m) (same_next word c d s m) (under_at word ns t _ _ (same_left word c d s m))
    in
    let here : (m : ℕ) → from word ns (acts t c m) ≡ from word ns (acts t d m) = λ m. ap (λ x. (t.task, m) ∷ x) (under_at word ns (spent_once t) c d s) in
    four word ns (is_used t.count) (eqb t.share 1000000) (nat_lt (word n % 1000000) t.share) (passed t (step word c n)) (acts t c n) (acts t c (n + 1)) (passed t (step word c (n + 1)))
    (passed t (step word d n)) (acts t d n) (acts t d (n + 1)) (passed t (step word d (n + 1))) (past n) (here n) (here (n + 1)) (past (n + 1))

pub under : (word : ℕ → ℕ) (t : Term) (c d : List Term) → Same word c d → Same word (t ∷ c) (t ∷ d)
under word t c d s = record { at = λ ns. under_at word ns t c d s }

when_true : {A : Type 0} (b : Bool) (x y : A) → b ≡ true → cond b x y ≡ x
when_true true x y e = refl
when_true false x y e = cc

when_second : {A : Type 0} (b c : Bool) (x y z : A) → b ≡ false → c ≡ true → cond b x (cond c y z) ≡ y
when_second true c x y z e f = cc
when_second false true x y z e f = refl
when_second false false x y z e f = cc

-- a term that is used up might as well not be there
without_at : (word : ℕ → ℕ) (ns : List ℕ) (t : Term) (c : List Term) → is_used t.count ≡ true → done word (t ∷ c) ns ≡ done word c ns
without_at word [] t c u = refl
without_at word (n ∷ ns) t c u =
    ap (from word ns) (when_true (is_used t.count) (passed t (step word c n)) _ u)
    ∙ ap (λ x. ((step word c n).did, (step word c n).next) ∷ x) (without_at word ns t (step word c n).left u)

pub without : (word : ℕ → ℕ) (t : Term) (c : List Term) → is_used t.count ≡ true → Same word (t ∷ c) c
without word t c u = record { at = λ ns. without_at word ns t c u }

-- nothing behind a term that acts at each hit ever acts
endless_at : (word : ℕ → ℕ) (ns : List ℕ) (t : Term) (c : List Term) → t.count ≡ None → eqb t.share 1000000 ≡ true → done word (t ∷ c) ns ≡ done word (t ∷ []) ns
endless_at word [] t c e f = refl
endless_at word (n ∷ ns) t c e f =
    ap (from word ns) (when_second (is_used t.count) (eqb t.share 1000000) (passed t (step word c n)) (acts t c n) _ (ap is_used e) f)
    ∙ ap (λ x. (t.task, n) ∷ x) (endless_at word ns (spent_once t) c (ap (option_map (λ c. c - 1)) e) f)
    ∙ sym (ap (from word ns) (when_second (is_used t.count) (eqb t.share 1000000) (passed t (step word [] n)) (acts t [] n) _ (ap is_used e) f))

pub endless : (word : ℕ → ℕ) (t : Term) (c : List Term) → t.count ≡ None → eqb t.share 1000000 ≡ true → Same word (t ∷ c) (t ∷ [])
endless word t c e f = record { at = λ ns. endless_at word ns t c e f }

-- an idle term at the end might as well not be there
idle_case : (word : ℕ → ℕ) (ns : List ℕ) (n : ℕ) (t : Term) (b c : Bool) (z : Step) → t.task ≡ task.Off → c ≡ true
    → done word (t ∷ []) ns ≡ done word [] ns → done word (spent_once t ∷ []) ns ≡ done word [] ns
    → from word ns (cond b (passed t (step word [] n)) (cond c (acts t [] n) z)) ≡ from word ns (step word [] n)
idle_case word ns n t true c z o f e h = ap (λ x. (task.Off, n) ∷ x) e
idle_case word ns n t false true z o f e h = ap (λ x. (x, n) ∷ done word (spent_once t ∷ []) ns) o ∙ ap (λ x. (task.Off, n) ∷ x) h
idle_case word ns n t false false z o f e h = cc

idle_at : (word : ℕ → ℕ) (ns : List ℕ) (t : Term) → t.task ≡ task.Off → eqb t.share 1000000 ≡ true → done word (t ∷ []) ns ≡ done word [] ns
idle_at word [] t o f = refl
idle_at word (n ∷ ns) t o f = idle_case word ns n t (is_used t.count) (eqb t.share 1000000) _ o f (idle_at word ns t o f) (idle_at word ns (spent_once t) o f)

pub idle : (word : ℕ → ℕ) (t : Term) → t.task ≡ task.Off → eqb t.share 1000000 ≡ true → Same word (t ∷ []) []
idle word t o f = record { at = λ ns. idle_at word ns t o f }

-- a term that does nothing at so many hits
abbrev pub off : ℕ → Term
off m = record { share = 1000000; count = Some m; task = task.Off }

off_acts : (word : ℕ → ℕ) (c : List Term) (n m : ℕ) → eqb m 0 ≡ false → step word (off m ∷ c) n ≡ acts (off m) c n
off_acts word c n m z = ap (λ b. cond b (passed (off m) (step word c n)) (acts (off m) c n)) z

-- two of them do what one does
joined_at : (word : ℕ → ℕ) (ns : List ℕ) (m k : ℕ) (c : List Term) → done word (off m ∷ off k ∷ c) ns ≡ done word (off (m + k) ∷ c) ns
joined_at word [] m k c = refl
joined_at word (n ∷ ns) zero zero c = ap (λ x. ((step word c n).did, (step word c n).next) ∷ x) (joined_at word ns 0 0 (step word c n).left)
joined_at word (n ∷ ns) zero (suc k) c =
    let busy : eqb (suc k) 0 ≡ false = grind (arith, nat_tests) in
    let busy_too : eqb (0 + suc k) 0 ≡ false = grind (arith, nat_tests) in
    let same : 0 + (suc k - 1) ≡ (0 + suc k) - 1 = omega arith in
    ap (λ s. from word ns (passed (off 0) s)) (off_acts word c n (suc k) busy)
    ∙ ap (λ x. (task.Off, n) ∷ x) (joined_at word ns 0 (suc k - 1) c ∙ ap (λ x. done word (off x ∷ c) ns) same)
    ∙ sym (ap (from word ns) (off_acts word c n (0 + suc k) busy_too))
joined_at word (n ∷ ns) (suc m) k c =
    let busy : eqb (suc m) 0 ≡ false = grind (arith, nat_tests) in
    let busy_too : eqb (suc m + k) 0 ≡ false = grind (arith, nat_tests) in
    let same : (suc m - 1) + k ≡ (suc m + k) - 1 = omega arith in
    ap (from word ns) (off_acts word (off k ∷ c) n (suc m) busy)
    ∙ ap (λ x. (task.Off, n) ∷ x) (joined_at word ns (suc m - 1) k c ∙ ap (λ x. done word (off x ∷ c) ns) same)
    ∙ sym (ap (from word ns) (off_acts word c n (suc m + k) busy_too))

pub joined_offs : (word : ℕ → ℕ) (m k : ℕ) (c : List Term) → Same word (off m ∷ off k ∷ c) (off (m + k) ∷ c)
joined_offs word m k c = record { at = λ ns. joined_at word ns m k c }
