-- A run's chains, with what is left of their counts, go on as the definition of an answer says.
use Rattle.std.proofs.Common.{◌≡◌, ℕ, suc, ◌+◌, ◌-◌, ◌%◌, ◌≤◌, Bool, true, false, cond, eqb, leb, nat_lt, List, [], ◌∷◌, Option, Some, None, option_map, refl, ap, sym, ◌∙◌, arith, subst, add-zero}
use Rattle.std.specs.Option.{option_map_or}
use Rattle.std.specs.Prelude.{slice_get}
use Rattle.std.proofs.lemmas.Bool.Decides.{nat_tests}
use Rattle.scenario_values.specs.declared.term.Term.{Term}
use Rattle.scenario_values.specs.declared.term.Task.{Task}
use Rattle.scenario_values.specs.declared.term.Task.TheVariants as task
use Rattle.scenario_values.specs.Tidied.{is_used}
use Rattle.action_eval.specs.Trial.{Trial, tried}
use Rattle.action_eval.specs.Answers.{is_used_up}
use Rattle.action_eval.proofs.Machine.{Step, spent_once, passed, acts, step}

-- a term with what is left of its count after it acted so often
abbrev pub left_term : ℕ → Term → Term
left_term n t = record t { count = option_map (λ c. c - n) t.count }

-- the same of the terms from place i on
abbrev pub left_chain : (ℕ → ℕ) → ℕ → List Term → List Term
left_chain times i [] = []
left_chain times i (t ∷ ts) = left_term (times i) t ∷ left_chain times (i + 1) ts

-- one at the place that acted
abbrev pub once_at : Option ℕ → ℕ → ℕ
once_at None k = 0
once_at (Some p) k = cond (eqb p k) 1 0

-- what the term at a place does, counted from place i
abbrev pub task_from : ℕ → List Term → Option ℕ → Task
task_from i ts None = task.Off
task_from i ts (Some p) = option_map_or (λ t. t.task) (slice_get ts (p - i)) task.Off

abbrev pub Above : ℕ → Option ℕ → Type 0
Above i None = Unit {0}
Above i (Some p) = i ≤ p

pub record Agrees (times : ℕ → ℕ) (i : ℕ) (ts : List Term) (t : Trial) (s : Step) : Type 0 where
  pub next : t.next ≡ s.next
  pub did : task_from i ts t.place ≡ s.did
  pub left : (now : ℕ → ℕ) → ((k : ℕ) → i ≤ k → now k ≡ times k + once_at t.place k) → left_chain now i ts ≡ s.left
  pub above : Above i t.place

cases_agree : (times : ℕ → ℕ) (i : ℕ) (ts : List Term) (b c d : Bool) (p q r u : Trial) (p' q' r' u' : Step)
    → Agrees times i ts p p' → Agrees times i ts q q' → Agrees times i ts r r' → Agrees times i ts u u'
    → Agrees times i ts (cond b p (cond c q (cond d r u))) (cond b p' (cond c q' (cond d r' u')))
cases_agree times i ts true c d p q r u p' q' r' u' e f g h = e
cases_agree times i ts false true d p q r u p' q' r' u' e f g h = f
cases_agree times i ts false false true p q r u p' q' r' u' e f g h = g
cases_agree times i ts false false false p q r u p' q' r' u' e f g h = h

zero_test : (a b : ℕ) → eqb (a - b) 0 ≡ leb a b
zero_test a b = grind (arith, nat_tests)

used_left : (o : Option ℕ) (n : ℕ) → is_used (option_map (λ c. c - n) o) ≡ option_map_or (λ c. leb c n) o false
used_left None n = refl
used_left (Some c) n = zero_test c n

-- Equal counts leave the same of a chain.
pub same_left_chain : (a b : ℕ → ℕ) (i : ℕ) (ts : List Term) → ((k : ℕ) → i ≤ k → b k ≡ a k) → left_chain b i ts ≡ left_chain a i ts
same_left_chain a b i [] h = refl
same_left_chain a b i (t ∷ ts) h = ap (λ n. left_term n t ∷ left_chain b (i + 1) ts) (h i (omega arith)) ∙ ap (λ l. left_term (a i) t ∷ l) (same_left_chain a b (i + 1) ts (λ k le. h k (omega arith)))

nothing_left : (o : Option ℕ) → option_map (λ c. c - 0) o ≡ o
nothing_left None = refl
nothing_left (Some c) = ap (λ (n : ℕ). Some n) (omega arith)

-- before any hit a chain is whole
pub whole_chain : (i : ℕ) (ts : List Term) → left_chain (λ _. 0) i ts ≡ ts
whole_chain i [] = refl
whole_chain i (t ∷ ts) = ap (λ o. let u : Term = record t { count = o } in u ∷ left_chain (λ _. 0) (i + 1) ts) (nothing_left t.count) ∙ ap (λ l. t ∷ l) (whole_chain (i + 1) ts)

task_behind : (i : ℕ) (t : Term) (ts : List Term) (o : Option ℕ) → Above (i + 1) o → task_from i (t ∷ ts) o ≡ task_from (i + 1) ts o
task_behind i t ts None h = refl
task_behind i t ts (Some p) h =
    let e : p - i ≡ suc (p - (i + 1)) = omega arith in
    ap (λ n. option_map_or (λ (t : Term). t.task) (slice_get (t ∷ ts) n) task.Off) e

above_less : (i : ℕ) (o : Option ℕ) → Above (i + 1) o → Above i o
above_less i None h = tt
above_less i (Some p) h = omega arith

not_here : (i : ℕ) (o : Option ℕ) → Above (i + 1) o → once_at o i ≡ 0
not_here i None h = refl
not_here i (Some p) h = grind (arith, nat_tests)

passed_agrees : (times : ℕ → ℕ) (i : ℕ) (t : Term) (ts : List Term) (p : Trial) (s : Step) → Agrees times (i + 1) ts p s → Agrees times i (t ∷ ts) p (passed (left_term (times i) t) s)
passed_agrees times i t ts p s a = record {
  next = a.next;
  did = task_behind i t ts p.place a.above ∙ a.did;
  left = λ now h.
      ap (λ n. left_term n t ∷ left_chain now (i + 1) ts) (h i (omega arith) ∙ ap (λ n. times i + n) (not_here i p.place a.above) ∙ add-zero (times i))
      ∙ ap (λ l. left_term (times i) t ∷ l) (a.left now (λ k le. h k (omega arith)));
  above = above_less i p.place a.above;
}

one_more_off : (o : Option ℕ) (n : ℕ) → option_map (λ c. c - (n + 1)) o ≡ option_map (λ c. c - 1) (option_map (λ c. c - n) o)
one_more_off None n = refl
one_more_off (Some c) n = ap (λ (n : ℕ). Some n) (omega arith)

here_once : (i : ℕ) → once_at (Some i) i ≡ 1
here_once i = grind (arith, nat_tests)

there_none : (i k : ℕ) → i + 1 ≤ k → once_at (Some i) k ≡ 0
there_none i k h = grind (arith, nat_tests)

at_front : (i : ℕ) (t : Term) (ts : List Term) → task_from i (t ∷ ts) (Some i) ≡ t.task
at_front i t ts = let e : i - i ≡ 0 = omega arith in ap (λ n. option_map_or (λ (t : Term). t.task) (slice_get (t ∷ ts) n) task.Off) e

acts_agrees : (times : ℕ → ℕ) (i : ℕ) (t : Term) (ts : List Term) (n : ℕ) → Agrees times i (t ∷ ts) (record { place = Some i; next = n }) (acts (left_term (times i) t) (left_chain times (i + 1) ts) n)
acts_agrees times i t ts n = record {
  next = refl;
  did = at_front i t ts;
  left = λ now h.
      ap (λ n. left_term n t ∷ left_chain now (i + 1) ts) (h i (omega arith) ∙ ap (λ n. times i + n) (here_once i))
      ∙ ap (λ o. let u : Term = record t { count = o } in u ∷ left_chain now (i + 1) ts) (one_more_off t.count (times i))
      ∙ ap (λ l. spent_once (left_term (times i) t) ∷ l) (same_left_chain times now (i + 1) ts (λ k le. h k (omega arith) ∙ ap (λ n. times k + n) (there_none i k le) ∙ add-zero (times k)));
  above = let e : i ≤ i = omega arith in e;
}

-- the terms tried by how often they acted, and the chain that is left
pub agrees : (word : ℕ → ℕ) (times : ℕ → ℕ) (i : ℕ) (ts : List Term) (n : ℕ) → Agrees times i ts (tried word (is_used_up times) i ts n) (step word (left_chain times i ts) n)
agrees word times i [] n = record { next = refl; did = refl; left = λ now h. refl; above = tt }
agrees word times i (t ∷ ts) n =
    let b = is_used_up times i t in
    let c = eqb t.share 1000000 in
    let d = nat_lt (word n % 1000000) t.share in
    let l = left_chain times (i + 1) ts in
    let x = left_term (times i) t in
    let p = tried word (is_used_up times) (i + 1) ts n in
    let q = tried word (is_used_up times) (i + 1) ts (n + 1) in
    let whole : Agrees times i (t ∷ ts) (cond b p (cond c (record { place = Some i; next = n }) (cond d (record { place = Some i; next = n + 1 }) q)))
    (cond b (passed x (step word l n)) (cond c (acts x l n) (cond d (acts x l (n + 1)) (passed x (step word l (n + 1)))))) =
    cases_agree times i (t ∷ ts) b c d _ _ _ _ _ _ _ _
    (passed_agrees times i t ts p (step word l n) (agrees word times (i + 1) ts n)) (acts_agrees times i t ts n) (acts_agrees times i t ts (n + 1))
    (passed_agrees times i t ts q (step word l (n + 1)) (agrees word times (i + 1) ts (n + 1)))
    in
    let P : Bool → Type 0 = λ b'. Agrees times i (t ∷ ts) (cond b p (cond c (record { place = Some i; next = n }) (cond d (record { place = Some i; next = n + 1 }) q)))
    (cond b' (passed x (step word l n)) (cond c (acts x l n) (cond d (acts x l (n + 1)) (passed x (step word l (n + 1)))))) in
    subst P (sym (used_left t.count (times i))) whole
