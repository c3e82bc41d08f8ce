-- What each term weighs, summed: how many terms and faults there are, and how long the printed form is. Keeping and tidying add no weight.
use Rattle.std.proofs.Common.{◌≡◌, ℕ, codes, zero, suc, ◌+◌, ◌%◌, ◌^◌, ◌<◌, ◌≤◌, List, [], ◌∷◌, ◌++◌, Bool, true, false, cond, ◌&&◌, length, take, filter, nat_lt, Option, Some, None, refl, ap, ◌∙◌, arith, length-append}
use Rattle.std.specs.List.{flat_map}
use Rattle.std.specs.Fmt.{decimal}
use Rattle.std.proofs.lemmas.Fmt.{decimal_by_steps, length-decimal-le}
use Rattle.std.proofs.lemmas.Bool.Decides.{nat_tests}
use Rattle.scenario_values.specs.declared.term.Term.{Term}
use Rattle.scenario_values.specs.declared.term.Task.{Task}
use Rattle.scenario_values.specs.declared.term.Task.TheVariants as task
use Rattle.scenario_values.specs.Scenario.{Entries, is_off, fault_of, faults_in, all_faults}
use Rattle.scenario_values.specs.Printed.{share_text, count_text, argument_text, task_text, term_text, chain_text, entry_text, printed}
use Rattle.scenario_values.specs.Keep.{switched_off, holds, after_term, kept_chain, after_chain, kept_from}
use Rattle.scenario_values.specs.Tidied.{is_live, is_idle, joined_counts, joint, join_by, with_count, joined_onto, joined, without_used, up_to_endless, without_idle_end, tidied_chain, tidied}

abbrev pub weight : (Term → ℕ) → List Term → ℕ
weight f [] = 0
weight f (t ∷ ts) = f t + weight f ts

-- switching a term off adds no weight
abbrev pub LightOff : (Term → ℕ) → Type 0
LightOff f = (t : Term) → f (switched_off t) ≤ f t

-- joining two terms adds no weight
abbrev pub LightJoint : (Term → ℕ) → Type 0
LightJoint f = (t u : Term) (n : ℕ) → joint t u ≡ Some n → f (record t { count = Some n }) ≤ f t + f u

-- ---- chains kept

kept_case : (f : Term → ℕ) → LightOff f → (t : Term) (a b : Bool) → f (cond a t (cond b t (switched_off t))) ≤ f t
kept_case f l t true b = omega arith
kept_case f l t false true = omega arith
kept_case f l t false false = l t

pub kept_light : (f : Term → ℕ) → LightOff f → (set : List ℕ) (n : ℕ) (ts : List Term) → weight f (kept_chain set n ts) ≤ weight f ts
unfolding kept_chain
kept_light f l set n [] = omega arith
kept_light f l set n (t ∷ ts) = let here = kept_case f l t (is_off t.task) (holds set n) in let rest = kept_light f l set (after_term n t) ts in omega (arith, here, rest)

-- ---- chains tidied

filter_case : (f : Term → ℕ) (p : Term → Bool) (t : Term) (ts : List Term) (b : Bool) → weight f (filter p ts) ≤ weight f ts → weight f (cond b (t ∷ filter p ts) (filter p ts)) ≤ f t + weight f ts
filter_case f p t ts true h = omega arith
filter_case f p t ts false h = omega arith

filter_light : (f : Term → ℕ) (p : Term → Bool) (ts : List Term) → weight f (filter p ts) ≤ weight f ts
filter_light f p [] = omega arith
filter_light f p (t ∷ ts) = filter_case f p t ts (p t) (filter_light f p ts)

take_light : (f : Term → ℕ) (n : ℕ) (ts : List Term) → weight f (take n ts) ≤ weight f ts
take_light f zero ts = omega arith
take_light f (suc n) [] = omega arith
take_light f (suc n) (t ∷ ts) = let rest = take_light f n ts in omega (arith, rest)

join_light : (f : Term → ℕ) → LightJoint f → (t u : Term) (us : List Term) (o : Option ℕ) → joint t u ≡ o
    → weight f (joined_onto (with_count o t u) us) ≤ f (with_count o t u) + weight f us → weight f (join_by o t (joined_onto (with_count o t u) us)) ≤ f t + (f u + weight f us)
join_light f l t u us None e h = omega (arith, h)
join_light f l t u us (Some n) e h = omega (arith, h, l t u n e)

onto_light : (f : Term → ℕ) → LightJoint f → (t : Term) (us : List Term) → weight f (joined_onto t us) ≤ f t + weight f us
unfolding joined_onto
onto_light f l t [] = omega arith
onto_light f l t (u ∷ us) = join_light f l t u us (joint t u) refl (onto_light f l (with_count (joint t u) t u) us)

joined_light : (f : Term → ℕ) → LightJoint f → (ts : List Term) → weight f (joined ts) ≤ weight f ts
unfolding joined
joined_light f l [] = omega arith
joined_light f l (t ∷ ts) = onto_light f l t ts

pub tidied_light : (f : Term → ℕ) → LightJoint f → (ts : List Term) → weight f (tidied_chain ts) ≤ weight f ts
unfolding tidied_chain
tidied_light f l ts =
    let a = filter_light f is_live ts in
    let b : weight f (up_to_endless (without_used ts)) ≤ weight f (without_used ts) = take_light f _ (without_used ts) in
    let c = joined_light f l (up_to_endless (without_used ts)) in
    let d : weight f (without_idle_end (joined (up_to_endless (without_used ts)))) ≤ weight f (joined (up_to_endless (without_used ts))) = take_light f _ (joined (up_to_endless (without_used ts))) in
    omega (arith, a, b, c, d)

-- ---- how many faults

pub weight-fault : (ts : List Term) → weight fault_of ts ≡ faults_in ts
weight-fault [] = refl
weight-fault (t ∷ ts) = ap (λ n. fault_of t + n) (weight-fault ts)

pub fault_off : LightOff fault_of
fault_off t = omega arith

pub fault_joint : LightJoint fault_of
fault_joint t u n e = omega arith

-- ---- how long the text is

-- a term's text, and an arrow
abbrev pub term_width : Term → ℕ
term_width t = length (term_text t) + 2

-- `off` is the shortest task
pub task_three : (k : Task) → 3 ≤ length (task_text k)
task_three task.Off = omega arith
task_three (task.Return argument) = omega (arith, length-append (codes "return") (argument_text argument))
task_three (task.Sleep millis) = omega arith
task_three (task.Panic argument) = omega arith
task_three (task.Print argument) = omega arith
task_three task.Pause = omega arith
task_three task.Yield = omega arith
task_three (task.Delay millis) = omega arith

-- the numbers of digits of numbers under 10, 100 and 1000
abbrev Digits : ℕ → List ℕ → Type 0
Digits n ds = (0 < length ds) × (10 ≤ n → 2 ≤ length ds) × (100 ≤ n → 3 ≤ length ds) × (1000 ≤ n → 4 ≤ length ds)

digits_of : (n : ℕ) → n < 2 ^ 64 → Digits n (decimal n)
digits_of = decimal_by_steps Digits
    (λ n l. (omega arith, λ h. omega arith, λ h. omega arith, λ h. omega arith))
    (λ n ds l h. let e = length-append ds ((48 + n % 10) ∷ []) in (omega (arith, e), λ k. omega (arith, e, h.0), λ k. omega (arith, e, h.1 (omega arith)), λ k. omega (arith, e, h.2 (omega arith))))

digits_case : (m n : ℕ) → m + n ≤ 4294967295 → Digits m (decimal m) → Digits n (decimal n) → length (decimal (m + n)) ≤ 10 → (c d : Bool) → nat_lt m 1000 ≡ c → nat_lt n 1000 ≡ d
    → length (decimal (m + n)) ≤ length (decimal m) + length (decimal n) + 6
digits_case m n h a b ten true true e f =
    let low : m < 1000 = grind (arith, nat_tests) in
    let few : n < 1000 = grind (arith, nat_tests) in
    let four : length (decimal (m + n)) ≤ 4 = length-decimal-le 4 (m + n) (omega arith) (omega arith) (omega arith) in
    omega (arith, four)
digits_case m n h a b ten false d e f =
    let high : 1000 ≤ m = grind (arith, nat_tests) in
    omega (arith, ten, a.3 high, b.0)
digits_case m n h a b ten true false e f =
    let high : 1000 ≤ n = grind (arith, nat_tests) in
    omega (arith, ten, b.3 high, a.0)

-- the digits of a sum are no more than those of both numbers and six
digits_sum : (m n : ℕ) → m + n ≤ 4294967295 → length (decimal (m + n)) ≤ length (decimal m) + length (decimal n) + 6
digits_sum m n h =
    let a = digits_of m (omega arith) in
    let b = digits_of n (omega arith) in
    let ten : length (decimal (m + n)) ≤ 10 = length-decimal-le 10 (m + n) (omega arith) (omega arith) (omega arith) in
    digits_case m n h a b ten (nat_lt m 1000) (nat_lt n 1000) refl refl

-- a term's text, part by part
width_parts : (t : Term) → term_width t ≡ length (share_text t.share) + length (count_text t.count) + length (task_text t.task) + 2
unfolding term_text
width_parts t = omega (arith, length-append (share_text t.share ++ count_text t.count) (task_text t.task), length-append (share_text t.share) (count_text t.count))

pub width_off : LightOff term_width
width_off t = omega (arith, width_parts t, width_parts (switched_off t), task_three t.task)

count_width : (n : ℕ) → length (count_text (Some n)) ≡ length (decimal n) + 1
count_width n = length-append (decimal n) (42 ∷ [])

sum_case : (m n k : ℕ) (b : Bool) → nat_lt 4294967295 (m + n) ≡ b → cond b None (Some (m + n)) ≡ Some k → (k ≡ m + n) × (m + n ≤ 4294967295)
sum_case m n k true e f = absurd cc
sum_case m n k false e f = (cc, grind (arith, nat_tests))

width_case : (t u : Term) (k : ℕ) (b : Bool) (o p : Option ℕ) → t.count ≡ o → u.count ≡ p → cond b (joined_counts o p) None ≡ Some k → term_width (record t { count = Some k }) ≤ term_width t + term_width u
width_case t u k false o p e f j = absurd cc
width_case t u k true None p e f j = absurd cc
width_case t u k true (Some m) None e f j = absurd cc
width_case t u k true (Some m) (Some n) e f j =
    let sum = sum_case m n k (nat_lt 4294967295 (m + n)) refl j in
    let digits : length (decimal k) ≡ length (decimal (m + n)) = ap (λ x. length (decimal x)) sum.0 in
    let first : length (count_text t.count) ≡ length (decimal m) + 1 = ap (λ x. length (count_text x)) e ∙ count_width m in
    let second : length (count_text u.count) ≡ length (decimal n) + 1 = ap (λ x. length (count_text x)) f ∙ count_width n in
    omega (arith, width_parts t, width_parts u, width_parts (record t { count = Some k }), count_width k, digits, first, second, digits_sum m n sum.1, task_three u.task)

pub width_joint : LightJoint term_width
width_joint t u k e = width_case t u k (is_idle t && is_idle u) t.count u.count refl refl e

-- ---- whole texts

more_width : (ts : List Term) → length (flat_map (λ u. 45 ∷ 62 ∷ term_text u) ts) ≡ weight term_width ts
more_width [] = refl
more_width (t ∷ ts) = omega (arith, length-append (term_text t) (flat_map (λ u. 45 ∷ 62 ∷ term_text u) ts), more_width ts)

chain_width : (t : Term) (ts : List Term) → length (chain_text (t ∷ ts)) + 2 ≡ weight term_width (t ∷ ts)
unfolding chain_text
chain_width t ts = omega (arith, length-append (term_text t) (flat_map (λ u. 45 ∷ 62 ∷ term_text u) ts), more_width ts)

-- a chain of no more weight has no longer text
pub chain_shorter : (c d : List Term) → weight term_width c ≤ weight term_width d → length (chain_text c) ≤ length (chain_text d)
unfolding chain_text
chain_shorter [] d h = omega arith
chain_shorter (t ∷ c) [] h = absurd (omega arith)
chain_shorter (t ∷ c) (u ∷ d) h = omega (arith, chain_width t c, chain_width u d)

-- an entry's text, and a semicolon
abbrev pub entry_width : List ℕ × List Term → ℕ
entry_width e = length (entry_text e) + 1

abbrev pub width : Entries → ℕ
width [] = 0
width (e ∷ es) = entry_width e + width es

more_entries : (es : Entries) → length (flat_map (λ f. 59 ∷ entry_text f) es) ≡ width es
more_entries [] = refl
more_entries (e ∷ es) = omega (arith, length-append (entry_text e) (flat_map (λ f. 59 ∷ entry_text f) es), more_entries es)

printed_width : (e : List ℕ × List Term) (es : Entries) → length (printed (e ∷ es)) + 1 ≡ width (e ∷ es)
unfolding printed
printed_width e es = omega (arith, length-append (entry_text e) (flat_map (λ f. 59 ∷ entry_text f) es), more_entries es)

pub printed_shorter : (s u : Entries) → width s ≤ width u → length (printed s) ≤ length (printed u)
unfolding printed
printed_shorter [] u h = omega arith
printed_shorter (e ∷ s) [] h = absurd (omega arith)
printed_shorter (e ∷ s) (f ∷ u) h = omega (arith, printed_width e s, printed_width f u)

pub entry_shorter : (name : List ℕ) (c d : List Term) → weight term_width c ≤ weight term_width d → entry_width (name, c) ≤ entry_width (name, d)
entry_shorter name c d h = omega (arith, length-append name (61 ∷ chain_text c), length-append name (61 ∷ chain_text d), chain_shorter c d h)

-- ---- scenarios

pub kept_width : (set : List ℕ) (n : ℕ) (es : Entries) → width (kept_from set n es) ≤ width es
unfolding kept_from
kept_width set n [] = omega arith
kept_width set n (e ∷ es) =
    let here = entry_shorter e.0 (kept_chain set n e.1) e.1 (kept_light term_width width_off set n e.1) in
    omega (arith, here, kept_width set (after_chain n e.1) es)

put_width : (name : List ℕ) (c : List Term) (es : Entries) (b : Bool) → width (cond b ((name, c) ∷ es) es) ≤ entry_width (name, c) + width es
put_width name c es true = omega arith
put_width name c es false = omega arith

pub tidied_width : (es : Entries) → width (tidied es) ≤ width es
tidied_width [] = omega arith
tidied_width (e ∷ es) =
    let here = entry_shorter e.0 (tidied_chain e.1) e.1 (tidied_light term_width width_joint e.1) in
    omega (arith, here, put_width e.0 (tidied_chain e.1) (tidied es) (nat_lt 0 (length (tidied_chain e.1))), tidied_width es)

pub kept_faults : (set : List ℕ) (n : ℕ) (es : Entries) → all_faults (kept_from set n es) ≤ all_faults es
unfolding kept_from
kept_faults set n [] = omega arith
kept_faults set n (e ∷ es) =
    omega (arith, kept_light fault_of fault_off set n e.1, weight-fault e.1, weight-fault (kept_chain set n e.1), kept_faults set (after_chain n e.1) es)

put_faults : (name : List ℕ) (c : List Term) (es : Entries) (b : Bool) → all_faults (cond b ((name, c) ∷ es) es) ≤ faults_in c + all_faults es
put_faults name c es true = omega arith
put_faults name c es false = omega arith

pub tidied_faults : (es : Entries) → all_faults (tidied es) ≤ all_faults es
tidied_faults [] = omega arith
tidied_faults (e ∷ es) =
    omega (arith, tidied_light fault_of fault_joint e.1, weight-fault e.1, weight-fault (tidied_chain e.1), put_faults e.0 (tidied_chain e.1) (tidied es) (nat_lt 0 (length (tidied_chain e.1))), tidied_faults es)
