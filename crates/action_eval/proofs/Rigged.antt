-- Rigged hits make a scenario.
use Rattle.std.proofs.Common.{◌≡◌, ℕ, suc, ◌+◌, ◌-◌, ◌*◌, ◌^◌, ◌<◌, ◌≤◌, ◌==◌, nat_le, cond, Bool, true, false, Some, None, List, [], ◌∷◌, ◌++◌, length, append_assoc, length-append, refl, ap, sym, subst, ◌∙◌, arith}
use Rattle.std.proofs.lemmas.List.{append-nil}
use Rattle.std.proofs.lemmas.Bool.Decides.{nat_tests}
use Rattle.std.proofs.lemmas.Fmt.{length-decimal-le}
use Rattle.std.specs.Fmt.{decimal}
use Rattle.std.specs.List.{AllByRecursion, flat_map}
use Rattle.std.specs.Str.{bytes_eq}
use Rattle.scenario_values.specs.declared.term.Term.{Term}
use Rattle.scenario_values.specs.declared.term.Task.{Task}
use Rattle.scenario_values.specs.declared.term.Task.TheVariants as task
use Rattle.scenario_values.specs.Scenario.{Entries, New, DistinctNames, IsScenario, is_name, is_lawful_term, faults_in, all_faults}
use Rattle.scenario_values.specs.Printed.{share_text, count_text, task_text, term_text, chain_text, entry_text, printed}
use Rattle.action_eval.specs.declared.rig.Rig.{Rig}
use Rattle.action_eval.specs.declared.rig.Kind.{Kind}
use Rattle.action_eval.specs.declared.rig.Kind.TheVariants.{OnceReturn, OnwardReturn, OncePanic}
use Rattle.action_eval.specs.Catalogue.{IsCatalogue, HasDistinct}
use Rattle.action_eval.specs.RiggedScenario.{chain_from, terms_at, done_after, rigged, offs, term_of, entry, entries_from, rigged_scenario, full, HasLawfulText, HaveLawfulTexts}

-- what was built and what is left are the whole, also after one step
pub goes_on : {A : Type 0} (old new here rest whole : List A) → old ++ (here ++ rest) ≡ whole → new ≡ old ++ here → new ++ rest ≡ whole
goes_on old new here rest whole h e = ap (λ r. r ++ rest) e ∙ append_assoc old here rest ∙ h

pub chain_more : (p done next : ℕ) (old new : List Term) (r : Rig) (rs rest : List Rig) (whole : List Term) → rs ≡ r ∷ rest → new ≡ old ++ terms_at p done r → next ≡ done_after p done r → old ++ chain_from p done rs ≡ whole → new ++ chain_from p next rest ≡ whole
chain_more p done next old new r rs rest whole split terms after h =
    ap (λ n. new ++ chain_from p n rest) after
    ∙ goes_on old new (terms_at p done r) (chain_from p (done_after p done r) rest) whole (ap (λ l. old ++ chain_from p done l) (sym split) ∙ h) terms

pub chain_done : (p done : ℕ) (terms : List Term) (rs : List Rig) (whole : List Term) → rs ≡ [] → terms ++ chain_from p done rs ≡ whole → terms ≡ whole
chain_done p done terms rs whole none h = sym (append-nil terms) ∙ ap (λ l. terms ++ chain_from p done l) (sym none) ∙ h

-- lawful terms
abbrev pub AreLawful : List Term → Type 0
AreLawful ts = AllByRecursion (λ t. is_lawful_term t ≡ true) ts

-- their hits' numbers are 32-bit ones
abbrev pub AreSmall : List Rig → Type 0
AreSmall rs = AllByRecursion (λ r. r.site.hit < 2 ^ 32) rs

both_lawful : (a b : List Term) → AreLawful a → AreLawful b → AreLawful (a ++ b)
both_lawful [] b h k = k
both_lawful (x ∷ xs) b h k = (h.0, both_lawful xs b h.1 k)

off_lawful : (n : ℕ) → n < 2 ^ 32 → is_lawful_term (full (Some n) task.Off) ≡ true
off_lawful n h = grind (arith, nat_tests, h)

offs_lawful_case : (n : ℕ) (b : Bool) → n < 2 ^ 32 → AreLawful (cond b [] (full (Some n) task.Off ∷ []))
offs_lawful_case n true h = tt
offs_lawful_case n false h = (off_lawful n h, tt)

term_lawful : (kind : Kind) → HasLawfulText kind → AreLawful (term_of kind ∷ [])
term_lawful (OnceReturn None) h = (refl, tt)
term_lawful (OnceReturn (Some text)) h = (h.0, tt)
term_lawful (OnwardReturn None) h = (refl, tt)
term_lawful (OnwardReturn (Some text)) h = (h.0, tt)
term_lawful OncePanic h = (refl, tt)

terms_lawful_case : (done : ℕ) (r : Rig) (b : Bool) → r.site.hit < 2 ^ 32 → HasLawfulText r.kind → AreLawful (cond b (rigged done r) [])
terms_lawful_case done r true h k =
    let n = r.site.hit - done - 1 in
    both_lawful (offs n) (term_of r.kind ∷ []) (offs_lawful_case n (n == 0) (omega (arith, h))) (term_lawful r.kind k)
terms_lawful_case done r false h k = tt

chain_lawful : (p done : ℕ) (rs : List Rig) → AreSmall rs → HaveLawfulTexts rs → AreLawful (chain_from p done rs)
chain_lawful p done [] h k = tt
chain_lawful p done (r ∷ rs) h k = both_lawful (terms_at p done r) _ (terms_lawful_case done r (r.site.point == p) h.0 k.0) (chain_lawful p (done_after p done r) rs h.1 k.1)

-- few terms
offs_few : (n : ℕ) → length (offs n) ≤ 1
offs_few n = elim (n == 0) as (λ b. length (cond b [] (full (Some n) task.Off ∷ [])) ≤ 1) [ true ↦ omega arith | false ↦ omega arith ]

two : (a b c : ℕ) → a ≤ 1 → b ≡ a + 1 → b ≤ 2
two a b c h e = omega arith

rigged_few : (done : ℕ) (r : Rig) → length (rigged done r) ≤ 2
rigged_few done r = two (length (offs (r.site.hit - done - 1))) _ 0 (offs_few _) (length-append (offs (r.site.hit - done - 1)) (term_of r.kind ∷ []))

terms_few : (p done : ℕ) (r : Rig) → length (terms_at p done r) ≤ 2
terms_few p done r = elim (r.site.point == p) as (λ b. length (cond b (rigged done r) []) ≤ 2) [ true ↦ rigged_few done r | false ↦ omega arith ]

sum_few : (a b c n : ℕ) → a ≤ 2 → b ≤ 2 * n → c ≡ a + b → c ≤ 2 * suc n
sum_few a b c n h k e = omega arith

chain_few : (p done : ℕ) (rs : List Rig) → length (chain_from p done rs) ≤ 2 * length rs
chain_few p done [] = omega arith
chain_few p done (r ∷ rs) = sum_few (length (terms_at p done r)) _ _ (length rs) (terms_few p done r) (chain_few p (done_after p done r) rs) (length-append (terms_at p done r) (chain_from p (done_after p done r) rs))

-- faults
faults_append : (a b : List Term) → faults_in (a ++ b) ≡ faults_in a + faults_in b
faults_append [] b = omega arith
faults_append (x ∷ xs) b = regroup _ _ _ _ (faults_append xs b)
  where
    regroup : (k a b c : ℕ) → c ≡ a + b → k + c ≡ (k + a) + b
    regroup k a b c e = omega arith

abbrev at : ℕ → List Rig → ℕ
at p [] = 0
at p (r ∷ rs) = cond (r.site.point == p) 1 0 + at p rs

abbrev above : ℕ → List Rig → ℕ
above p [] = 0
above p (r ∷ rs) = cond (nat_le p r.site.point) 1 0 + above p rs

offs_no_fault : (n : ℕ) → faults_in (offs n) ≡ 0
offs_no_fault n = elim (n == 0) as (λ b. faults_in (cond b [] (full (Some n) task.Off ∷ [])) ≡ 0) [ true ↦ refl | false ↦ refl ]

one_fault : (kind : Kind) → faults_in (term_of kind ∷ []) ≡ 1
one_fault (OnceReturn text) = refl
one_fault (OnwardReturn text) = refl
one_fault OncePanic = refl

rigged_fault : (done : ℕ) (r : Rig) → faults_in (rigged done r) ≡ 1
rigged_fault done r = faults_append (offs (r.site.hit - done - 1)) (term_of r.kind ∷ []) ∙ one (offs_no_fault (r.site.hit - done - 1)) (one_fault r.kind)
  where
    one : {a b : ℕ} → a ≡ 0 → b ≡ 1 → a + b ≡ 1
    one e f = omega arith

terms_fault : (p done : ℕ) (r : Rig) → faults_in (terms_at p done r) ≡ cond (r.site.point == p) 1 0
terms_fault p done r = elim (r.site.point == p) as (λ b. faults_in (cond b (rigged done r) []) ≡ cond b 1 0) [ true ↦ rigged_fault done r | false ↦ refl ]

sums : (a b c d : ℕ) → a ≡ c → b ≡ d → a + b ≡ c + d
sums a b c d e f = omega arith

chain_fault : (p done : ℕ) (rs : List Rig) → faults_in (chain_from p done rs) ≡ at p rs
chain_fault p done [] = refl
chain_fault p done (r ∷ rs) = faults_append (terms_at p done r) (chain_from p (done_after p done r) rs) ∙ sums _ _ _ _ (terms_fault p done r) (chain_fault p (done_after p done r) rs)

-- a rigged hit at p or past it is at p, or past it
here_or_past : (p q : ℕ) → cond (q == p) 1 0 + cond (nat_le (p + 1) q) 1 0 ≤ cond (nat_le p q) 1 0
here_or_past p q = grind (arith, nat_tests)

four : (a b c d e f : ℕ) → a + b ≤ c → d + e ≤ f → (a + d) + (b + e) ≤ c + f
four a b c d e f h k = omega arith

at_above : (p : ℕ) (rs : List Rig) → at p rs + above (p + 1) rs ≤ above p rs
at_above p [] = omega arith
at_above p (r ∷ rs) = four _ _ _ _ _ _ (here_or_past p r.site.point) (at_above p rs)

at_most_one : (b : Bool) → cond b 1 0 ≤ 1
at_most_one true = omega arith
at_most_one false = omega arith

above_few : (p : ℕ) (rs : List Rig) → above p rs ≤ length rs
above_few p [] = omega arith
above_few p (r ∷ rs) = next _ _ _ (at_most_one (nat_le p r.site.point)) (above_few p rs)
  where
    next : (a b n : ℕ) → a ≤ 1 → b ≤ n → a + b ≤ suc n
    next a b n h k = omega arith

entry_faults : (name : List ℕ) (ts : List Term) → all_faults (entry name ts) ≡ faults_in ts
entry_faults name [] = refl
entry_faults name (t ∷ ts) = same (faults_in (t ∷ ts))
  where
    same : (n : ℕ) → n + 0 ≡ n
    same n = omega arith

faults_both : (a b : Entries) → all_faults (a ++ b) ≡ all_faults a + all_faults b
faults_both [] b = omega arith
faults_both (x ∷ xs) b = regroup (faults_in x.1) _ _ _ (faults_both xs b)
  where
    regroup : (k a b c : ℕ) → c ≡ a + b → k + c ≡ (k + a) + b
    regroup k a b c e = omega arith

entries_faults : (p : ℕ) (names : List (List ℕ)) (rs : List Rig) → all_faults (entries_from p names rs) ≤ above p rs
entries_faults p [] rs = omega arith
entries_faults p (name ∷ names) rs =
    total _ _ _ _ _ _ (faults_both (entry name (chain_from p 0 rs)) (entries_from (p + 1) names rs)) (entry_faults name (chain_from p 0 rs) ∙ chain_fault p 0 rs) (entries_faults (p + 1) names rs) (at_above p rs)
  where
    total : (a b c d e f : ℕ) → a ≡ b + c → b ≡ d → c ≤ e → d + e ≤ f → a ≤ f
    total a b c d e f h k l m = omega arith

-- width: how long the printed form is, with an arrow or a semicolon after each part
abbrev term_width : Term → ℕ
term_width t = length (term_text t) + 2

abbrev width : List Term → ℕ
width [] = 0
width (t ∷ ts) = term_width t + width ts

width_both : (a b : List Term) → width (a ++ b) ≡ width a + width b
width_both [] b = omega arith
width_both (x ∷ xs) b = omega (arith, width_both xs b)

width_parts : (t : Term) → term_width t ≡ length (share_text t.share) + length (count_text t.count) + length (task_text t.task) + 2
unfolding term_text
width_parts t = omega (arith, length-append (share_text t.share ++ count_text t.count) (task_text t.task), length-append (share_text t.share) (count_text t.count))

off_width : (n : ℕ) → n < 2 ^ 32 → term_width (full (Some n) task.Off) ≤ 16
unfolding share_text
off_width n h =
    omega (arith, width_parts (full (Some n) task.Off), length-append (decimal n) (42 ∷ []), length-decimal-le 10 n (omega arith) (omega arith) (omega (arith, h)))

offs_width_case : (n : ℕ) (b : Bool) → n < 2 ^ 32 → width (cond b [] (full (Some n) task.Off ∷ [])) ≤ 16
offs_width_case n true h = omega arith
offs_width_case n false h = omega (arith, off_width n h)

once_width : (k : Task) → length (task_text k) ≤ 40 → term_width (full (Some 1) k) ≤ 44
unfolding share_text
once_width k h =
    omega (arith, width_parts (full (Some 1) k), length-append (decimal 1) (42 ∷ []), length-decimal-le 1 1 (omega arith) (omega arith) (omega arith), h)

onward_width : (k : Task) → length (task_text k) ≤ 40 → term_width (full None k) ≤ 44
unfolding share_text
onward_width k h = omega (arith, width_parts (full None k), h)

-- a return with a text
return_width : (text : List ℕ) → length text ≤ 32 → length (task_text (task.Return (Some text))) ≤ 40
return_width text h = omega (arith, length-append text (41 ∷ []), h)

term_of_width : (kind : Kind) → HasLawfulText kind → width (term_of kind ∷ []) ≤ 44
term_of_width (OnceReturn None) h = omega (arith, once_width (task.Return None) (omega arith))
term_of_width (OnceReturn (Some text)) h = omega (arith, once_width (task.Return (Some text)) (return_width text h.1))
term_of_width (OnwardReturn None) h = omega (arith, onward_width (task.Return None) (omega arith))
term_of_width (OnwardReturn (Some text)) h = omega (arith, onward_width (task.Return (Some text)) (return_width text h.1))
term_of_width OncePanic h = omega (arith, once_width (task.Panic None) (omega arith))

terms_width_case : (done : ℕ) (r : Rig) (b : Bool) → r.site.hit < 2 ^ 32 → HasLawfulText r.kind → width (cond b (rigged done r) []) ≤ 60 * cond b 1 0
terms_width_case done r true h k =
    let n = r.site.hit - done - 1 in
    omega (arith, width_both (offs n) (term_of r.kind ∷ []), offs_width_case n (n == 0) (omega (arith, h)), term_of_width r.kind k)
terms_width_case done r false h k = omega arith

chain_width : (p done : ℕ) (rs : List Rig) → AreSmall rs → HaveLawfulTexts rs → width (chain_from p done rs) ≤ 60 * at p rs
chain_width p done [] h k = omega arith
chain_width p done (r ∷ rs) h k =
    let here = terms_width_case done r (r.site.point == p) h.0 k.0 in
    let more = chain_width p (done_after p done r) rs h.1 k.1 in
    omega (arith, width_both (terms_at p done r) (chain_from p (done_after p done r) rs), here, more)

more_width : (ts : List Term) → length (flat_map (λ u. 45 ∷ 62 ∷ term_text u) ts) ≡ width ts
more_width [] = refl
more_width (t ∷ ts) = omega (arith, length-append (term_text t) (flat_map (λ u. 45 ∷ 62 ∷ term_text u) ts), more_width ts)

text_width : (t : Term) (ts : List Term) → length (chain_text (t ∷ ts)) + 2 ≡ width (t ∷ ts)
unfolding chain_text
text_width t ts = omega (arith, length-append (term_text t) (flat_map (λ u. 45 ∷ 62 ∷ term_text u) ts), more_width ts)

abbrev all_width : Entries → ℕ
all_width [] = 0
all_width (e ∷ es) = length (entry_text e) + 1 + all_width es

all_width_both : (a b : Entries) → all_width (a ++ b) ≡ all_width a + all_width b
all_width_both [] b = omega arith
all_width_both (x ∷ xs) b = omega (arith, all_width_both xs b)

entry_width : (name : List ℕ) (ts : List Term) → all_width (entry name ts) ≤ length name + width ts
entry_width name [] = omega arith
entry_width name (t ∷ ts) = omega (arith, length-append name (61 ∷ chain_text (t ∷ ts)), text_width t ts)

entries_width : (p : ℕ) (names : List (List ℕ)) (rs : List Rig) → AreSmall rs → HaveLawfulTexts rs → AllByRecursion (λ name. length name ≤ 200) names
    → all_width (entries_from p names rs) ≤ 200 * length names + 60 * above p rs
entries_width p [] rs h t k = omega arith
entries_width p (name ∷ names) rs h t k =
    let here = entry_width name (chain_from p 0 rs) in
    let more = entries_width (p + 1) names rs h t k.1 in
    omega (arith, all_width_both (entry name (chain_from p 0 rs)) (entries_from (p + 1) names rs), here, more, chain_width p 0 rs h t, at_above p rs, k.0)

more_entries : (es : Entries) → length (flat_map (λ f. 59 ∷ entry_text f) es) ≡ all_width es
more_entries [] = refl
more_entries (e ∷ es) = omega (arith, length-append (entry_text e) (flat_map (λ f. 59 ∷ entry_text f) es), more_entries es)

printed_width : (s : Entries) → length (printed s) ≤ all_width s
unfolding printed
printed_width [] = omega arith
printed_width (e ∷ es) = omega (arith, length-append (entry_text e) (flat_map (λ f. 59 ∷ entry_text f) es), more_entries es)

-- entries
abbrev AllEntries : ((List ℕ × List Term) → Type 0) → Entries → Type 0
AllEntries P s = AllByRecursion P s

pub all_both : (P : (List ℕ × List Term) → Type 0) (a b : Entries) → AllEntries P a → AllEntries P b → AllEntries P (a ++ b)
all_both P [] b h k = k
all_both P (x ∷ xs) b h k = (h.0, all_both P xs b h.1 k)

pub entry_all : (P : (List ℕ × List Term) → Type 0) (name : List ℕ) (ts : List Term) → (0 < length ts → P (name, ts)) → AllEntries P (entry name ts)
entry_all P name [] h = tt
entry_all P name (t ∷ ts) h = (h (omega arith), tt)

-- what holds of each point's entry
entries_all : (P : (List ℕ × List Term) → Type 0) (Q : List ℕ → Type 0) (rs : List Rig) → ((name : List ℕ) (p : ℕ) → Q name → 0 < length (chain_from p 0 rs) → P (name, chain_from p 0 rs))
    → (p : ℕ) (names : List (List ℕ)) → AllByRecursion Q names → AllEntries P (entries_from p names rs)
entries_all P Q rs h p [] k = tt
entries_all P Q rs h p (name ∷ names) k = all_both P (entry name (chain_from p 0 rs)) (entries_from (p + 1) names rs) (entry_all P name (chain_from p 0 rs) (h name p k.0)) (entries_all P Q rs h (p + 1) names k.1)

any : (names : List (List ℕ)) → AllByRecursion (λ _. Unit {0}) names
any [] = tt
any (name ∷ names) = (tt, any names)

entry_few : (name : List ℕ) (ts : List Term) → length (entry name ts) ≤ 1
entry_few name [] = omega arith
entry_few name (t ∷ ts) = omega arith

entries_few : (p : ℕ) (names : List (List ℕ)) (rs : List Rig) → length (entries_from p names rs) ≤ length names
entries_few p [] rs = omega arith
entries_few p (name ∷ names) rs = omega (arith, entry_few name (chain_from p 0 rs), entries_few (p + 1) names rs, length-append (entry name (chain_from p 0 rs)) (entries_from (p + 1) names rs))

entry_distinct : (name : List ℕ) (ts : List Term) (s : Entries) → New name s → DistinctNames s → DistinctNames (entry name ts ++ s)
entry_distinct name [] s h d = d
entry_distinct name (t ∷ ts) s h d = (h, d)

entries_distinct : (p : ℕ) (names : List (List ℕ)) (rs : List Rig) → HasDistinct names → DistinctNames (entries_from p names rs)
entries_distinct p [] rs d = tt
entries_distinct p (name ∷ names) rs d =
    entry_distinct name (chain_from p 0 rs) (entries_from (p + 1) names rs)
    (entries_all (λ e. bytes_eq e.0 name ≡ false) (λ other. bytes_eq other name ≡ false) rs (λ n q h _. h) (p + 1) names d.0) (entries_distinct (p + 1) names rs d.1)

short_chain : (a n : ℕ) → a ≤ 2 * n → n ≤ 64 → a ≤ 256
short_chain a n h k = omega arith

-- rigged hits make a scenario
pub rigged_scenario_keeps : (names : List (List ℕ)) (rs : List Rig) → IsCatalogue names → length rs ≤ 64 → AreSmall rs → HaveLawfulTexts rs → IsScenario (rigged_scenario names rs)
unfolding rigged_scenario
rigged_scenario_keeps names rs c few small texts = record {
  few_entries = omega (arith, entries_few 0 names rs, c.few);
  no_empty_chain = entries_all (λ e. 0 < length e.1) (λ _. Unit {0}) rs (λ n p _ h. h) 0 names (any names);
  short_chains = entries_all (λ e. length e.1 ≤ 256) (λ _. Unit {0}) rs (λ n p _ _. short_chain (length (chain_from p 0 rs)) (length rs) (chain_few p 0 rs) few) 0 names (any names);
  distinct_names = entries_distinct 0 names rs c.distinct;
  lawful_names = entries_all (λ e. is_name e.0 ≡ true) (λ n. is_name n ≡ true) rs (λ n p h _. h) 0 names c.lawful;
  lawful_terms = entries_all (λ e. AreLawful e.1) (λ _. Unit {0}) rs (λ n p _ _. chain_lawful p 0 rs small texts) 0 names (any names);
  few_faults = omega (arith, entries_faults 0 names rs, above_few 0 rs, few);
  short_text = omega (arith, printed_width (entries_from 0 names rs), entries_width 0 names rs small texts c.short, above_few 0 rs, few, c.few);
}

none_keep : IsScenario []
unfolding printed
none_keep = record {
  few_entries = omega arith;
  no_empty_chain = tt;
  short_chains = tt;
  distinct_names = tt;
  lawful_names = tt;
  lawful_terms = tt;
  few_faults = omega arith;
  short_text = omega arith;
}

-- and so does nothing
pub nothing_keeps : (s : Entries) → s ≡ [] → IsScenario s
nothing_keeps s e = subst (λ (s : Entries). IsScenario s) (sym e) none_keep
