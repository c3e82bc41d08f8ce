-- What is read keeps the limits of a scenario.
use Rattle.std.proofs.Common.{◌≡◌, ℕ, suc, ◌+◌, ◌<◌, ◌≤◌, List, [], ◌∷◌, Bool, true, false, ◌&&◌, cond, length, Ok, refl, sym, arith, subst, inl, inr, eqb}
use Rattle.std.specs.List.{slice_split, onto_first, AllByRecursion}
use Rattle.std.specs.Str.{bytes_eq}
use Rattle.indexmap.specs.IndexMap.{insert_entry, insert_all}
use Rattle.scenario_values.specs.declared.term.Term.{Term}
use Rattle.scenario_values.specs.Scenario.{Entries, IsScenario, entries_of, New, DistinctNames, faults_in, all_faults, is_name, is_lawful_term}
use Rattle.scenario_grammar.specs.Words.{cut_at_arrows}
use Rattle.scenario_grammar.specs.FirstFault.{reading}
use Rattle.scenario_grammar.specs.Spelling.{SpellsParts, SpellsPieces, Writes, Within}
use Rattle.scenario_grammar.proofs.TextSound.{text_gives}
use Rattle.scenario_grammar.proofs.Inside.{pieces_lack}
use Rattle.scenario_grammar.proofs.Lawful.{IsLawful, pieces_lawful}
use Rattle.scenario_grammar.proofs.Shorter.{printed_long, actions_shorter, all_inserted_long}

-- ---- what entries keep while others are put in

module _ (P : List ℕ → Type 0) (Q : List Term → Type 0) where
  abbrev Keeps : Entries → Type 0
  Keeps es = AllByRecursion (λ e. P e.0 × Q e.1) es

  keeps_one : (es : Entries) (k : List ℕ) (v : List Term) → P k → Q v → Keeps es → Keeps (insert_entry bytes_eq es k v)
  keeps_one [] k v p q h = ((p, q), tt)
  keeps_one (e ∷ es) k v p q h = by_test (bytes_eq k e.0) (keeps_one es k v p q h.1)
    where
      by_test : (t : Bool) → Keeps (insert_entry bytes_eq es k v) → Keeps (cond t ((e.0, v) ∷ es) (e ∷ insert_entry bytes_eq es k v))
      by_test true rest = ((h.0.0, q), h.1)
      by_test false rest = (h.0, rest)

  keeps_all : (es actions : Entries) → Keeps es → Keeps actions → Keeps (insert_all bytes_eq es actions)
  keeps_all es [] h k = h
  keeps_all es (a ∷ more) h k = keeps_all (insert_entry bytes_eq es a.0 a.1) more (keeps_one es a.0 a.1 k.0.0 k.0.1 h) k.1

count_one : (es : Entries) (k : List ℕ) (v : List Term) → (length (insert_entry bytes_eq es k v) ≤ length es + 1) × (all_faults (insert_entry bytes_eq es k v) ≤ all_faults es + faults_in v)
count_one [] k v = (omega arith, omega arith)
count_one (e ∷ es) k v = by_test (bytes_eq k e.0) (count_one es k v)
  where
    Few : Entries → Type 0
    Few xs = (length xs ≤ suc (length es) + 1) × (all_faults xs ≤ faults_in e.1 + all_faults es + faults_in v)

    by_test : (t : Bool) → (length (insert_entry bytes_eq es k v) ≤ length es + 1) × (all_faults (insert_entry bytes_eq es k v) ≤ all_faults es + faults_in v) → Few (cond t ((e.0, v) ∷ es) (e ∷ insert_entry bytes_eq es k v))
    by_test true h = (omega arith, omega arith)
    by_test false h = let a = h.0 in let b = h.1 in (omega arith, omega arith)

count_all : (es actions : Entries) → (length (insert_all bytes_eq es actions) ≤ length es + length actions) × (all_faults (insert_all bytes_eq es actions) ≤ all_faults es + all_faults actions)
count_all es [] = (omega arith, omega arith)
count_all es (a ∷ more) =
    let one = count_one es a.0 a.1 in
    let rest = count_all (insert_entry bytes_eq es a.0 a.1) more in
    let f1 = one.0 in let f2 = rest.0 in let f3 = one.1 in let f4 = rest.1 in
    (omega arith, omega arith)

new_one : (name : List ℕ) (es : Entries) (k : List ℕ) (v : List Term) → bytes_eq k name ≡ false → New name es → New name (insert_entry bytes_eq es k v)
new_one name [] k v differs h = (differs, tt)
new_one name (e ∷ es) k v differs h = by_test (bytes_eq k e.0) (new_one name es k v differs h.1)
  where
    by_test : (t : Bool) → New name (insert_entry bytes_eq es k v) → New name (cond t ((e.0, v) ∷ es) (e ∷ insert_entry bytes_eq es k v))
    by_test true rest = (h.0, h.1)
    by_test false rest = (h.0, rest)

distinct_one : (es : Entries) (k : List ℕ) (v : List Term) → DistinctNames es → DistinctNames (insert_entry bytes_eq es k v)
distinct_one [] k v h = (tt, tt)
distinct_one (e ∷ es) k v h = by_test (bytes_eq k e.0) refl (distinct_one es k v h.1)
  where
    by_test : (t : Bool) → bytes_eq k e.0 ≡ t → DistinctNames (insert_entry bytes_eq es k v) → DistinctNames (cond t ((e.0, v) ∷ es) (e ∷ insert_entry bytes_eq es k v))
    by_test true is rest = (h.0, h.1)
    by_test false is rest = (new_one e.0 es k v is h.0, rest)

distinct_all : (es actions : Entries) → DistinctNames es → DistinctNames (insert_all bytes_eq es actions)
distinct_all es [] h = h
distinct_all es (a ∷ more) h = distinct_all (insert_entry bytes_eq es a.0 a.1) more (distinct_one es a.0 a.1 h)

-- ---- what actions keep

-- a text has at least one part
some_part : (text : List ℕ) → 0 < length (cut_at_arrows text)
unfolding cut_at_arrows
some_part [] = omega arith
some_part (b ∷ []) = omega arith
some_part (b ∷ c ∷ text) = by_test (eqb b 45 && eqb c 62) (cut_at_arrows (c ∷ text))
  where
    by_test : (t : Bool) (parts : List (List ℕ)) → 0 < length (cond t ([] ∷ cut_at_arrows text) (onto_first b parts))
    by_test true parts = omega arith
    by_test false [] = omega arith
    by_test false (p ∷ ps) = omega arith

same_count : (parts : List (List ℕ)) (ts : List Term) → SpellsParts parts ts → length parts ≡ length ts
same_count [] [] h = refl
same_count [] (t ∷ ts) h = absurd h
same_count (p ∷ ps) [] h = absurd h
same_count (p ∷ ps) (t ∷ ts) h = let e = same_count ps ts h.1 in omega arith

spelled_terms : (pieces : List (List ℕ)) (actions : Entries) → SpellsPieces pieces actions → AllByRecursion (λ e. 0 < length e.1) actions
spelled_terms [] [] h = tt
spelled_terms [] (e ∷ es) h = absurd h
spelled_terms (p ∷ ps) [] h = tt
spelled_terms (p ∷ ps) (e ∷ es) (inl h) = spelled_terms ps (e ∷ es) h.1
spelled_terms (p ∷ ps) (e ∷ es) (inr h) =
    let n = same_count (cut_at_arrows h.1.back) e.1 h.1.chain in
    let m = some_part h.1.back in
    (omega arith, spelled_terms ps es h.2)

-- all of these of a chain
record Chained (ts : List Term) : Type 0 where
  pub some : 0 < length ts
  pub few : length ts ≤ 256
  pub lawful : AllByRecursion (λ t. is_lawful_term t ≡ true) ts

abbrev Named : List ℕ → Type 0
Named name = is_name name ≡ true

together : (actions : Entries) → AllByRecursion (λ e. 0 < length e.1) actions → AllByRecursion (λ e. length e.1 ≤ 256) actions → AllByRecursion IsLawful actions → AllByRecursion (λ e. Named e.0 × Chained e.1) actions
together [] some few lawful = tt
together (e ∷ es) some few lawful = ((lawful.0.name, record { some = some.0; few = few.0; lawful = lawful.0.terms }), together es some.1 few.1 lawful.1)

all_some : (es : Entries) → AllByRecursion (λ e. Named e.0 × Chained e.1) es → AllByRecursion (λ e. 0 < length e.1) es
all_some [] h = tt
all_some (e ∷ es) h = (h.0.1.some, all_some es h.1)

all_few : (es : Entries) → AllByRecursion (λ e. Named e.0 × Chained e.1) es → AllByRecursion (λ e. length e.1 ≤ 256) es
all_few [] h = tt
all_few (e ∷ es) h = (h.0.1.few, all_few es h.1)

all_named : (es : Entries) → AllByRecursion (λ e. Named e.0 × Chained e.1) es → AllByRecursion (λ e. is_name e.0 ≡ true) es
all_named [] h = tt
all_named (e ∷ es) h = (h.0.0, all_named es h.1)

all_lawful : (es : Entries) → AllByRecursion (λ e. Named e.0 × Chained e.1) es → AllByRecursion (λ e. AllByRecursion (λ t. is_lawful_term t ≡ true) e.1) es
all_lawful [] h = tt
all_lawful (e ∷ es) h = (h.0.1.lawful, all_lawful es h.1)

-- what is spelled within the limits is a scenario
pub spelled_keeps : (text : List ℕ) (actions : Entries) → Writes text actions → Within text actions → IsScenario (entries_of actions)
spelled_keeps text actions writes within =
    let lawful = pieces_lawful (slice_split (λ b. eqb b 59) text) actions writes (pieces_lack 59 text) in
    let kept = keeps_all Named Chained [] actions tt (together actions (spelled_terms (slice_split (λ b. eqb b 59) text) actions writes) within.few_terms lawful) in
    let counts = count_all [] actions in
    let c1 = counts.0 in let c2 = counts.1 in
    let few = within.few_actions in let faults = within.few_faults in let bytes = within.bytes in
    let long = printed_long (entries_of actions) in
    let put = all_inserted_long [] actions in
    let short = actions_shorter text actions writes in
    record {
      few_entries = omega arith;
      no_empty_chain = all_some (entries_of actions) kept;
      short_chains = all_few (entries_of actions) kept;
      distinct_names = distinct_all [] actions tt;
      lawful_names = all_named (entries_of actions) kept;
      lawful_terms = all_lawful (entries_of actions) kept;
      few_faults = omega arith;
      short_text = omega arith;
    }

pub reading_keeps : (text : List ℕ) (s : Entries) → reading text ≡ Ok s → IsScenario s
reading_keeps text s h =
    let g = text_gives text s h in
    let P : Entries → Type 0 = λ x. IsScenario x in
    subst P (sym g.3) (spelled_keeps text g.0 g.1 g.2)
