-- Edited scenarios keep what each scenario keeps.
use Rattle.std.proofs.Common.{◌≡◌, ℕ, suc, ◌+◌, ◌*◌, ◌<◌, ◌≤◌, List, [], ◌∷◌, Bool, true, false, cond, length, take, filter, nat_lt, ◌&&◌, ◌-◌, zero, Option, Some, None, refl, ap, sym, ◌∙◌, arith, subst}
use Rattle.std.specs.List.{AllByRecursion}
use Rattle.std.specs.Str.{bytes_eq}
use Rattle.std.proofs.lemmas.List.{length-take, append-nil}
use Rattle.std.proofs.Common.{◌++◌, append_assoc}
use Rattle.scenario_values.specs.declared.place.Place.{Place}
use Rattle.scenario_values.specs.Faults.{chain_faults, faults_from}
use Rattle.std.proofs.lemmas.Bool.Decides.{nat_tests}
use Rattle.indexmap.specs.IndexMap.{insert_entry, insert_all}
use Rattle.scenario_values.specs.declared.term.Term.{Term}
use Rattle.std.specs.Prelude.{nat_le}
use Rattle.std.specs.List.{suffix_len, position_or_len}
use Rattle.std.specs.Option.{option_map_or}
use Rattle.scenario_values.specs.Scenario.{Entries, New, DistinctNames, IsScenario, is_off, is_name, is_lawful_term, is_lawful_task, entries_of}
use Rattle.scenario_values.proofs.Weights.{kept_width, kept_faults, tidied_width, tidied_faults, printed_shorter}
use Rattle.scenario_values.specs.Keep.{switched_off, holds, after_term, kept_chain, after_chain, kept_from, kept}
use Rattle.scenario_values.specs.inside.Walks.{StandsAt}
use Rattle.scenario_values.specs.Tidied.{is_live, is_idle, is_endless, joined_counts, joint, join_by, with_count, joined_onto, joined, without_used, up_to_endless, without_idle_end, tidied_chain, tidied}
use Rattle.scenario_values.proofs.Walking.{walk_starts}

-- all terms of a chain are lawful
abbrev Lawful : List Term → Type 0
Lawful ts = AllByRecursion (λ t. is_lawful_term t ≡ true) ts

-- ---- kept

pub kept_length : (set : List ℕ) (n : ℕ) (ts : List Term) → length (kept_chain set n ts) ≡ length ts
unfolding kept_chain
kept_length set n [] = refl
kept_length set n (t ∷ ts) = ap suc (kept_length set (after_term n t) ts)

kept_few : (set : List ℕ) (n : ℕ) (es : Entries) → length (kept_from set n es) ≡ length es
unfolding kept_from
kept_few set n [] = refl
kept_few set n (e ∷ es) = ap suc (kept_few set (after_chain n e.1) es)

kept_all : (P : ℕ → Type 0) (set : List ℕ) (n : ℕ) (es : Entries) → AllByRecursion (λ e. P (length e.1)) es → AllByRecursion (λ e. P (length e.1)) (kept_from set n es)
unfolding kept_from
kept_all P set n [] h = tt
kept_all P set n (e ∷ es) h = (subst P (sym (kept_length set n e.1)) h.0, kept_all P set (after_chain n e.1) es h.1)

kept_new : (name : List ℕ) (set : List ℕ) (n : ℕ) (es : Entries) → New name es → New name (kept_from set n es)
unfolding kept_from
kept_new name set n [] h = tt
kept_new name set n (e ∷ es) h = (h.0, kept_new name set (after_chain n e.1) es h.1)

kept_distinct : (set : List ℕ) (n : ℕ) (es : Entries) → DistinctNames es → DistinctNames (kept_from set n es)
unfolding kept_from
kept_distinct set n [] h = tt
kept_distinct set n (e ∷ es) h = (kept_new e.0 set (after_chain n e.1) es h.0, kept_distinct set (after_chain n e.1) es h.1)

kept_names : (set : List ℕ) (n : ℕ) (es : Entries) → AllByRecursion (λ e. is_name e.0 ≡ true) es → AllByRecursion (λ e. is_name e.0 ≡ true) (kept_from set n es)
unfolding kept_from
kept_names set n [] h = tt
kept_names set n (e ∷ es) h = (h.0, kept_names set (after_chain n e.1) es h.1)

off_lawful : (a b c : Bool) → (a && b && c) ≡ true → (a && b && true) ≡ true
off_lawful true true c h = refl
off_lawful true false c h = absurd cc
off_lawful false b c h = absurd cc

lawful_case : (t : Term) (a b : Bool) → is_lawful_term t ≡ true → is_lawful_term (cond a t (cond b t (switched_off t))) ≡ true
lawful_case t true b h = h
lawful_case t false true h = h
lawful_case t false false h = off_lawful (nat_le t.share 1000000) (option_map_or (λ n. nat_le n 4294967295) t.count true) (is_lawful_task t.task) h

kept_lawful : (set : List ℕ) (n : ℕ) (ts : List Term) → Lawful ts → Lawful (kept_chain set n ts)
unfolding kept_chain
kept_lawful set n [] h = tt
kept_lawful set n (t ∷ ts) h = (lawful_case t (is_off t.task) (holds set n) h.0, kept_lawful set (after_term n t) ts h.1)

kept_terms : (set : List ℕ) (n : ℕ) (es : Entries) → AllByRecursion (λ e. Lawful e.1) es → AllByRecursion (λ e. Lawful e.1) (kept_from set n es)
unfolding kept_from
kept_terms set n [] h = tt
kept_terms set n (e ∷ es) h = (kept_lawful set n e.1 h.0, kept_terms set (after_chain n e.1) es h.1)

pub kept_scenario : (set : List ℕ) (s : Entries) → IsScenario s → IsScenario (kept set s)
kept_scenario set s i = record {
  few_entries = omega (arith, kept_few set 0 s, i.few_entries);
  no_empty_chain = kept_all (λ n. 0 < n) set 0 s i.no_empty_chain;
  short_chains = kept_all (λ n. n ≤ 256) set 0 s i.short_chains;
  distinct_names = kept_distinct set 0 s i.distinct_names;
  lawful_names = kept_names set 0 s i.lawful_names;
  lawful_terms = kept_terms set 0 s i.lawful_terms;
  few_faults = omega (arith, kept_faults set 0 s, i.few_faults);
  short_text = omega (arith, printed_shorter (kept set s) s (kept_width set 0 s), i.short_text);
}

after_one : (n : ℕ) (t : Term) (b : Bool) → cond b n (n + 1) ≤ n + 1
after_one n t true = omega arith
after_one n t false = omega arith

pub after_few : (n : ℕ) (ts : List Term) → after_chain n ts ≤ n + length ts
unfolding after_chain
after_few n [] = omega arith
after_few n (t ∷ ts) = let here : after_term n t ≤ n + 1 = after_one n t (is_off t.task) in let rest = after_few (after_term n t) ts in omega arith

-- ---- tidied

filter_case : (p : Term → Bool) (t : Term) (ts : List Term) (b : Bool) → length (filter p ts) ≤ length ts → length (cond b (t ∷ filter p ts) (filter p ts)) ≤ suc (length ts)
filter_case p t ts true h = omega arith
filter_case p t ts false h = omega arith

filter_few : (p : Term → Bool) (ts : List Term) → length (filter p ts) ≤ length ts
filter_few p [] = omega arith
filter_few p (t ∷ ts) = filter_case p t ts (p t) (filter_few p ts)

take_few : (n : ℕ) (ts : List Term) → length (take n ts) ≤ length ts
take_few n ts = omega (arith, length-take n ts)

join_few : (o : Option ℕ) (t : Term) (rest : List Term) (n : ℕ) → length rest ≤ suc n → length (join_by o t rest) ≤ suc (suc n)
join_few None t rest n h = omega arith
join_few (Some k) t rest n h = omega arith

onto_few : (t : Term) (us : List Term) → length (joined_onto t us) ≤ suc (length us)
unfolding joined_onto
onto_few t [] = omega arith
onto_few t (u ∷ us) = join_few (joint t u) t (joined_onto (with_count (joint t u) t u) us) (length us) (onto_few (with_count (joint t u) t u) us)

joined_few : (ts : List Term) → length (joined ts) ≤ length ts
unfolding joined
joined_few [] = omega arith
joined_few (t ∷ ts) = onto_few t ts

pub tidied_few : (ts : List Term) → length (tidied_chain ts) ≤ length ts
unfolding tidied_chain
tidied_few ts =
    let a = filter_few is_live ts in
    let b : length (up_to_endless (without_used ts)) ≤ length (without_used ts) = take_few _ (without_used ts) in
    let c = joined_few (up_to_endless (without_used ts)) in
    let d : length (without_idle_end (joined (up_to_endless (without_used ts)))) ≤ length (joined (up_to_endless (without_used ts))) = take_few _ (joined (up_to_endless (without_used ts))) in
    omega (arith, a, b, c, d)

put_few : (name : List ℕ) (c : List Term) (es : Entries) (b : Bool) (n : ℕ) → length es ≤ n → length (cond b ((name, c) ∷ es) es) ≤ suc n
put_few name c es true n h = omega arith
put_few name c es false n h = omega arith

tidied_entries_few : (es : Entries) → length (tidied es) ≤ length es
tidied_entries_few [] = omega arith
tidied_entries_few (e ∷ es) = put_few e.0 (tidied_chain e.1) (tidied es) (nat_lt 0 (length (tidied_chain e.1))) (length es) (tidied_entries_few es)

put_all : (P : List ℕ × List Term → Type 0) (name : List ℕ) (c : List Term) (es : Entries) (b : Bool) → (b ≡ true → P (name, c)) → AllByRecursion P es → AllByRecursion P (cond b ((name, c) ∷ es) es)
put_all P name c es true h a = (h refl, a)
put_all P name c es false h a = a

not_empty : (n : ℕ) → nat_lt 0 n ≡ true → 0 < n
not_empty n e = grind (arith, nat_tests)

tidied_none_empty : (es : Entries) → AllByRecursion (λ e. 0 < length e.1) (tidied es)
tidied_none_empty [] = tt
tidied_none_empty (e ∷ es) = put_all (λ e. 0 < length e.1) e.0 (tidied_chain e.1) (tidied es) (nat_lt 0 (length (tidied_chain e.1))) (not_empty (length (tidied_chain e.1))) (tidied_none_empty es)

tidied_short : (es : Entries) → AllByRecursion (λ e. length e.1 ≤ 256) es → AllByRecursion (λ e. length e.1 ≤ 256) (tidied es)
tidied_short [] h = tt
tidied_short (e ∷ es) h = put_all (λ e. length e.1 ≤ 256) e.0 (tidied_chain e.1) (tidied es) (nat_lt 0 (length (tidied_chain e.1))) (λ _. omega (arith, tidied_few e.1, h.0)) (tidied_short es h.1)

tidied_new : (name : List ℕ) (es : Entries) → New name es → New name (tidied es)
tidied_new name [] h = tt
tidied_new name (e ∷ es) h = put_all (λ f. bytes_eq f.0 name ≡ false) e.0 (tidied_chain e.1) (tidied es) (nat_lt 0 (length (tidied_chain e.1))) (λ _. h.0) (tidied_new name es h.1)

put_distinct : (name : List ℕ) (c : List Term) (es : Entries) (b : Bool) → New name es → DistinctNames es → DistinctNames (cond b ((name, c) ∷ es) es)
put_distinct name c es true n d = (n, d)
put_distinct name c es false n d = d

tidied_distinct : (es : Entries) → DistinctNames es → DistinctNames (tidied es)
tidied_distinct [] h = tt
tidied_distinct (e ∷ es) h = put_distinct e.0 (tidied_chain e.1) (tidied es) (nat_lt 0 (length (tidied_chain e.1))) (tidied_new e.0 es h.0) (tidied_distinct es h.1)

tidied_names : (es : Entries) → AllByRecursion (λ e. is_name e.0 ≡ true) es → AllByRecursion (λ e. is_name e.0 ≡ true) (tidied es)
tidied_names [] h = tt
tidied_names (e ∷ es) h = put_all (λ e. is_name e.0 ≡ true) e.0 (tidied_chain e.1) (tidied es) (nat_lt 0 (length (tidied_chain e.1))) (λ _. h.0) (tidied_names es h.1)

filter_lawful_case : (p : Term → Bool) (t : Term) (ts : List Term) (b : Bool) → is_lawful_term t ≡ true → Lawful (filter p ts) → Lawful (cond b (t ∷ filter p ts) (filter p ts))
filter_lawful_case p t ts true h l = (h, l)
filter_lawful_case p t ts false h l = l

filter_lawful : (p : Term → Bool) (ts : List Term) → Lawful ts → Lawful (filter p ts)
filter_lawful p [] h = tt
filter_lawful p (t ∷ ts) h = filter_lawful_case p t ts (p t) h.0 (filter_lawful p ts h.1)

take_lawful : (n : ℕ) (ts : List Term) → Lawful ts → Lawful (take n ts)
take_lawful zero ts h = tt
take_lawful (suc n) [] h = tt
take_lawful (suc n) (t ∷ ts) h = (h.0, take_lawful n ts h.1)

counted_lawful : (a b c d : Bool) → (a && b && c) ≡ true → d ≡ true → (a && d && c) ≡ true
counted_lawful true true c true h e = h
counted_lawful true true c false h e = absurd cc
counted_lawful true false c d h e = absurd cc
counted_lawful false b c d h e = absurd cc

sum_lawful_case : (m n k : ℕ) (b : Bool) → nat_lt 4294967295 (m + n) ≡ b → cond b None (Some (m + n)) ≡ Some k → nat_le k 4294967295 ≡ true
sum_lawful_case m n k true e f = absurd cc
sum_lawful_case m n k false e f = let same : m + n ≡ k = cc in grind (arith, nat_tests)

sum_lawful : (b : Bool) (o p : Option ℕ) (k : ℕ) → cond b (joined_counts o p) None ≡ Some k → nat_le k 4294967295 ≡ true
sum_lawful false o p k e = absurd cc
sum_lawful true None p k e = absurd cc
sum_lawful true (Some m) None k e = absurd cc
sum_lawful true (Some m) (Some n) k e = sum_lawful_case m n k (nat_lt 4294967295 (m + n)) refl e

join_lawful : (t u : Term) (us : List Term) (o : Option ℕ) → joint t u ≡ o → is_lawful_term t ≡ true → is_lawful_term u ≡ true
    → (is_lawful_term (with_count o t u) ≡ true → Lawful (joined_onto (with_count o t u) us)) → Lawful (join_by o t (joined_onto (with_count o t u) us))
join_lawful t u us None e h k f = (h, f k)
join_lawful t u us (Some n) e h k f =
    f (counted_lawful (nat_le t.share 1000000) (option_map_or (λ n. nat_le n 4294967295) t.count true) (is_lawful_task t.task) (nat_le n 4294967295) h (sum_lawful (is_idle t && is_idle u) t.count u.count n e))

onto_lawful : (t : Term) (us : List Term) → is_lawful_term t ≡ true → Lawful us → Lawful (joined_onto t us)
unfolding joined_onto
onto_lawful t [] h l = (h, tt)
onto_lawful t (u ∷ us) h l = join_lawful t u us (joint t u) refl h l.0 (λ k. onto_lawful (with_count (joint t u) t u) us k l.1)

joined_lawful : (ts : List Term) → Lawful ts → Lawful (joined ts)
unfolding joined
joined_lawful [] h = tt
joined_lawful (t ∷ ts) h = onto_lawful t ts h.0 h.1

tidied_lawful : (ts : List Term) → Lawful ts → Lawful (tidied_chain ts)
unfolding tidied_chain
tidied_lawful ts h =
    let c = up_to_endless (without_used ts) in
    take_lawful (length (joined c) - suffix_len is_idle (joined c)) (joined c) (joined_lawful c (take_lawful (position_or_len is_endless (without_used ts) + 1) (without_used ts) (filter_lawful is_live ts h)))

tidied_terms : (es : Entries) → AllByRecursion (λ e. Lawful e.1) es → AllByRecursion (λ e. Lawful e.1) (tidied es)
tidied_terms [] h = tt
tidied_terms (e ∷ es) h = put_all (λ e. Lawful e.1) e.0 (tidied_chain e.1) (tidied es) (nat_lt 0 (length (tidied_chain e.1))) (λ _. tidied_lawful e.1 h.0) (tidied_terms es h.1)

pub tidied_scenario : (s : Entries) → IsScenario s → IsScenario (tidied s)
tidied_scenario s i = record {
  few_entries = omega (arith, tidied_entries_few s, i.few_entries);
  no_empty_chain = tidied_none_empty s;
  short_chains = tidied_short s i.short_chains;
  distinct_names = tidied_distinct s i.distinct_names;
  lawful_names = tidied_names s i.lawful_names;
  lawful_terms = tidied_terms s i.lawful_terms;
  few_faults = omega (arith, tidied_faults s, i.few_faults);
  short_text = omega (arith, printed_shorter (tidied s) s (tidied_width s), i.short_text);
}

-- ---- loops over entries

-- what the loop over the entries keeps
pub record EntriesWalk (set : List ℕ) (done total left : Entries) (number passed : ℕ) : Type 0 where
  pub few : number + 256 * length left ≤ 65536
  pub short : AllByRecursion (λ e. length e.1 ≤ 256) left
  pub stands : StandsAt set number passed
  pub so_far : insert_all bytes_eq done (kept_from set number left) ≡ total

pub walk_begins : (set : List ℕ) (s left done : Entries) → left ≡ s → done ≡ [] → IsScenario s → EntriesWalk set done (entries_of (kept set s)) left 0 0
walk_begins set s left done l d i = record {
  few = omega (arith, ap length l, i.few_entries);
  short = subst (λ (es : Entries). AllByRecursion (λ e. length e.1 ≤ 256) es) (sym l) i.short_chains;
  stands = walk_starts set;
  so_far = ap (λ es. insert_all bytes_eq es (kept_from set 0 left)) d ∙ ap (λ es. insert_all bytes_eq [] (kept_from set 0 es)) l;
}

pub keeping_goes_on : (set : List ℕ) (done more total left rest : Entries) (number passed next then : ℕ) (e : List ℕ × List Term) → left ≡ e ∷ rest
    → more ≡ insert_entry bytes_eq done e.0 (kept_chain set number e.1) → next ≡ after_chain number e.1 → StandsAt set next then
    → EntriesWalk set done total left number passed → EntriesWalk set more total rest next then
unfolding kept_from
keeping_goes_on set done more total left rest number passed next then e l m n stands k =
    let short : AllByRecursion (λ e. length e.1 ≤ 256) (e ∷ rest) = subst (λ (es : Entries). AllByRecursion (λ e. length e.1 ≤ 256) es) l k.short in
    let longer : length left ≡ suc (length rest) = ap length l in
    let one : insert_all bytes_eq done (kept_from set number left) ≡ insert_all bytes_eq (insert_entry bytes_eq done e.0 (kept_chain set number e.1)) (kept_from set (after_chain number e.1) rest) = ap (λ es. insert_all bytes_eq done (kept_from set number es)) l in
    record {
      few = omega (arith, after_few number e.1, short.0, longer, n, k.few);
      short = short.1;
      stands = stands;
      so_far = ap (λ es. insert_all bytes_eq es (kept_from set next rest)) m ∙ ap (λ x. insert_all bytes_eq (insert_entry bytes_eq done e.0 (kept_chain set number e.1)) (kept_from set x rest)) n ∙ sym one ∙ k.so_far;
    }

pub keeping_is_done : (set : List ℕ) (done total left : Entries) (number passed : ℕ) → left ≡ [] → EntriesWalk set done total left number passed → done ≡ total
unfolding kept_from
keeping_is_done set done total left number passed l k = sym (ap (λ es. insert_all bytes_eq done (kept_from set number es)) l) ∙ k.so_far

-- What the loop over the entries keeps if it collects faults.
pub record FaultsWalk (done total : List Place) (left : Entries) (entry : ℕ) : Type 0 where
  pub few : entry + length left ≤ 256
  pub short : AllByRecursion (λ e. length e.1 ≤ 256) left
  pub so_far : done ++ faults_from entry left ≡ total

pub faults_go_on_by : (done more total : List Place) (left rest : Entries) (entry : ℕ) (e : List ℕ × List Term) → left ≡ e ∷ rest
    → more ≡ done ++ chain_faults entry 0 e.1 → FaultsWalk done total left entry → FaultsWalk more total rest (entry + 1)
unfolding faults_from
faults_go_on_by done more total left rest entry e l m k =
    let short : AllByRecursion (λ e. length e.1 ≤ 256) (e ∷ rest) = subst (λ (es : Entries). AllByRecursion (λ e. length e.1 ≤ 256) es) l k.short in
    let longer : length left ≡ suc (length rest) = ap length l in
    let here : done ++ faults_from entry left ≡ done ++ (chain_faults entry 0 e.1 ++ faults_from (entry + 1) rest) = ap (λ es. done ++ faults_from entry es) l in
    record {
      few = omega (arith, longer, k.few);
      short = short.1;
      so_far = ap (λ ps. ps ++ faults_from (entry + 1) rest) m ∙ append_assoc done (chain_faults entry 0 e.1) (faults_from (entry + 1) rest) ∙ sym here ∙ k.so_far;
    }

pub faults_done_by : (done total : List Place) (left : Entries) (entry : ℕ) → left ≡ [] → FaultsWalk done total left entry → done ≡ total
unfolding faults_from
faults_done_by done total left entry l k = sym (ap (λ es. done ++ faults_from entry es) l ∙ append-nil done) ∙ k.so_far
