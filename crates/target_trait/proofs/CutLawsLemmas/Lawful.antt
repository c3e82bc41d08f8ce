-- A scenario with the entry that keeps only some writes is within the limits of scenarios.
use Rattle.std.proofs.Common.{◌≡◌, ℕ, ◌+◌, ◌*◌, ◌^◌, ◌<◌, ◌≤◌, eqb, Bool, true, false, cond, List, [], ◌∷◌, ◌++◌, length, Some, None, refl, ap, arith, length-append}
use Rattle.std.specs.Fmt.{decimal}
use Rattle.std.specs.List.{AllByRecursion, flat_map}
use Rattle.std.specs.Str.{bytes_eq}
use Rattle.std.proofs.lemmas.Bool.Decides.{nat_tests}
use Rattle.std.proofs.lemmas.Fmt.{length-decimal-le}
use Rattle.std.proofs.lemmas.Grind.{flat_map-append}
use Rattle.scenario_values.specs.declared.term.Term.{Term}
use Rattle.scenario_values.specs.declared.term.Task.TheVariants as task
use Rattle.scenario_values.specs.Printed.{chain_text, count_text, entry_text, printed, share_text, task_text, term_text}
use Rattle.scenario_values.specs.Scenario.{Entries, DistinctNames, IsScenario, all_faults, faults_in, is_lawful_term, is_name, is_off}
use Rattle.action_eval.specs.RiggedScenario.{entry, full}
use Rattle.action_eval.proofs.Rigged.{all_both, entry_all}
use Rattle.action_eval.proofs.TidiedEntries.{flipped}
use Rattle.target_trait.specs.cut_laws.KeptSets.{CanTakeIn, LacksKeep, keep_chain, keeping}
use Rattle.target_trait.proofs.CutLawsLemmas.Names.{keep_name}

-- ---- each term

pub record IsShort (t : Term) : Type 0 where
  pub lawful : is_lawful_term t ≡ true
  pub text : length (term_text t) ≤ 14

-- a count's text has at most ten digits and a star
text_parts : (t : Term) → length (term_text t) ≡ length (share_text t.share) + length (count_text t.count) + length (task_text t.task)
unfolding term_text
text_parts t = omega (arith, length-append (share_text t.share ++ count_text t.count) (task_text t.task), length-append (share_text t.share) (count_text t.count))

off_short : (n : ℕ) → n < 2 ^ 32 → IsShort (full (Some n) task.Off)
unfolding share_text
off_short n h =
    record {
      lawful = grind (arith, nat_tests, h);
      text = omega (arith, text_parts (full (Some n) task.Off), length-append (decimal n) (42 ∷ []), length-decimal-le 10 n (omega arith) (omega arith) (omega (arith, h)));
    }

return_short : IsShort (full (Some 1) (task.Return None))
unfolding share_text
return_short =
    record {
      lawful = refl;
      text = omega (arith, text_parts (full (Some 1) (task.Return None)), length-append (decimal 1) (42 ∷ []), length-decimal-le 1 1 (omega arith) (omega arith) (omega arith));
    }

abbrev AreShort : List Term → Type 0
AreShort ts = AllByRecursion (λ t. IsShort t) ts

offs_before : (n : ℕ) (ts : List Term) (b : Bool) → n < 2 ^ 32 → AreShort ts → AreShort (cond b [] (full (Some n) task.Off ∷ []) ++ ts)
offs_before n ts true h k = k
offs_before n ts false h k = (off_short n h, k)

chain_short : (lost : ℕ) (keep : List Bool) → lost + length keep < 2 ^ 32 → AreShort (keep_chain lost keep)
chain_short lost [] h = tt
chain_short lost (true ∷ keep) h =
    offs_before lost (full (Some 1) (task.Return None) ∷ keep_chain 0 keep) (eqb lost 0) (omega (arith, h)) (return_short, chain_short 0 keep (omega (arith, h)))
chain_short lost (false ∷ keep) h = chain_short (lost + 1) keep (omega (arith, h))

lawful_all : (ts : List Term) → AreShort ts → AllByRecursion (λ t. is_lawful_term t ≡ true) ts
lawful_all [] h = tt
lawful_all (t ∷ ts) h = (h.0.lawful, lawful_all ts h.1)

-- ---- the faults

one_fault : (b : Bool) → cond b 0 1 ≤ 1
one_fault true = omega arith
one_fault false = omega arith

few_faults : (ts : List Term) → faults_in ts ≤ length ts
few_faults [] = omega arith
few_faults (t ∷ ts) = omega (arith, one_fault (is_off t.task), few_faults ts)

faults_more : (s : Entries) (c : List Term) → all_faults (s ++ entry keep_name c) ≤ all_faults s + length c
faults_more [] [] = omega arith
faults_more [] (t ∷ ts) = omega (arith, few_faults (t ∷ ts))
faults_more (x ∷ s) c = omega (arith, faults_more s c)

-- ---- the text

more_text : (ts : List Term) → AreShort ts → length (flat_map (λ u. 45 ∷ 62 ∷ term_text u) ts) ≤ 16 * length ts
more_text [] h = omega arith
more_text (t ∷ ts) h = omega (arith, length-append (term_text t) (flat_map (λ u. 45 ∷ 62 ∷ term_text u) ts), more_text ts h.1, h.0.text)

entry_short : (t : Term) (ts : List Term) → AreShort (t ∷ ts) → length (entry_text (keep_name, t ∷ ts)) ≤ 16 * length (t ∷ ts) + 12
unfolding chain_text
entry_short t ts h =
    omega (arith, length-append keep_name (61 ∷ chain_text (t ∷ ts)), length-append (term_text t) (flat_map (λ u. 45 ∷ 62 ∷ term_text u) ts), more_text ts h.1, h.0.text)

text_more : (s : Entries) (c : List Term) → AreShort c → length (printed (s ++ entry keep_name c)) ≤ length (printed s) + 16 * length c + 13
unfolding printed
text_more [] [] h = omega arith
text_more [] (t ∷ ts) h = omega (arith, length-append (entry_text (keep_name, t ∷ ts)) [], entry_short t ts h)
text_more (x ∷ s) [] h =
    let more = λ (f : List ℕ × List Term). 59 ∷ entry_text f in
    omega (arith, length-append (entry_text x) (flat_map more (s ++ [])), length-append (entry_text x) (flat_map more s), ap length (flat_map-append more s []), length-append (flat_map more s) [])
text_more (x ∷ s) (t ∷ ts) h =
    let more = λ (f : List ℕ × List Term). 59 ∷ entry_text f in
    let last : List (List ℕ × List Term) = (keep_name, t ∷ ts) ∷ [] in
    omega (
      arith,
      length-append (entry_text x) (flat_map more (s ++ last)),
      length-append (entry_text x) (flat_map more s),
      ap length (flat_map-append more s last),
      length-append (flat_map more s) (flat_map more last),
      length-append (59 ∷ entry_text (keep_name, t ∷ ts)) [],
      entry_short t ts h,
    )

-- ---- the scenario

one_entry : (name : List ℕ) (c : List Term) → length (entry name c) ≤ 1
one_entry name [] = omega arith
one_entry name (t ∷ ts) = omega arith

still_distinct : (s : Entries) (c : List Term) → LacksKeep s → DistinctNames s → DistinctNames (s ++ entry keep_name c)
still_distinct [] [] n d = tt
still_distinct [] (t ∷ ts) n d = (tt, tt)
still_distinct (x ∷ s) c n d = (
  all_both (λ f. bytes_eq f.0 x.0 ≡ false) s (entry keep_name c) d.0 (entry_all (λ f. bytes_eq f.0 x.0 ≡ false) keep_name c (λ some. flipped x.0 keep_name n.0)),
  still_distinct s c n.1 d.1,
)

pub keeps_limits : (s : Entries) (keep : List Bool) → IsScenario s → LacksKeep s → length keep < 2 ^ 32 → CanTakeIn s (length (keep_chain 0 keep)) → IsScenario (keeping keep s)
keeps_limits s keep i lacks few room =
    let c : List Term = keep_chain 0 keep in
    let short : AreShort c = chain_short 0 keep (omega (arith, few)) in
    record {
      few_entries = omega (arith, room.entries, one_entry keep_name c, length-append s (entry keep_name c));
      no_empty_chain = all_both (λ e. 0 < length e.1) s (entry keep_name c) i.no_empty_chain (entry_all (λ e. 0 < length e.1) keep_name c (λ some. some));
      short_chains = all_both (λ e. length e.1 ≤ 256) s (entry keep_name c) i.short_chains (entry_all (λ e. length e.1 ≤ 256) keep_name c (λ some. room.few));
      distinct_names = still_distinct s c lacks i.distinct_names;
      lawful_names = all_both (λ e. is_name e.0 ≡ true) s (entry keep_name c) i.lawful_names (entry_all (λ e. is_name e.0 ≡ true) keep_name c (λ some. refl));
      lawful_terms =
          all_both (λ e. AllByRecursion (λ t. is_lawful_term t ≡ true) e.1) s (entry keep_name c) i.lawful_terms
          (entry_all (λ e. AllByRecursion (λ t. is_lawful_term t ≡ true) e.1) keep_name c (λ some. lawful_all c short));
      few_faults = omega (arith, room.faults, faults_more s c);
      short_text = omega (arith, room.text, text_more s c short);
    }
