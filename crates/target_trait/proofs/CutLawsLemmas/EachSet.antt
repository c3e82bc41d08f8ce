-- For each set of pending writes there is a scenario that leaves exactly these.
use Rattle.std.proofs.Common.{◌≡◌, ℕ, ◌<◌, ◌+◌, ◌≤◌, nat_lt, Bool, false, List, [], ◌++◌, length, map, ap, sym, ◌∙◌, subst, arith}
use Rattle.std.specs.Str.{bytes_eq}
use Rattle.std.proofs.lemmas.Bool.Decides.{nat_tests}
use Rattle.scenario_values.specs.Scenario.{Entries, chain_of}
use Rattle.action_eval.specs.Catalogue.{IsCatalogue}
use Rattle.action_eval.specs.Answers.{Given, Run, Reply, acted, history_of, replies, is_cut_short}
use Rattle.action_eval.specs.RiggedScenario.{entry}
use Rattle.action_eval.specs.SameMeaning.{Meaning, meaning_of}
use Rattle.action_eval.specs.Words.{word}
use Rattle.action_eval.proofs.Alike.{mean_same, once}
use Rattle.action_eval.proofs.TidiedEntries.{flipped}
use Rattle.target_trait.specs.Play.{Move, IsWithin}
use Rattle.target_trait.specs.Outcomes.{Told}
use Rattle.target_trait.specs.Cuts.{Cut, asks_with, with_keep}
use Rattle.target_trait.proofs.Verdicts.{outcome_same, verdict_is}
use Rattle.target_trait.specs.cut_laws.KeptSets.{run_of_case, HasRoom, LacksKeep, LeavesJust, keeping}
use Rattle.target_trait.proofs.CutLawsLemmas.SameRuns.{same_run}
use Rattle.target_trait.proofs.CutLawsLemmas.Shorter.{short_chains}
use Rattle.target_trait.proofs.CutLawsLemmas.Names.{apart, at, keep_name, name_at, own_given}
use Rattle.target_trait.proofs.CutLawsLemmas.CutPlays.{CutCase, own_play, kept_case}
use Rattle.target_trait.proofs.CutLawsLemmas.Chains.{keep_term, chain_apart, chain_here, come_kept, kept_hits, kept_on, kept_said, never_own}

none_below : (i : ℕ) → once (nat_lt i 0) ≡ 0
none_below i = grind (arith, nat_tests)

term_each : (asks : List Reply → Move) (cut : Cut) (names : List (List ℕ)) → ((answers : List Reply) → IsWithin (length names) (asks answers)) → IsCatalogue (with_keep names)
    → (seed stream limit : ℕ) (s : Entries) (keep : List Bool) → LacksKeep s
    → is_cut_short (run_of_case asks names seed stream limit s) ≡ false → HasRoom limit cut (run_of_case asks names seed stream limit s)
    → length keep ≡ cut.pending (replies (run_of_case asks names seed stream limit s)) → CutCase asks cut names seed stream limit s (s ++ entry keep_name (map keep_term keep)) keep
term_each asks cut names within lawful seed stream limit s keep lacks goes room long =
    let t : Entries = s ++ entry keep_name (map keep_term keep) in
    let other : (p : ℕ) → p < length names → bytes_eq (name_at names p) keep_name ≡ false = λ p below. flipped keep_name (name_at names p) (apart names lawful.distinct p below) in
    let chains : (p : ℕ) → p < length names → chain_of t (name_at names p) ≡ chain_of s (name_at names p) =
    λ p below. chain_apart s (map keep_term keep) (name_at names p) (other p below) in
    let o = own_play asks cut names within seed stream limit s t chains in
    let own : Given = own_given names seed stream limit s in
    let pending : length keep ≡ cut.pending (replies (at own o.hits)) = long ∙ ap (λ (r : Run). cut.pending (replies r)) o.is in
    let fits : length o.hits + cut.pending (replies (at own o.hits)) ≤ limit = subst (λ (r : Run). length r.hits + cut.pending (replies r) ≤ limit) o.is room in
    let none : (i : ℕ) → acted (history_of (at own o.hits)) keep_name i ≡ once (nat_lt i 0) =
    λ i. never_own own (length names) other o.hits o.below i ∙ sym (none_below i) in
    kept_case asks cut names seed stream limit s t chains o (ap is_cut_short (sym o.is) ∙ goes) keep (kept_hits (length names) 0 keep) pending (kept_said (length names) 0 keep)
    (omega (arith, pending, fits)) (kept_on (length names) 0 keep)
    (come_kept names seed stream limit t (history_of (at own o.hits)) [] keep (chain_here s (map keep_term keep) lacks) none)

pub leaves_just : (asks : List Reply → Move) (cut : Cut) (names : List (List ℕ)) → ((answers : List Reply) → IsWithin (length names) (asks answers)) → IsCatalogue (with_keep names)
    → (seed stream limit : ℕ) (s : Entries) (keep : List Bool) → LacksKeep s
    → is_cut_short (run_of_case asks names seed stream limit s) ≡ false → HasRoom limit cut (run_of_case asks names seed stream limit s)
    → length keep ≡ cut.pending (replies (run_of_case asks names seed stream limit s)) → LeavesJust asks cut names seed stream limit s keep
leaves_just asks cut names within lawful seed stream limit s keep lacks goes room long =
    let all : List Reply → Move = asks_with asks cut (length names) in
    let t : Entries = s ++ entry keep_name (map keep_term keep) in
    let k = term_each asks cut names within lawful seed stream limit s keep lacks goes room long in
    let same : (hits : List ℕ) → meaning_of (keeping keep s) (with_keep names) seed stream limit hits ≡ meaning_of t (with_keep names) seed stream limit hits =
    λ hits. mean_same (keeping keep s) t (with_keep names) seed stream limit hits (short_chains (word seed stream) s keep) in
    record {
      answers = ap (λ (m : Meaning). m.replies) (same_run all (with_keep names) seed stream limit (keeping keep s) t same) ∙ k.answers;
      verdict =
          verdict_is all (with_keep names) seed limit stream (keeping keep s)
          ∙ ap (λ (x : Told). x.verdict) (outcome_same all (with_keep names) seed stream limit (keeping keep s) t same)
          ∙ sym (verdict_is all (with_keep names) seed limit stream t) ∙ k.verdict;
    }
