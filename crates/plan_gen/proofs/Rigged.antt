-- Scenarios of rigged hits, put in entry by entry.
use Rattle.std.proofs.Common.{◌≡◌, ℕ, ◌+◌, ◌<◌, Bool, true, false, not, List, [], ◌∷◌, ◌++◌, length, drop, get_or, Bor, refl, ap, sym, ◌∙◌, arith}
use Rattle.std.proofs.lemmas.List.{get_or-map}
use Rattle.std.proofs.lemmas.Slice.Eq.{bytes_eq-Decides}
use Rattle.std.specs.Str.{bytes_eq}
use Rattle.indexmap.specs.IndexMap.{insert_all}
use Rattle.scenario_values.specs.declared.term.Term.{Term}
use Rattle.scenario_values.specs.Scenario.{Entries, entries_of}
use Rattle.action_eval.specs.declared.rig.Rig.{Rig}
use Rattle.action_eval.specs.RiggedScenario.{chain_from, entry, entries_from, rigged_scenario}
use Rattle.action_eval.specs.Answers.{texts}
use Rattle.plan_gen.proofs.Lists.{fold_append, next_of}
pub use Rattle.action_eval.proofs.Rigged.{rigged_scenario_keeps, nothing_keeps}

-- entries put in one after another
pub put_both : (es a b : Entries) → insert_all bytes_eq es (a ++ b) ≡ insert_all bytes_eq (insert_all bytes_eq es a) b
put_both es a b = fold_append _ es a b

-- one point more
pub entry_next : (p q : ℕ) (old new : Entries) (name : List ℕ) (chain : List Term) (names rest : List (List ℕ)) (rs : List Rig) (whole : Entries) → names ≡ name ∷ rest → chain ≡ chain_from p 0 rs → q ≡ p + 1 → new ≡ insert_all bytes_eq old (entry name chain) → insert_all bytes_eq old (entries_from p names rs) ≡ whole → insert_all bytes_eq new (entries_from q rest rs) ≡ whole
entry_next p q old new name chain names rest rs whole split is more added h =
    ap (λ k. insert_all bytes_eq new (entries_from k rest rs)) more
    ∙ ap (λ (s : Entries). insert_all bytes_eq s (entries_from (p + 1) rest rs)) (added ∙ ap (λ (ts : List Term). insert_all bytes_eq old (entry name ts)) is)
    ∙ sym (put_both old (entry name (chain_from p 0 rs)) (entries_from (p + 1) rest rs))
    ∙ ap (λ l. insert_all bytes_eq old (entries_from p l rs)) (sym split) ∙ h

pub entries_done : (p : ℕ) (old : Entries) (names : List (List ℕ)) (rs : List Rig) (whole : Entries) → names ≡ [] → insert_all bytes_eq old (entries_from p names rs) ≡ whole → old ≡ whole
entries_done p old names rs whole none h = ap (λ l. insert_all bytes_eq old (entries_from p l rs)) (sym none) ∙ h

pub entries_begin : (names : List (List ℕ)) (rs : List Rig) (old : Entries) → old ≡ [] → insert_all bytes_eq old (entries_from 0 names rs) ≡ entries_of (rigged_scenario names rs)
unfolding rigged_scenario
entries_begin names rs old none = ap (λ (s : Entries). insert_all bytes_eq s (entries_from 0 names rs)) none

no_entries : (p : ℕ) (names : List (List ℕ)) → entries_from p names [] ≡ []
no_entries p [] = refl
no_entries p (name ∷ names) = no_entries (p + 1) names

-- without rigged hits there is no entry
pub rigged_scenario_nothing : (names : List (List ℕ)) (rs : List Rig) → rs ≡ [] → rigged_scenario names rs ≡ []
unfolding rigged_scenario
rigged_scenario_nothing names rs none = ap (rigged_scenario names) none ∙ no_entries 0 names

isnt_not : (b : Bool) → false ≡ not b → b ≡ true
isnt_not true e = refl
isnt_not false e = e

isnt_other : (b : Bool) → true ≡ not b → b ≡ true → ⊥
isnt_other true e h = cc
isnt_other false e h = cc

-- catalogues with different names at i differ
pub names_differ : (own other : List (Bor (List ℕ))) (i : ℕ) (d e : Bor (List ℕ)) → i < length own → length own ≡ length other
    → true ≡ not (bytes_eq (get_or own i d).now (get_or other i e).now) → texts own ≡ texts other → ⊥
names_differ own other i d e h many test same =
    let f = λ (n : Bor (List ℕ)). n.now in
    let here : (get_or own i d).now ≡ (get_or other i e).now =
    sym (get_or-map f own i d [] h) ∙ ap (λ (l : List (List ℕ)). get_or l i []) same ∙ get_or-map f other i e [] (omega (arith, h, many)) in
    isnt_other _ test ((bytes_eq-Decides (get_or own i d).now (get_or other i e).now).1 here)

-- If two catalogues have the same name at i, and the same ones after it, they have the same ones from i on.
pub same_from : (own other : List (Bor (List ℕ))) (i : ℕ) (d e : Bor (List ℕ)) → i < length own → length own ≡ length other → false ≡ not (bytes_eq (get_or own i d).now (get_or other i e).now) → texts (drop (i + 1) own) ≡ texts (drop (i + 1) other)
    → texts (drop i own) ≡ texts (drop i other)
same_from own other i d e h many test rest =
    let same : (get_or own i d).now ≡ (get_or other i e).now = (bytes_eq-Decides (get_or own i d).now (get_or other i e).now).0 (isnt_not _ test) in
    ap texts (next_of own i d h) ∙ ap (λ n. n ∷ texts (drop (i + 1) own)) same
    ∙ ap (λ l. (get_or other i e).now ∷ l) rest ∙ sym (ap texts (next_of other i e (omega (arith, h, many))))
