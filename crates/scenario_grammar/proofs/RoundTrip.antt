-- The printed form of a scenario spells it, and is read as it.
use Rattle.std.proofs.Common.{◌≡◌, ℕ, suc, ◌<◌, List, [], ◌∷◌, true, ◌&&◌, ltb, length, map, None, Result, Ok, refl, ap, sym, ◌∙◌, arith, subst, inr}
use Rattle.std.specs.List.{AllByRecursion}
use Rattle.std.specs.Result.{result_err}
use Rattle.std.specs.Str.{bytes_eq}
use Rattle.std.proofs.lemmas.Bool.Decides.{nat_tests}
use Rattle.std.proofs.lemmas.Slice.Eq.{bytes_eq-Decides}
use Rattle.scenario_values.specs.declared.term.Term.{Term}
use Rattle.scenario_values.specs.Words.{lacks, lacks_arrow, trimmed}
use Rattle.scenario_values.specs.Scenario.{Entries, IsScenario, is_name, is_lawful_term}
use Rattle.scenario_values.specs.Printed.{term_text, chain_text, entry_text, printed}
use Rattle.scenario_values.proofs.NameLaws.{entries_same}
use Rattle.scenario_grammar.specs.Words.{cut_at_arrows}
use Rattle.scenario_grammar.specs.FirstFault.{Fault, fault, reading}
use Rattle.scenario_grammar.specs.Spelling.{SpellsTerm, SpellsParts, SpellsAction, SpellsPieces, Writes, Spells, Within}
use Rattle.scenario_grammar.proofs.CutLaws.{and_true}
use Rattle.scenario_grammar.proofs.TextLaws.{text_is}
use Rattle.scenario_grammar.proofs.Trims.{Bare, trimmed_bare}
use Rattle.scenario_grammar.proofs.JoinLaws.{chain_cut, printed_cut}
use Rattle.scenario_grammar.proofs.PrintLaws.{term_spelled}
use Rattle.scenario_grammar.proofs.Ends.{Opens, opens_append, closes_append, both_ends, term_trimmed, chain_closes}
use Rattle.scenario_grammar.proofs.Plain.{term_arrow, entry_semicolon}

-- what makes a name lawful
record LawfulName (name : List ℕ) : Type 0 where
  pub some : 0 < length name
  pub same : trimmed name ≡ name
  pub semicolon : lacks 59 name ≡ true
  pub equals : lacks 61 name ≡ true

lawful_name : (name : List ℕ) → is_name name ≡ true → LawfulName name
lawful_name name h =
    let three = and_true (ltb 0 (length name) && bytes_eq (trimmed name) name && lacks 59 name) (lacks 61 name) h in
    let two = and_true (ltb 0 (length name) && bytes_eq (trimmed name) name) (lacks 59 name) three.0 in
    let one = and_true (ltb 0 (length name)) (bytes_eq (trimmed name) name) two.0 in
    record { some = below (length name) one.0; same = (bytes_eq-Decides (trimmed name) name).0 one.1; semicolon = two.1; equals = three.1 }
  where
    below : (n : ℕ) → ltb 0 n ≡ true → 0 < n
    below n h = grind (arith, nat_tests)

name_opens : (name : List ℕ) → LawfulName name → Opens name
name_opens [] h = absurd (let s = h.some in omega arith)
name_opens (b ∷ name) h =
    let bare : Bare (b ∷ name) = subst Bare h.same (trimmed_bare (b ∷ name)) in
    record { byte = b; rest = name; parts = refl; plain = bare.first (omega arith) }

parts_spelled : (ts : List Term) → AllByRecursion (λ t. is_lawful_term t ≡ true) ts → SpellsParts (map term_text ts) ts
parts_spelled [] h = tt
parts_spelled (t ∷ ts) h =
    let P : List ℕ → Type 0 = λ text. SpellsTerm text t in
    (subst P (sym (term_trimmed t h.0)) (term_spelled t h.0), parts_spelled ts h.1)

no_arrows : (ts : List Term) → AllByRecursion (λ t. is_lawful_term t ≡ true) ts → AllByRecursion (λ t. lacks_arrow (term_text t) ≡ true) ts
no_arrows [] h = tt
no_arrows (t ∷ ts) h = (term_arrow t h.0, no_arrows ts h.1)

chain_spelled : (ts : List Term) → 0 < length ts → AllByRecursion (λ t. is_lawful_term t ≡ true) ts → SpellsParts (cut_at_arrows (chain_text ts)) ts
chain_spelled [] some h = absurd (omega arith)
chain_spelled (t ∷ ts) some h =
    let P : List (List ℕ) → Type 0 = λ parts. SpellsParts parts (t ∷ ts) in
    subst P (sym (chain_cut t ts (no_arrows (t ∷ ts) h))) (parts_spelled (t ∷ ts) h)

-- what a scenario keeps of each entry
record LawfulEntry (e : List ℕ × List Term) : Type 0 where
  pub name : is_name e.0 ≡ true
  pub some : 0 < length e.1
  pub terms : AllByRecursion (λ t. is_lawful_term t ≡ true) e.1

lawful_entries : (s : Entries) → AllByRecursion (λ e. is_name e.0 ≡ true) s → AllByRecursion (λ e. 0 < length e.1) s → AllByRecursion (λ e. AllByRecursion (λ t. is_lawful_term t ≡ true) e.1) s → AllByRecursion LawfulEntry s
lawful_entries [] n c t = tt
lawful_entries (e ∷ es) n c t = (record { name = n.0; some = c.0; terms = t.0 }, lawful_entries es n.1 c.1 t.1)

entry_trimmed : (e : List ℕ × List Term) → LawfulEntry e → trimmed (entry_text e) ≡ entry_text e
entry_trimmed e h =
    both_ends (entry_text e)
    (opens_append e.0 (61 ∷ chain_text e.1) (name_opens e.0 (lawful_name e.0 h.name)))
    (closes_append e.0 (61 ∷ chain_text e.1) (closes_append (61 ∷ []) (chain_text e.1) (chain_closes e.1 h.some)))

entry_spelled : (e : List ℕ × List Term) → LawfulEntry e → SpellsAction (entry_text e) e
entry_spelled e h =
    let name = lawful_name e.0 h.name in
    record { front = e.0; back = chain_text e.1; parts = refl; first = name.equals; name = sym name.same; some_name = name.some; chain = chain_spelled e.1 h.some h.terms }

entry_long : (e : List ℕ × List Term) → LawfulEntry e → 0 < length (trimmed (entry_text e))
entry_long e h =
    let o = opens_append e.0 (61 ∷ chain_text e.1) (name_opens e.0 (lawful_name e.0 h.name)) in
    let a : length (entry_text e) ≡ suc (length o.rest) = ap length o.parts in
    let b : length (trimmed (entry_text e)) ≡ length (entry_text e) = ap length (entry_trimmed e h) in
    omega arith

pieces_spelled : (s : Entries) → AllByRecursion LawfulEntry s → SpellsPieces (map entry_text s) s
pieces_spelled [] h = tt
pieces_spelled (e ∷ es) h =
    let P : List ℕ → Type 0 = λ piece. SpellsAction piece e in
    inr (entry_long e h.0, subst P (sym (entry_trimmed e h.0)) (entry_spelled e h.0), pieces_spelled es h.1)

no_semicolons : (s : Entries) → AllByRecursion LawfulEntry s → AllByRecursion (λ e. lacks 59 (entry_text e) ≡ true) s
no_semicolons [] h = tt
no_semicolons (e ∷ es) h = (entry_semicolon e (lawful_name e.0 h.0.name).semicolon h.0.terms, no_semicolons es h.1)

writes_itself : (s : Entries) → AllByRecursion LawfulEntry s → Writes (printed s) s
unfolding printed
writes_itself [] h = (refl, tt)
writes_itself (e ∷ es) h =
    let P : List (List ℕ) → Type 0 = λ pieces. SpellsPieces pieces (e ∷ es) in
    subst P (sym (printed_cut e es (no_semicolons (e ∷ es) h))) (pieces_spelled (e ∷ es) h)

pub printed_writes : (s : Entries) → IsScenario s → Writes (printed s) s
printed_writes s h = writes_itself s (lawful_entries s h.lawful_names h.no_empty_chain h.lawful_terms)

pub printed_within : (s : Entries) → IsScenario s → Within (printed s) s
printed_within s h = record { bytes = h.short_text; few_actions = h.few_entries; few_terms = h.short_chains; few_faults = h.few_faults }

pub printed_spells : (s : Entries) → IsScenario s → Spells (printed s) s
printed_spells s h = record { actions = s; writes = printed_writes s h; entries = sym (entries_same s h.distinct_names) }

pub printed_again : (s : Entries) → IsScenario s → reading (printed s) ≡ Ok s
printed_again s h = text_is (printed s) s (printed_writes s h) (printed_within s h) ∙ ap (λ (x : Entries). Ok x) (entries_same s h.distinct_names)

pub printed_unfaulty : (s : Entries) → IsScenario s → fault (printed s) ≡ None
printed_unfaulty s h = ap (λ (r : Result Entries Fault). result_err r) (printed_again s h)
