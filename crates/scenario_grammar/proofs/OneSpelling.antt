-- A text spells at most one scenario.
use Rattle.std.proofs.Common.{◌≡◌, ℕ, List, [], ◌∷◌, Some, None, Result, Ok, Err, refl, ap, sym, ◌∙◌, arith, subst, inl, inr}
use Rattle.std.specs.List.{slice_split}
use Rattle.std.specs.Prelude.{◌==◌, IfOk, IfErr}
use Rattle.scenario_values.specs.declared.term.Term.{Term}
use Rattle.scenario_values.specs.Words.{trimmed}
use Rattle.scenario_values.specs.Scenario.{Entries, entries_of}
use Rattle.scenario_grammar.specs.declared.fault.ScenarioFault.{ScenarioFault}
use Rattle.scenario_grammar.specs.declared.fault.ScenarioFault.TheVariants as faults
use Rattle.scenario_grammar.specs.Words.{cut, cut_at_arrows}
use Rattle.scenario_grammar.specs.FirstFault.{Tells, fault}
use Rattle.scenario_grammar.specs.Spelling.{SpellsParts, SpellsAction, SpellsPieces, Spells}
use Rattle.scenario_grammar.proofs.CutLaws.{cut_at, front_of, rest_of}
use Rattle.scenario_grammar.proofs.TermLaws.{term_read}
use Rattle.scenario_grammar.proofs.TermSound.{ok_is}

same_parts : (parts : List (List ℕ)) (ts us : List Term) → SpellsParts parts ts → SpellsParts parts us → ts ≡ us
same_parts [] [] [] h k = refl
same_parts [] [] (u ∷ us) h k = absurd k
same_parts [] (t ∷ ts) us h k = absurd h
same_parts (p ∷ ps) [] us h k = absurd h
same_parts (p ∷ ps) (t ∷ ts) [] h k = absurd k
same_parts (p ∷ ps) (t ∷ ts) (u ∷ us) h k =
    let one : t ≡ u = ok_is t u (sym (term_read (trimmed p) t h.0) ∙ term_read (trimmed p) u k.0) in
    let rest : ts ≡ us = same_parts ps ts us h.1 k.1 in
    ap (λ (x : Term). x ∷ ts) one ∙ ap (λ (xs : List Term). u ∷ xs) rest

abbrev action_of : List ℕ → List Term → List ℕ × List Term
action_of name chain = (name, chain)

same_pair : (a b : List ℕ) (c d : List Term) → a ≡ b → c ≡ d → action_of a c ≡ action_of b d
same_pair a b c d e f = ap (λ (x : List ℕ). action_of x c) e ∙ ap (λ (y : List Term). action_of b y) f

same_action : (piece : List ℕ) (d e : List ℕ × List Term) → SpellsAction piece d → SpellsAction piece e → d ≡ e
same_action piece (m, ts) (n, us) h k =
    let one : cut 61 piece ≡ Some (h.front, h.back) = ap (cut 61) h.parts ∙ cut_at 61 h.front h.back h.first in
    let two : cut 61 piece ≡ Some (k.front, k.back) = ap (cut 61) k.parts ∙ cut_at 61 k.front k.back k.first in
    let front : h.front ≡ k.front = front_of (h.front, h.back) (k.front, k.back) (sym one ∙ two) in
    let back : h.back ≡ k.back = rest_of (h.front, h.back) (k.front, k.back) (sym one ∙ two) in
    let P : List ℕ → Type 0 = λ b. SpellsParts (cut_at_arrows b) ts in
    same_pair m n ts us (h.name ∙ ap trimmed front ∙ sym k.name) (same_parts (cut_at_arrows k.back) ts us (subst P back h.chain) k.chain)

same_actions : (pieces : List (List ℕ)) (ds es : Entries) → SpellsPieces pieces ds → SpellsPieces pieces es → ds ≡ es
same_actions [] [] [] h k = refl
same_actions [] [] (e ∷ es) h k = absurd k
same_actions [] (d ∷ ds) es h k = absurd h
same_actions (p ∷ ps) [] [] h k = refl
same_actions (p ∷ ps) [] (e ∷ es) h (inl k) = same_actions ps [] (e ∷ es) h.1 k.1
same_actions (p ∷ ps) [] (e ∷ es) h (inr k) = absurd (let a = h.0 in let b = k.0 in omega arith)
same_actions (p ∷ ps) (d ∷ ds) [] (inl h) k = same_actions ps (d ∷ ds) [] h.1 k.1
same_actions (p ∷ ps) (d ∷ ds) [] (inr h) k = absurd (let a = h.0 in let b = k.0 in omega arith)
same_actions (p ∷ ps) (d ∷ ds) (e ∷ es) (inl h) (inl k) = same_actions ps (d ∷ ds) (e ∷ es) h.1 k.1
same_actions (p ∷ ps) (d ∷ ds) (e ∷ es) (inl h) (inr k) = absurd (let a = h.0 in let b = k.0 in omega arith)
same_actions (p ∷ ps) (d ∷ ds) (e ∷ es) (inr h) (inl k) = absurd (let a = h.0 in let b = k.0 in omega arith)
same_actions (p ∷ ps) (d ∷ ds) (e ∷ es) (inr h) (inr k) =
    let one : d ≡ e = same_action (trimmed p) d e h.1 k.1 in
    let rest : ds ≡ es = same_actions ps ds es h.2 k.2 in
    ap (λ (x : List ℕ × List Term). x ∷ ds) one ∙ ap (λ (xs : Entries). e ∷ xs) rest

pub one_spelling : (text : List ℕ) (s t : Entries) → Spells text s → Spells text t → s ≡ t
one_spelling text s t h k = h.entries ∙ ap entries_of (same_actions (slice_split (λ b. b == 59) text) h.actions k.actions h.writes k.writes) ∙ sym k.entries

-- what parsing a text that spells a scenario without a fault gives
pub same_by : (text : List ℕ) (s : Entries) (r : Result Entries ScenarioFault) → Spells text s → IfOk r (λ t. Spells text t × (fault text ≡ None)) → IfOk r (λ t. t ≡ s)
same_by text s (Ok t) h found = one_spelling text t s found.0 h
same_by text s (Err e) h found = tt

pub only_memory : (text : List ℕ) (r : Result Entries ScenarioFault) → fault text ≡ None → IfErr r (λ e. Tells e text) → IfErr r (λ e. e ≡ faults.Memory)
only_memory text (Ok t) none refused = tt
only_memory text (Err faults.Memory) none refused = refl
only_memory text (Err (faults.Bad kind entry term)) none refused = absurd cc
