-- What a text writes is what it is read as.
use Rattle.std.proofs.Common.{◌≡◌, ℕ, suc, ◌+◌, ◌<◌, ◌≤◌, List, [], ◌∷◌, Bool, true, false, eqb, leb, ltb, cond, length, Some, Result, Ok, refl, ap, ◌∙◌, arith, inl, inr}
use Rattle.std.specs.List.{slice_split, AllByRecursion}
use Rattle.std.specs.Str.{bytes_eq}
use Rattle.std.proofs.lemmas.Bool.Decides.{nat_tests}
use Rattle.indexmap.specs.IndexMap.{insert_all}
use Rattle.scenario_values.specs.declared.term.Term.{Term}
use Rattle.scenario_grammar.specs.declared.fault.Kind.TheVariants.{TooMany}
use Rattle.scenario_grammar.specs.Words.{cut, cut_at_arrows}
use Rattle.scenario_values.specs.Words.{trimmed}
use Rattle.scenario_grammar.specs.FirstFault.{Fault, Progress, bad, term_in, chain_from, add_entry, action, piece_in, pieces_from, nothing, reading}
use Rattle.scenario_values.specs.Scenario.{Entries, is_off}
use Rattle.scenario_grammar.specs.Spelling.{SpellsTerm, SpellsParts, SpellsAction, SpellsPieces, Writes, Within}
use Rattle.scenario_values.specs.Scenario.{entries_of, fault_of, faults_in, all_faults}
use Rattle.scenario_grammar.proofs.CutLaws.{cut_at}
use Rattle.scenario_grammar.proofs.TermLaws.{term_read}

-- ---- tests

not_below : (m n : ℕ) → n ≤ m → ltb m n ≡ false
not_below m n le = grind (arith, nat_tests)

not_at_most : (m n : ℕ) → n < m → leb m n ≡ false
not_at_most m n lt = grind (arith, nat_tests)

not_zero : (n : ℕ) → 0 < n → eqb n 0 ≡ false
not_zero n lt = grind (arith, nat_tests)

-- ---- a chain

counted : (entry n faults : ℕ) (t : Term) (off : Bool) → faults + cond off 0 1 ≤ 4096 → cond {A = Result (Term × ℕ) Fault} off (Ok (t, faults)) (cond (leb 4096 faults) (bad TooMany entry n) (Ok (t, faults + 1))) ≡ Ok (t, faults + cond off 0 1)
counted entry n faults t true few = ap (λ (k : ℕ). Ok (t, k)) (omega arith)
counted entry n faults t false few = rw (not_at_most 4096 faults (omega arith)) refl

pub term_in_is : (entry n faults : ℕ) (text : List ℕ) (t : Term) → n ≤ 256 → faults + fault_of t ≤ 4096 → SpellsTerm (trimmed text) t → term_in entry n faults text ≡ Ok (t, faults + fault_of t)
unfolding term_in
term_in_is entry n faults text t small few h = rw (not_below 256 n small, term_read (trimmed text) t h) (counted entry n faults t (is_off t.task) few)

pub chain_is : (entry n faults : ℕ) (parts : List (List ℕ)) (ts : List Term) → SpellsParts parts ts → n + length ts ≤ 257 → faults + faults_in ts ≤ 4096 → chain_from entry n faults parts ≡ Ok (ts, faults + faults_in ts)
unfolding chain_from
chain_is entry n faults [] [] h small few = ap (λ (k : ℕ). Ok ([], k)) (omega arith)
chain_is entry n faults [] (t ∷ ts) h small few = absurd h
chain_is entry n faults (p ∷ ps) [] h small few = absurd h
chain_is entry n faults (p ∷ ps) (t ∷ ts) h small few =
    rw (term_in_is entry n faults p t (omega arith) (omega arith) h.0, chain_is entry (n + 1) (faults + fault_of t) ps ts h.1 (omega arith) (omega arith)) (ap (λ (k : ℕ). Ok (t ∷ ts, k)) (omega arith))

-- ---- the pieces

-- what is known after actions
abbrev pub after : Progress → List (List ℕ × List Term) → Progress
after done actions = record { entries = insert_all bytes_eq done.entries actions; pieces = done.pieces + length actions; faults = done.faults + all_faults actions }

abbrev state : Entries → ℕ → ℕ → Result Progress Fault
state es p f = Ok (record { entries = es; pieces = p; faults = f })

pub same_progress : (es : Entries) (p q f g : ℕ) → p ≡ q → f ≡ g → state es p f ≡ state es q g
same_progress es p q f g h k = ap (λ (n : ℕ). state es n f) h ∙ ap (λ (n : ℕ). state es q n) k

one_action : (done : Progress) (entry : ℕ) (piece : List ℕ) (e : List ℕ × List Term) → SpellsAction piece e → length e.1 ≤ 256 → done.faults + faults_in e.1 ≤ 4096
    → action done entry (cut 61 piece) ≡ Ok (add_entry done e.0 (e.1, done.faults + faults_in e.1))
one_action done entry piece e h small few =
    let c : cut 61 piece ≡ Some (h.front, h.back) = ap (cut 61) h.parts ∙ cut_at 61 h.front h.back h.first in
    let named : eqb (length (trimmed h.front)) 0 ≡ false = rw (← h.name) (not_zero (length e.0) h.some_name) in
    rw (c, named, chain_is entry 1 done.faults (cut_at_arrows h.back) e.1 h.chain (omega arith) few, ← h.name) refl

piece_is : (done : Progress) (entry : ℕ) (piece : List ℕ) (e : List ℕ × List Term) → 0 < length piece → SpellsAction piece e → done.pieces < 256 → length e.1 ≤ 256 → done.faults + faults_in e.1 ≤ 4096
    → piece_in done entry piece ≡ Ok (add_entry done e.0 (e.1, done.faults + faults_in e.1))
unfolding piece_in
piece_is done entry piece e some h few_pieces small few = rw (not_zero (length piece) some, not_at_most 256 done.pieces few_pieces) (one_action done entry piece e h small few)

blank_piece : (done : Progress) (entry : ℕ) (piece : List ℕ) → length piece ≡ 0 → piece_in done entry piece ≡ Ok done
unfolding piece_in
blank_piece done entry piece e = rw e refl

pub pieces_are : (done : Progress) (entry : ℕ) (pieces : List (List ℕ)) (actions : List (List ℕ × List Term)) → SpellsPieces pieces actions → done.pieces + length actions ≤ 256 → AllByRecursion (λ e. length e.1 ≤ 256) actions → done.faults + all_faults actions ≤ 4096
    → pieces_from done entry pieces ≡ Ok (after done actions)
unfolding pieces_from
pieces_are done entry [] [] h few small faults = same_progress done.entries done.pieces (done.pieces + 0) done.faults (done.faults + 0) (omega arith) (omega arith)
pieces_are done entry [] (e ∷ es) h few small faults = absurd h
pieces_are done entry (p ∷ ps) [] h few small faults = rw (blank_piece done entry (trimmed p) h.0) (pieces_are done (entry + 1) ps [] h.1 few small faults)
pieces_are done entry (p ∷ ps) (e ∷ es) (inl h) few small faults = rw (blank_piece done entry (trimmed p) h.0) (pieces_are done (entry + 1) ps (e ∷ es) h.1 few small faults)
pieces_are done entry (p ∷ ps) (e ∷ es) (inr h) few small faults =
    let next : Progress = add_entry done e.0 (e.1, done.faults + faults_in e.1) in
    rw (piece_is done entry (trimmed p) e h.0 h.1 (omega arith) small.0 (omega arith)) (pieces_are next (entry + 1) ps es h.2 (omega arith) small.1 (omega arith) ∙ same_progress (insert_all bytes_eq next.entries es) (next.pieces + length es) (done.pieces + suc (length es)) (next.faults + all_faults es) (done.faults + (faults_in e.1 + all_faults es)) (omega arith) (omega arith))

pub text_is : (text : List ℕ) (actions : List (List ℕ × List Term)) → Writes text actions → Within text actions → reading text ≡ Ok (entries_of actions)
unfolding reading
text_is text actions h limits =
    rw (not_below 65536 (length text) limits.bytes, pieces_are nothing 1 (slice_split (λ b. eqb b 59) text) actions h (omega (arith, limits.few_actions)) limits.few_terms (omega (arith, limits.few_faults))) refl
