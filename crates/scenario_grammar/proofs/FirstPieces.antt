-- The first fault of a text goes by the text up to the end of its piece.
use Rattle.std.proofs.Common.{◌≡◌, ℕ, zero, suc, ◌+◌, ◌-◌, ◌<◌, ◌≤◌, List, [], ◌∷◌, ◌++◌, Bool, true, false, eqb, leb, ltb, cond, length, take, Option, Some, None, Result, Ok, Err, refl, ap, sym, ◌∙◌, arith, subst, length-append}
use Rattle.std.specs.List.{slice_split, join_with_byte, AllByRecursion}
use Rattle.std.specs.Result.{result_err}
use Rattle.std.proofs.lemmas.Bool.Decides.{nat_tests}
use Rattle.std.proofs.lemmas.List.Splits.{length-slice_split, join_with_byte-slice_split}
use Rattle.scenario_values.specs.declared.term.Term.{Term}
use Rattle.scenario_values.specs.Words.{lacks, trimmed}
use Rattle.scenario_values.specs.Scenario.{Entries, is_off}
use Rattle.scenario_grammar.specs.declared.fault.Kind.{Kind}
use Rattle.scenario_grammar.specs.declared.fault.Kind.TheVariants.{NoName, TooLong, TooMany}
use Rattle.scenario_grammar.specs.Words.{cut, cut_at_arrows}
use Rattle.scenario_grammar.specs.FirstFault.{◌>>=◌, term_of}
use Rattle.scenario_grammar.specs.FirstFault.{Fault, Progress, at, bad, count_fault, term_in, chain_from, add_entry, action, piece_in, pieces_from, nothing, reading, fault}
use Rattle.scenario_grammar.specs.FirstPieces.{first_pieces}
use Rattle.scenario_grammar.proofs.Inside.{pieces_lack}
use Rattle.scenario_grammar.proofs.JoinLaws.{byte_cut, byte_none}
use Rattle.scenario_grammar.proofs.TextSound.{yes}

-- ---- a fault that is found in a piece stands at that piece

abbrev StandsAt : {A : Type 0} → ℕ → Result A Fault → Type 0
StandsAt entry (Ok x) = Unit {0}
StandsAt entry (Err f) = f.entry ≡ entry

bind_stands : {A B : Type 0} (entry : ℕ) (r : Result A Fault) (g : A → Result B Fault) → StandsAt entry r → ((x : A) → StandsAt entry (g x)) → StandsAt entry (r >>= g)
bind_stands entry (Ok x) g h k = k x
bind_stands entry (Err f) g h k = h

guard_stands : {A : Type 0} (entry : ℕ) (t : Bool) (f : Fault) (r : Result A Fault) → f.entry ≡ entry → StandsAt entry r → StandsAt entry (cond t (Err f) r)
guard_stands entry true f r h k = h
guard_stands entry false f r h k = k

at_stands : {A : Type 0} (entry n : ℕ) (r : Result A Kind) → StandsAt entry (at entry n r)
at_stands entry n (Ok x) = tt
at_stands entry n (Err k) = refl

counted_stands : (entry n faults : ℕ) (t : Term) (off full : Bool) → StandsAt {A = Term × ℕ} entry (cond off (Ok (t, faults)) (cond full (bad TooMany entry n) (Ok (t, faults + 1))))
counted_stands entry n faults t true full = tt
counted_stands entry n faults t false true = refl
counted_stands entry n faults t false false = tt

term_stands : (entry n faults : ℕ) (text : List ℕ) → StandsAt entry (term_in entry n faults text)
unfolding term_in
term_stands entry n faults text =
    guard_stands entry (ltb 256 n) (record { kind = TooMany; entry = entry; term = n }) (at entry n (term_of (trimmed text)) >>= count_fault entry n faults) refl
    (bind_stands entry (at entry n (term_of (trimmed text))) (count_fault entry n faults) (at_stands entry n (term_of (trimmed text))) (λ t. counted_stands entry n faults t (is_off t.task) (leb 4096 faults)))

chain_stands : (entry n faults : ℕ) (texts : List (List ℕ)) → StandsAt entry (chain_from entry n faults texts)
unfolding chain_from
chain_stands entry n faults [] = tt
chain_stands entry n faults (text ∷ texts) =
    bind_stands entry (term_in entry n faults text) (λ first. chain_from entry (n + 1) first.1 texts >>= λ rest. yes (first.0 ∷ rest.0, rest.1)) (term_stands entry n faults text) (λ first.
    bind_stands entry (chain_from entry (n + 1) first.1 texts) (λ rest. yes (first.0 ∷ rest.0, rest.1)) (chain_stands entry (n + 1) first.1 texts) (λ rest. tt))

action_stands : (done : Progress) (entry : ℕ) (o : Option (List ℕ × List ℕ)) → StandsAt entry (action done entry o)
action_stands done entry None = refl
action_stands done entry (Some parts) =
    guard_stands entry (eqb (length (trimmed parts.0)) 0) (record { kind = NoName; entry = entry; term = 0 })
    (chain_from entry 1 done.faults (cut_at_arrows parts.1) >>= λ chain. yes (add_entry done (trimmed parts.0) chain)) refl
    (bind_stands entry (chain_from entry 1 done.faults (cut_at_arrows parts.1)) (λ chain. yes (add_entry done (trimmed parts.0) chain)) (chain_stands entry 1 done.faults (cut_at_arrows parts.1)) (λ chain. tt))

blank_stands : (done : Progress) (entry : ℕ) (r : Result Progress Fault) (blank : Bool) → StandsAt entry r → StandsAt entry (cond blank (Ok done) r)
blank_stands done entry r true h = tt
blank_stands done entry r false h = h

piece_stands : (done : Progress) (entry : ℕ) (piece : List ℕ) → StandsAt entry (piece_in done entry piece)
unfolding piece_in
piece_stands done entry piece =
    blank_stands done entry (cond (leb 256 done.pieces) (bad TooMany entry 0) (action done entry (cut 61 piece))) (eqb (length piece) 0)
    (guard_stands entry (leb 256 done.pieces) (record { kind = TooMany; entry = entry; term = 0 }) (action done entry (cut 61 piece)) refl (action_stands done entry (cut 61 piece)))

-- ---- the pieces up to that one

-- Among pieces from one number on, the fault is in the piece of this index, and in none before.
record Found (done : Progress) (entry : ℕ) (pieces : List (List ℕ)) (f : Fault) : Type 0 where
  pub index : ℕ
  pub place : f.entry ≡ entry + index
  pub same : pieces_from done entry (take (suc index) pieces) ≡ Err f
  pub next : Progress
  pub clean : pieces_from done entry (take index pieces) ≡ Ok next

found_by : (done : Progress) (entry : ℕ) (p : List ℕ) (ps : List (List ℕ)) (f : Fault) → ((next : Progress) → pieces_from next (entry + 1) ps ≡ Err f → Found next (entry + 1) ps f)
    → (r : Result Progress Fault) → piece_in done entry (trimmed p) ≡ r → (r >>= λ next. pieces_from next (entry + 1) ps) ≡ Err f → Found done entry (p ∷ ps) f
unfolding pieces_from
found_by done entry p ps f again (Err g) is e =
    let mine : g ≡ f = cc in
    let stands : g.entry ≡ entry = subst (λ (r : Result Progress Fault). StandsAt entry r) is (piece_stands done entry (trimmed p)) in
    let here : f.entry ≡ entry = ap (λ (x : Fault). x.entry) (sym mine) ∙ stands in
    record { index = 0; place = omega (arith, here); same = ap (λ (r : Result Progress Fault). r >>= λ next. pieces_from next (entry + 1) []) is ∙ ap (λ (x : Fault). Err x) mine; next = done; clean = refl }
found_by done entry p ps f again (Ok next) is e =
    let rest = again next e in
    let place = rest.place in
    record {
      index = suc rest.index;
      place = omega arith;
      same = ap (λ (r : Result Progress Fault). r >>= λ next. pieces_from next (entry + 1) (take (suc rest.index) ps)) is ∙ rest.same;
      next = rest.next;
      clean = ap (λ (r : Result Progress Fault). r >>= λ next. pieces_from next (entry + 1) (take rest.index ps)) is ∙ rest.clean;
    }

found : (done : Progress) (entry : ℕ) (pieces : List (List ℕ)) (f : Fault) → pieces_from done entry pieces ≡ Err f → Found done entry pieces f
unfolding pieces_from
found done entry [] f h = absurd cc
found done entry (p ∷ ps) f h = found_by done entry p ps f (λ next e. found next (entry + 1) ps f e) (piece_in done entry (trimmed p)) refl h

-- ---- the text up to that piece

abbrev Pieces : List (List ℕ) → Type 0
Pieces pieces = AllByRecursion (λ piece. lacks 59 piece ≡ true) pieces

joined_cut : (p : List ℕ) (ps : List (List ℕ)) → Pieces (p ∷ ps) → slice_split (λ b. eqb b 59) (join_with_byte 59 (p ∷ ps)) ≡ p ∷ ps
joined_cut p [] h = byte_none 59 p h.0
joined_cut p (q ∷ qs) h = byte_cut 59 p (join_with_byte 59 (q ∷ qs)) refl h.0 ∙ ap (λ (ps : List (List ℕ)). p ∷ ps) (joined_cut q qs h.1)

taken : (n : ℕ) (pieces : List (List ℕ)) → Pieces pieces → Pieces (take n pieces)
taken zero pieces h = tt
taken (suc n) [] h = tt
taken (suc n) (p ∷ ps) h = (h.0, taken n ps h.1)

first_cut : (n : ℕ) (pieces : List (List ℕ)) → 0 < length pieces → Pieces pieces → slice_split (λ b. eqb b 59) (join_with_byte 59 (take (suc n) pieces)) ≡ take (suc n) pieces
first_cut n [] l h = absurd (omega arith)
first_cut n (p ∷ ps) l h = joined_cut p (take n ps) (h.0, taken n ps h.1)

first_shorter : (n : ℕ) (pieces : List (List ℕ)) → length (join_with_byte 59 (take n pieces)) ≤ length (join_with_byte 59 pieces)
first_shorter zero pieces = omega arith
first_shorter (suc n) [] = omega arith
first_shorter (suc n) (p ∷ []) = one n
  where
    one : (m : ℕ) → length (join_with_byte 59 (p ∷ take m [])) ≤ length p
    one zero = omega arith
    one (suc m) = omega arith
first_shorter (suc zero) (p ∷ q ∷ qs) =
    let whole : length (p ++ (59 ∷ join_with_byte 59 (q ∷ qs))) ≡ length p + suc (length (join_with_byte 59 (q ∷ qs))) = length-append p (59 ∷ join_with_byte 59 (q ∷ qs)) in
    omega arith
first_shorter (suc (suc n)) (p ∷ q ∷ qs) =
    let whole : length (p ++ (59 ∷ join_with_byte 59 (q ∷ qs))) ≡ length p + suc (length (join_with_byte 59 (q ∷ qs))) = length-append p (59 ∷ join_with_byte 59 (q ∷ qs)) in
    let part : length (p ++ (59 ∷ join_with_byte 59 (q ∷ take n qs))) ≡ length p + suc (length (join_with_byte 59 (q ∷ take n qs))) = length-append p (59 ∷ join_with_byte 59 (q ∷ take n qs)) in
    let rest : length (join_with_byte 59 (q ∷ take n qs)) ≤ length (join_with_byte 59 (q ∷ qs)) = first_shorter (suc n) (q ∷ qs) in
    omega arith

-- ---- the first fault of a text

abbrev cuts : List ℕ → List (List ℕ)
cuts text = slice_split (λ b. eqb b 59) text

abbrev entries_read : Progress → Result Entries Fault
entries_read done = Ok done.entries

-- a text that isn't too long is read by its pieces
read_short : (text : List ℕ) → length text ≤ 65536 → reading text ≡ (pieces_from nothing 1 (cuts text) >>= entries_read)
unfolding reading
read_short text h = let short : ltb 65536 (length text) ≡ false = grind (arith, nat_tests) in ap (λ b. cond b (bad TooLong 0 0) (pieces_from nothing 1 (cuts text) >>= entries_read)) short

err_of : (r : Result Entries Fault) (f : Fault) → result_err r ≡ Some f → r ≡ Err f
err_of (Ok x) f h = absurd cc
err_of (Err g) f h = cc

pieces_err : (r : Result Progress Fault) (f : Fault) → (r >>= entries_read) ≡ Err f → r ≡ Err f
pieces_err (Ok x) f h = absurd cc
pieces_err (Err g) f h = cc

record FoundIn (text : List ℕ) (f : Fault) : Type 0 where
  pub short : length text ≤ 65536
  pub piece : Found nothing 1 (cuts text) f

found_in : (text : List ℕ) (f : Fault) → fault text ≡ Some f → (f.kind ≡ TooLong → ⊥) → FoundIn text f
unfolding reading
found_in text f h other = by_length (ltb 65536 (length text)) refl (err_of (reading text) f h)
  where
    by_length : (long : Bool) → ltb 65536 (length text) ≡ long → cond long (bad TooLong 0 0) (pieces_from nothing 1 (cuts text) >>= entries_read) ≡ Err f → FoundIn text f
    by_length true is e =
        let mine : record { kind = TooLong; entry = 0; term = 0 } ≡ f = cc in
        let bad : f.kind ≡ TooLong = ap (λ (x : Fault). x.kind) (sym mine) in
        absurd (other bad)
    by_length false is e = record { short = grind (arith, nat_tests); piece = found nothing 1 (cuts text) f (pieces_err (pieces_from nothing 1 (cuts text)) f e) }

-- the first pieces are read as such
first_read : (n : ℕ) (text : List ℕ) → length text ≤ 65536 → reading (first_pieces (suc n) text) ≡ (pieces_from nothing 1 (take (suc n) (cuts text)) >>= entries_read)
first_read n text short =
    let some : 0 < length (cuts text) = omega (arith, length-slice_split (λ b. eqb b 59) text) in
    let whole : length (join_with_byte 59 (cuts text)) ≡ length text = ap length (join_with_byte-slice_split 59 text) in
    let less : length (first_pieces (suc n) text) ≤ 65536 = omega (arith, whole, first_shorter (suc n) (cuts text)) in
    read_short (first_pieces (suc n) text) less ∙ ap (λ (ps : List (List ℕ)). pieces_from nothing 1 ps >>= entries_read) (first_cut n (cuts text) some (pieces_lack 59 text))

empty_clean : fault [] ≡ None
unfolding reading pieces_from piece_in
empty_clean = refl

clean_before : (n : ℕ) (text : List ℕ) (next : Progress) → length text ≤ 65536 → pieces_from nothing 1 (take n (cuts text)) ≡ Ok next → fault (first_pieces n text) ≡ None
clean_before zero text next short h = empty_clean
clean_before (suc n) text next short h = ap (λ (r : Result Entries Fault). result_err r) (first_read n text short ∙ ap (λ (r : Result Progress Fault). r >>= entries_read) h)

pub same_first : (text : List ℕ) (f : Fault) → fault text ≡ Some f → (f.kind ≡ TooLong → ⊥) → fault (first_pieces f.entry text) ≡ Some f
same_first text f h other =
    let g = found_in text f h other in
    let place = g.piece.place in
    let number : f.entry ≡ suc g.piece.index = omega arith in
    ap (λ n. fault (first_pieces n text)) number
    ∙ ap (λ (r : Result Entries Fault). result_err r) (first_read g.piece.index text g.short ∙ ap (λ (r : Result Progress Fault). r >>= entries_read) g.piece.same)

pub none_before : (text : List ℕ) (f : Fault) → fault text ≡ Some f → (f.kind ≡ TooLong → ⊥) → fault (first_pieces (f.entry - 1) text) ≡ None
none_before text f h other =
    let g = found_in text f h other in
    let place = g.piece.place in
    let number : f.entry - 1 ≡ g.piece.index = omega arith in
    ap (λ n. fault (first_pieces n text)) number ∙ clean_before g.piece.index text g.piece.next g.short g.piece.clean
