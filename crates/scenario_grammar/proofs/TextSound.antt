-- What a text is read as, it spells.
use Rattle.std.proofs.Common.{◌≡◌, ℕ, suc, ◌+◌, ◌<◌, ◌≤◌, List, [], ◌∷◌, ◌++◌, Bool, true, false, eqb, leb, ltb, cond, length, Option, Some, None, Result, Ok, Err, refl, ap, sym, ◌∙◌, arith, subst, ◌⊎◌, inl, inr}
use Rattle.std.specs.List.{slice_split, AllByRecursion}
use Rattle.std.specs.Str.{bytes_eq}
use Rattle.std.proofs.lemmas.Bool.Decides.{nat_tests}
use Rattle.indexmap.specs.IndexMap.{insert_all}
use Rattle.scenario_values.specs.declared.term.Term.{Term}
use Rattle.scenario_grammar.specs.declared.fault.Kind.{Kind}
use Rattle.scenario_grammar.specs.declared.fault.Kind.TheVariants.{TooMany, TooLong, NoName}
use Rattle.scenario_grammar.specs.Words.{cut, cut_at_arrows}
use Rattle.scenario_values.specs.Words.{lacks, trimmed}
use Rattle.scenario_grammar.specs.FirstFault.{◌>>=◌, term_of}
use Rattle.scenario_grammar.specs.FirstFault.{Fault, Progress, at, bad, count_fault, term_in, chain_from, add_entry, action, piece_in, pieces_from, nothing, reading}
use Rattle.scenario_values.specs.Scenario.{Entries, is_off}
use Rattle.scenario_grammar.specs.Spelling.{SpellsTerm, SpellsParts, SpellsAction, SpellsPieces, Writes, Within}
use Rattle.scenario_values.specs.Scenario.{entries_of, fault_of, faults_in, all_faults}
use Rattle.scenario_grammar.proofs.CutLaws.{cut_gives, cut_front_lacks}
use Rattle.scenario_grammar.proofs.TermSound.{bind_ok, term_sound}
use Rattle.scenario_grammar.proofs.TextLaws.{after, same_progress}

abbrev pub yes : {A : Type 0} → A → Result A Fault
yes x = Ok x

pub yes_is : {A : Type 0} (x y : A) → yes x ≡ yes y → x ≡ y
yes_is x y e = cc

-- a guard that let through
pub let_through : {A : Type 0} (t : Bool) (f : Fault) (r : Result A Fault) (x : A) → cond t (Err f) r ≡ Ok x → (t ≡ false) × (r ≡ Ok x)
let_through true f r x e = absurd cc
let_through false f r x e = (refl, e)

at_ok : {A : Type 0} (entry n : ℕ) (r : Result A Kind) (x : A) → at entry n r ≡ Ok x → r ≡ Ok x
at_ok entry n (Ok y) x e = cc
at_ok entry n (Err k) x e = absurd cc

below : (m n : ℕ) → ltb m n ≡ false → n ≤ m
below m n h = grind (arith, nat_tests)

less : (m n : ℕ) → leb m n ≡ false → n < m
less m n h = grind (arith, nat_tests)

some_length : (n : ℕ) → eqb n 0 ≡ false → 0 < n
some_length n h = grind (arith, nat_tests)

no_length : (n : ℕ) → eqb n 0 ≡ true → n ≡ 0
no_length n h = grind (arith, nat_tests)

count_gives : (entry n faults : ℕ) (s t : Term) (g : ℕ) (off : Bool) → faults ≤ 4096 → cond {A = Result (Term × ℕ) Fault} off (Ok (s, faults)) (cond (leb 4096 faults) (bad TooMany entry n) (Ok (s, faults + 1))) ≡ Ok (t, g) → (s ≡ t) × (g ≡ faults + cond off 0 1) × (g ≤ 4096)
count_gives entry n faults s t g true few h =
    let e = yes_is (s, faults) (t, g) h in
    let same : faults ≡ g = ap (λ (p : Term × ℕ). p.1) e in
    (ap (λ (p : Term × ℕ). p.0) e, omega arith, omega arith)
count_gives entry n faults s t g false few h =
    let l = let_through (leb 4096 faults) (record { kind = TooMany; entry = entry; term = n }) (Ok (s, faults + 1)) (t, g) h in
    let e = yes_is (s, faults + 1) (t, g) l.1 in
    let same : faults + 1 ≡ g = ap (λ (p : Term × ℕ). p.1) e in
    let small : faults < 4096 = less 4096 faults l.0 in
    (ap (λ (p : Term × ℕ). p.0) e, omega arith, omega arith)

pub term_in_gives : (entry n faults : ℕ) (text : List ℕ) (t : Term) (g : ℕ) → faults ≤ 4096 → term_in entry n faults text ≡ Ok (t, g) → (n ≤ 256) × SpellsTerm (trimmed text) t × (g ≡ faults + fault_of t) × (g ≤ 4096)
unfolding term_in
term_in_gives entry n faults text t g few h =
    let l = let_through (ltb 256 n) (record { kind = TooMany; entry = entry; term = n }) (at entry n (term_of (trimmed text)) >>= count_fault entry n faults) (t, g) h in
    let b = bind_ok (at entry n (term_of (trimmed text))) (count_fault entry n faults) (t, g) l.1 in
    let k = count_gives entry n faults b.0 t g (is_off b.0.task) few b.2 in
    let P : Term → Type 0 = λ u. SpellsTerm (trimmed text) u in
    let Q : Term → Type 0 = λ u. g ≡ faults + fault_of u in
    (below 256 n l.0, subst P k.0 (term_sound (trimmed text) b.0 (at_ok entry n (term_of (trimmed text)) b.0 b.1)), subst Q k.0 k.1, k.2)

pub chain_gives : (entry n faults : ℕ) (parts : List (List ℕ)) (ts : List Term) (g : ℕ) → n ≤ 257 → faults ≤ 4096 → chain_from entry n faults parts ≡ Ok (ts, g) → SpellsParts parts ts × (n + length ts ≤ 257) × (g ≡ faults + faults_in ts) × (g ≤ 4096)
unfolding chain_from
chain_gives entry n faults [] ts g small few h =
    let e = yes_is ([], faults) (ts, g) h in
    let none : [] ≡ ts = ap (λ (p : List Term × ℕ). p.0) e in
    let same : faults ≡ g = ap (λ (p : List Term × ℕ). p.1) e in
    let P : List Term → Type 0 = λ us. SpellsParts [] us × (n + length us ≤ 257) × (g ≡ faults + faults_in us) × (g ≤ 4096) in
    subst P none (tt, omega arith, omega arith, omega arith)
chain_gives entry n faults (p ∷ ps) ts g small few h =
    let b = bind_ok (term_in entry n faults p) _ (ts, g) h in
    let one = term_in_gives entry n faults p b.0.0 b.0.1 few b.1 in
    let r = bind_ok (chain_from entry (n + 1) b.0.1 ps) _ (ts, g) b.2 in
    let more = chain_gives entry (n + 1) b.0.1 ps r.0.0 r.0.1 (let k = one.0 in omega arith) one.3 r.1 in
    let e = yes_is (b.0.0 ∷ r.0.0, r.0.1) (ts, g) r.2 in
    let whole : (b.0.0 ∷ r.0.0) ≡ ts = ap (λ (p : List Term × ℕ). p.0) e in
    let same : r.0.1 ≡ g = ap (λ (p : List Term × ℕ). p.1) e in
    let P : List Term → Type 0 = λ us. SpellsParts (p ∷ ps) us × (n + length us ≤ 257) × (g ≡ faults + faults_in us) × (g ≤ 4096) in
    let f1 = one.2 in let f2 = more.2 in let f3 = more.1 in let f4 = more.3 in
    subst P whole ((one.1, more.0), omega arith, omega arith, omega arith)

-- what a piece adds
pub record Adds (done next : Progress) (piece : List ℕ) : Type 0 where
  pub e : List ℕ × List Term
  pub action : SpellsAction piece e
  pub few_terms : length e.1 ≤ 256
  pub few_pieces : done.pieces < 256
  pub few_faults : done.faults + faults_in e.1 ≤ 4096
  pub next_is : next ≡ add_entry done e.0 (e.1, done.faults + faults_in e.1)

action_gives : (done next : Progress) (entry : ℕ) (piece : List ℕ) (o : Option (List ℕ × List ℕ)) → ((front back : List ℕ) → o ≡ Some (front, back) → (piece ≡ front ++ (61 ∷ back)) × (lacks 61 front ≡ true)) → done.pieces < 256 → done.faults ≤ 4096
    → action done entry o ≡ Ok next → Adds done next piece
action_gives done next entry piece None parts few faults h = absurd cc
action_gives done next entry piece (Some (front, back)) parts few faults h =
    let l = let_through (eqb (length (trimmed front)) 0) (record { kind = NoName; entry = entry; term = 0 }) _ next h in
    let b = bind_ok (chain_from entry 1 done.faults (cut_at_arrows back)) _ next l.1 in
    let c = chain_gives entry 1 done.faults (cut_at_arrows back) b.0.0 b.0.1 (omega arith) faults b.1 in
    let p = parts front back refl in
    let f1 = c.1 in let f2 = c.2 in let f3 = c.3 in
    let same : b.0.1 ≡ done.faults + faults_in b.0.0 = c.2 in
    record {
      e = (trimmed front, b.0.0);
      action = record { front = front; back = back; parts = p.0; first = p.1; name = refl; some_name = some_length (length (trimmed front)) l.0; chain = c.0 };
      few_terms = omega arith;
      few_pieces = few;
      few_faults = omega arith;
      next_is = sym (yes_is (add_entry done (trimmed front) b.0) next b.2) ∙ ap (λ (n : ℕ). add_entry done (trimmed front) (b.0.0, n)) same;
    }

piece_gives : (done next : Progress) (entry : ℕ) (piece : List ℕ) (blank : Bool) → eqb (length piece) 0 ≡ blank → done.faults ≤ 4096
    → cond blank (yes done) (cond (leb 256 done.pieces) (bad TooMany entry 0) (action done entry (cut 61 piece))) ≡ Ok next → ((length piece ≡ 0) × (done ≡ next)) ⊎ ((0 < length piece) × Adds done next piece)
piece_gives done next entry piece true is few h = inl (no_length (length piece) is, yes_is done next h)
piece_gives done next entry piece false is few h =
    let l = let_through (leb 256 done.pieces) (record { kind = TooMany; entry = entry; term = 0 }) (action done entry (cut 61 piece)) next h in
    inr (some_length (length piece) is, action_gives done next entry piece (cut 61 piece) (λ front back e. (cut_gives 61 piece front back e, cut_front_lacks 61 piece front back e)) (less 256 done.pieces l.0) few l.1)

-- what pieces add
pub record AddsAll (done next : Progress) (pieces : List (List ℕ)) : Type 0 where
  pub actions : List (List ℕ × List Term)
  pub spelled : SpellsPieces pieces actions
  pub few_terms : AllByRecursion (λ e. length e.1 ≤ 256) actions
  pub few_pieces : done.pieces + length actions ≤ 256
  pub few_faults : done.faults + all_faults actions ≤ 4096
  pub next_is : next ≡ after done actions

blank_more : (p : List ℕ) (ps : List (List ℕ)) (actions : List (List ℕ × List Term)) → length (trimmed p) ≡ 0 → SpellsPieces ps actions → SpellsPieces (p ∷ ps) actions
blank_more p ps [] blank h = (blank, h)
blank_more p ps (e ∷ es) blank h = inl (blank, h)

pub pieces_give : (done next : Progress) (entry : ℕ) (pieces : List (List ℕ)) → done.pieces ≤ 256 → done.faults ≤ 4096 → pieces_from done entry pieces ≡ Ok next → AddsAll done next pieces
unfolding pieces_from piece_in
pieces_give done next entry [] few faults h =
    record {
      actions = [];
      spelled = tt;
      few_terms = tt;
      few_pieces = omega arith;
      few_faults = omega arith;
      next_is = sym (yes_is done next h) ∙ yes_is done (after done []) (same_progress done.entries done.pieces (done.pieces + 0) done.faults (done.faults + 0) (omega arith) (omega arith));
    }
pieces_give done next entry (p ∷ ps) few faults h =
    let b = bind_ok (piece_in done entry (trimmed p)) _ next h in
    elim (piece_gives done b.0 entry (trimmed p) (eqb (length (trimmed p)) 0) refl faults b.1) [
      | inl same ↦
          let P : Progress → Type 0 = λ d. AddsAll d next ps in
          let rest : AddsAll done next ps = subst P (sym same.1) (pieces_give b.0 next (entry + 1) ps (let Q : Progress → Type 0 = λ d. d.pieces ≤ 256 in subst Q same.1 few) (let Q : Progress → Type 0 = λ d. d.faults ≤ 4096 in subst Q same.1 faults) b.2) in
          record { actions = rest.actions; spelled = blank_more p ps rest.actions same.0 rest.spelled; few_terms = rest.few_terms; few_pieces = rest.few_pieces; few_faults = rest.few_faults; next_is = rest.next_is }
      | inr one ↦
          let a = one.1 in
          let mid : Progress = add_entry done a.e.0 (a.e.1, done.faults + faults_in a.e.1) in
          let P : Progress → Type 0 = λ d. AddsAll d next ps in
          let f1 = a.few_pieces in let f2 = a.few_faults in
          let rest : AddsAll mid next ps = pieces_give mid next (entry + 1) ps (omega arith) f2 (let Q : Progress → Type 0 = λ d. pieces_from d (entry + 1) ps ≡ Ok next in subst Q a.next_is b.2) in
          let f3 = rest.few_pieces in let f4 = rest.few_faults in
          record {
            actions = a.e ∷ rest.actions;
            spelled = inr (one.0, a.action, rest.spelled);
            few_terms = (a.few_terms, rest.few_terms);
            few_pieces = omega arith;
            few_faults = omega arith;
            next_is = rest.next_is ∙ yes_is (after mid rest.actions) (after done (a.e ∷ rest.actions)) (same_progress (insert_all bytes_eq mid.entries rest.actions) (mid.pieces + length rest.actions) (done.pieces + suc (length rest.actions)) (mid.faults + all_faults rest.actions) (done.faults + (faults_in a.e.1 + all_faults rest.actions)) (omega arith) (omega arith));
          }
    ]

pub text_gives : (text : List ℕ) (s : Entries) → reading text ≡ Ok s → (actions : List (List ℕ × List Term)) × Writes text actions × Within text actions × (s ≡ entries_of actions)
unfolding reading
text_gives text s h =
    let l = let_through (ltb 65536 (length text)) (record { kind = TooLong; entry = 0; term = 0 }) _ s h in
    let b = bind_ok (pieces_from nothing 1 (slice_split (λ b. eqb b 59) text)) _ s l.1 in
    let a = pieces_give nothing b.0 1 (slice_split (λ b. eqb b 59) text) (omega arith) (omega arith) b.1 in (
      a.actions,
      a.spelled,
      record { bytes = below 65536 (length text) l.0; few_actions = let f = a.few_pieces in omega arith; few_terms = a.few_terms; few_faults = let f = a.few_faults in omega arith },
      sym (yes_is b.0.entries s b.2) ∙ ap (λ (d : Progress). d.entries) a.next_is,
    )
