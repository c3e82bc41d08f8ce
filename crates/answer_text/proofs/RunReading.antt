-- The lines of a text of answers, read one after another.
use Rattle.std.proofs.Common.{◌≡◌, ℕ, ◌+◌, ◌<◌, ◌≤◌, List, [], ◌∷◌, ◌++◌, Bool, true, false, eqb, ltb, suc, cond, length, Option, Some, None, Result, Ok, Err, refl, ap, sym, ◌∙◌, arith, subst, append_assoc, length-append}
use Rattle.std.proofs.Math.Path.{fun_ext}
use Rattle.std.specs.Prelude.{IfOk, OnOk}
use Rattle.std.specs.List.{slice_split}
use Rattle.std.specs.Map.{lookup}
use Rattle.std.specs.Str.{bytes_eq}
use Rattle.std.proofs.lemmas.List.{append-nil}
use Rattle.std.proofs.lemmas.List.Splits.{length-slice_split}
use Rattle.std.proofs.lemmas.Slice.Eq.{bytes_eq-Decides}
use Rattle.std.proofs.lemmas.Bool.Decides.{nat_tests}
use Rattle.indexmap.specs.IndexMap.{insert_entry}
use Rattle.scenario_values.specs.Printed.{printed}
use Rattle.scenario_values.specs.Scenario.{Entries}
use Rattle.scenario_grammar.specs.FirstFault.{◌>>=◌}
use Rattle.scenario_grammar.specs.Words.{cut}
use Rattle.scenario_grammar.proofs.TermSound.{bind_ok}
use Rattle.answer_text.specs.declared.fault.LineFault.{LineFault}
use Rattle.answer_text.specs.declared.fault.LineFault.TheVariants.{NotEnded, Contradicts}
use Rattle.answer_text.specs.declared.fault.LineError.{LineError}
use Rattle.answer_text.specs.declared.fault.LineError.TheVariants as errors
use Rattle.answer_text.specs.declared.fault.AnswersFault.{AnswersFault}
use Rattle.answer_text.specs.declared.fault.AnswersFault.TheVariants as faults
use Rattle.answer_text.specs.declared.runs.RunLine.{RunLine}
use Rattle.answer_text.specs.declared.runs.Stranger.{Stranger}
use Rattle.answer_text.specs.declared.runs.ToldRun.{ToldRun}
use Rattle.answer_text.specs.Answers.{most_bytes}
use Rattle.answer_text.specs.FirstFault.{Fails}
use Rattle.answer_text.specs.Runs.{RunBook, ended, first_told, is_repeated, known_of, known_strangers, on_line, pieces_from, reading_of, run_in, strangers_from, strangers_in, told_in, told_run, with_line, with_run, Tells}
use Rattle.answer_text.specs.inside.Books.{Holds, IsBookOf, fault_at, noted, noted_by, read_line}
use Rattle.answer_text.proofs.Lines.{split_one, split_first, shorter}

-- ---- a book after one more line

or_told : Option ToldRun → Option ToldRun → Option ToldRun
or_told None o = o
or_told (Some t) o = Some t

or_none : (o : Option ToldRun) → or_told o None ≡ o
unfolding or_told
or_none None = refl
or_none (Some t) = refl

told_push : (n m : ℕ) (before : List RunLine) (r : RunLine) (key : List ℕ) → m ≡ n + length before → first_told n (before ++ r ∷ []) key ≡ or_told (first_told n before key) (cond (bytes_eq key (printed r.scenario)) (Some (told_run m r)) None)
unfolding first_told or_told
told_push n m [] r key e = rw (let same : m ≡ n = omega arith in same) refl
told_push n m (b ∷ more) r key e = by_test (bytes_eq key (printed b.scenario)) (told_push (n + 1) m more r key (omega arith))
  where
    by_test : (t : Bool) → first_told (n + 1) (more ++ r ∷ []) key ≡ or_told (first_told (n + 1) more key) (cond (bytes_eq key (printed r.scenario)) (Some (told_run m r)) None)
        → cond t (Some (told_run n b)) (first_told (n + 1) (more ++ r ∷ []) key) ≡ or_told (cond t (Some (told_run n b)) (first_told (n + 1) more key)) (cond (bytes_eq key (printed r.scenario)) (Some (told_run m r)) None)
    by_test true ih = refl
    by_test false ih = ih

lookup_insert : (book : List (List ℕ × ToldRun)) (k : List ℕ) (v : ToldRun) (key : List ℕ) → lookup (bytes_eq k) book ≡ None → lookup (bytes_eq key) (insert_entry bytes_eq book k v) ≡ or_told (lookup (bytes_eq key) book) (cond (bytes_eq key k) (Some v) None)
unfolding or_told
lookup_insert [] k v key h = refl
lookup_insert (e ∷ es) k v key h = by_test (bytes_eq k e.0) refl (lookup_insert es k v key) h
  where
    by_key : (t : Bool) → lookup (bytes_eq key) (insert_entry bytes_eq es k v) ≡ or_told (lookup (bytes_eq key) es) (cond (bytes_eq key k) (Some v) None)
        → cond t (Some e.1) (lookup (bytes_eq key) (insert_entry bytes_eq es k v)) ≡ or_told (cond t (Some e.1) (lookup (bytes_eq key) es)) (cond (bytes_eq key k) (Some v) None)
    by_key true ih = refl
    by_key false ih = ih

    by_test : (t : Bool) → bytes_eq k e.0 ≡ t
        → (lookup (bytes_eq k) es ≡ None → lookup (bytes_eq key) (insert_entry bytes_eq es k v) ≡ or_told (lookup (bytes_eq key) es) (cond (bytes_eq key k) (Some v) None))
        → cond t (Some e.1) (lookup (bytes_eq k) es) ≡ None
        → lookup (bytes_eq key) (cond t ((e.0, v) ∷ es) (e ∷ insert_entry bytes_eq es k v)) ≡ or_told (lookup (bytes_eq key) (e ∷ es)) (cond (bytes_eq key k) (Some v) None)
    by_test true is later none = absurd cc
    by_test false is later none = by_key (bytes_eq key e.0) (later none)

book_grows : (book : RunBook) (before : List RunLine) (r : RunLine) (line : ℕ) → IsBookOf book before → line ≡ length before + 1 → lookup (bytes_eq (printed r.scenario)) book.told ≡ None
    → (key : List ℕ) → lookup (bytes_eq key) (insert_entry bytes_eq book.told (printed r.scenario) (told_run line r)) ≡ first_told 1 (before ++ r ∷ []) key
book_grows book before r line is e none key =
    lookup_insert book.told (printed r.scenario) (told_run line r) key none
    ∙ ap (λ o. or_told o (cond (bytes_eq key (printed r.scenario)) (Some (told_run line r)) None)) (is key)
    ∙ sym (told_push 1 line before r key (omega arith))

book_stays : (book : RunBook) (before : List RunLine) (r : RunLine) (told : ToldRun) → IsBookOf book before → lookup (bytes_eq (printed r.scenario)) book.told ≡ Some told → IsBookOf book (before ++ r ∷ [])
unfolding or_told
book_stays book before r told is there key =
    is key ∙ sym (told_push 1 (1 + length before) before r key refl ∙ by_test (bytes_eq key (printed r.scenario)) refl)
  where
    by_test : (t : Bool) → bytes_eq key (printed r.scenario) ≡ t → or_told (first_told 1 before key) (cond t (Some (told_run (1 + length before) r)) None) ≡ first_told 1 before key
    by_test false e = or_none (first_told 1 before key)
    by_test true e =
        let same : key ≡ printed r.scenario = (bytes_eq-Decides key (printed r.scenario)).0 e in
        let some : first_told 1 before key ≡ Some told = rw same (sym (is (printed r.scenario)) ∙ there) in
        rw some refl

-- ---- one line

abbrev fine : {A : Type 0} → A → Result A LineFault
fine x = Ok x

fine_is : {A : Type 0} (x y : A) → fine x ≡ fine y → x ≡ y
fine_is x y e = cc

-- one more line's names
strangers_push : (points : List (List ℕ)) (n m : ℕ) (before : List RunLine) (r : RunLine) → m ≡ n + length before
    → strangers_from points n (before ++ r ∷ []) ≡ strangers_from points n before ++ strangers_in points m r.scenario
unfolding strangers_from
strangers_push points n m [] r e = rw (let same : m ≡ n = omega arith in same) (append-nil (strangers_in points n r.scenario))
strangers_push points n m (b ∷ more) r e =
    ap (λ (l : List Stranger). strangers_in points n b.scenario ++ l) (strangers_push points (n + 1) m more r (omega arith))
    ∙ sym (append_assoc (strangers_in points n b.scenario) (strangers_from points (n + 1) more) (strangers_in points m r.scenario))

record IsNoted (points : List (List ℕ)) (book : RunBook) (line : ℕ) (before : List RunLine) (r : RunLine) (next : RunBook) : Type 0 where
  with_is : with_run before r (first_told 1 before (printed r.scenario)) ≡ Ok (before ++ r ∷ [])
  book_is : IsBookOf next (before ++ r ∷ [])
  strangers_are : next.strangers ≡ book.strangers ++ strangers_in points line r.scenario

noted_gives : (points : List (List ℕ)) (book next : RunBook) (before : List RunLine) (r : RunLine) (line : ℕ) → IsBookOf book before → line ≡ length before + 1 → noted points book line r ≡ Ok next
    → IsNoted points book line before r next
unfolding noted
noted_gives points book next before r line is e h = by_told (lookup (bytes_eq (printed r.scenario)) book.told) refl h
  where
    more : List Stranger
    more = book.strangers ++ strangers_in points line r.scenario

    kept : (told : ToldRun) → lookup (bytes_eq (printed r.scenario)) book.told ≡ Some told → is_repeated told r ≡ true → record { told = book.told; strangers = more } ≡ next
        → IsNoted points book line before r next
    kept told k t same = record {
      with_is = rw (sym (is (printed r.scenario)) ∙ k, t) refl;
      book_is = subst (λ (b : RunBook). IsBookOf b (before ++ r ∷ [])) same (book_stays book before r told is k);
      strangers_are = ap (λ (b : RunBook). b.strangers) (sym same);
    }

    by_test : (told : ToldRun) (t : Bool) → lookup (bytes_eq (printed r.scenario)) book.told ≡ Some told → is_repeated told r ≡ t
        → cond t (Ok (record { told = book.told; strangers = more })) (Err (Contradicts told.line)) ≡ Ok next → IsNoted points book line before r next
    by_test told true k e h = kept told k e (fine_is (record { told = book.told; strangers = more }) next h)
    by_test told false k e h = absurd cc

    by_told : (o : Option ToldRun) → lookup (bytes_eq (printed r.scenario)) book.told ≡ o → noted_by points book line r o ≡ Ok next → IsNoted points book line before r next
    by_told None k h =
        let same : record { told = insert_entry bytes_eq book.told (printed r.scenario) (told_run line r); strangers = more } ≡ next = fine_is _ next h in
        record {
          with_is = rw (sym (is (printed r.scenario)) ∙ k) refl;
          book_is = subst (λ (b : RunBook). IsBookOf b (before ++ r ∷ [])) same (book_grows book before r line is e k);
          strangers_are = ap (λ (b : RunBook). b.strangers) (sym same);
        }
    by_told (Some told) k h = by_test told (is_repeated told r) k refl h

noted_refuses : (points : List (List ℕ)) (book : RunBook) (before : List RunLine) (r : RunLine) (line : ℕ) (fault : LineFault) → IsBookOf book before → noted points book line r ≡ Err fault → with_run before r (first_told 1 before (printed r.scenario)) ≡ Err fault
unfolding noted
noted_refuses points book before r line fault is h = rw (sym (is (printed r.scenario))) (by_told (lookup (bytes_eq (printed r.scenario)) book.told) h)
  where
    by_test : (told : ToldRun) (t : Bool) → cond {A = Result RunBook LineFault} t (Ok (record { told = book.told; strangers = book.strangers ++ strangers_in points line r.scenario })) (Err (Contradicts told.line)) ≡ Err fault → cond {A = Result (List RunLine) LineFault} t (Ok (before ++ r ∷ [])) (Err (Contradicts told.line)) ≡ Err fault
    by_test told true h = absurd cc
    by_test told false h = cc

    by_told : (o : Option ToldRun) → noted_by points book line r o ≡ Err fault → with_run before r o ≡ Err fault
    by_told None h = absurd cc
    by_told (Some told) h = by_test told (is_repeated told r) h

first_is : (needed : Bool) (names points : List (List ℕ)) (before after : List RunLine) (line : List ℕ) (r : RunLine) → run_in needed names points line ≡ Ok r → with_run before r (first_told 1 before (printed r.scenario)) ≡ Ok after → with_line needed names points before line ≡ Ok after
unfolding with_line
first_is needed names points before after line r read h = rw read (ap (on_line (length before + 1)) h)

-- ---- the lines

pub record Reading (needed : Bool) (names points : List (List ℕ)) (text rest : List ℕ) (book : RunBook) (number : ℕ) : Type 0 where
  pub before : List RunLine
  pub number_is : number ≡ length before + 1
  pub few : number + length rest ≤ length text + 1
  pub book_is : IsBookOf book before
  pub strangers_are : book.strangers ≡ strangers_from points 1 before
  pub goes_on : pieces_from needed names points before (slice_split (λ b. eqb b 10) rest) ≡ pieces_from needed names points [] (slice_split (λ b. eqb b 10) text)

pub begins : (needed : Bool) (names points : List (List ℕ)) (text : List ℕ) (book : RunBook) → book ≡ record { told = []; strangers = [] } → Reading needed names points text text book 1
unfolding first_told strangers_from
begins needed names points text book e = record {
  before = [];
  number_is = refl;
  few = omega arith;
  book_is = λ key. rw e refl;
  strangers_are = ap (λ (b : RunBook). b.strangers) e;
  goes_on = refl;
}

pub split_some : (text : List ℕ) → 0 < length (slice_split (λ b. eqb b 10) text)
split_some text = omega (arith, length-slice_split (λ b. eqb b 10) text)

pub step : (needed : Bool) (names points : List (List ℕ)) (before after : List RunLine) (line : List ℕ) (pieces : List (List ℕ)) → 0 < length pieces → with_line needed names points before line ≡ Ok after → pieces_from needed names points before (line ∷ pieces) ≡ pieces_from needed names points after pieces
unfolding pieces_from
step needed names points before after line [] some h = absurd (omega arith)
step needed names points before after line (next ∷ more) some h = rw h refl

step_bad : (needed : Bool) (names points : List (List ℕ)) (before : List RunLine) (line : List ℕ) (pieces : List (List ℕ)) (fault : AnswersFault) → 0 < length pieces → with_line needed names points before line ≡ Err fault → pieces_from needed names points before (line ∷ pieces) ≡ Err fault
unfolding pieces_from
step_bad needed names points before line [] fault some h = absurd (omega arith)
step_bad needed names points before line (next ∷ more) fault some h = rw h refl

pub goes_on : (needed : Bool) (names points : List (List ℕ)) (text rest line after : List ℕ) (book next : RunBook) (number : ℕ) → cut 10 rest ≡ Some (line, after) → Reading needed names points text rest book number → read_line needed names points book number line ≡ Ok next → Reading needed names points text after next (number + 1)
unfolding read_line
goes_on needed names points text rest line after book next number cuts r h =
    let b = bind_ok (run_in needed names points line) _ next h in
    let a = b.0 in
    let n = noted_gives points book next r.before a number r.book_is r.number_is b.2 in
    let first : with_line needed names points r.before line ≡ Ok (r.before ++ a ∷ []) = first_is needed names points r.before (r.before ++ a ∷ []) line a b.1 n.with_is in
    let short = shorter rest line after cuts in
    let f1 = r.few in let f2 = r.number_is in
    record {
      before = r.before ++ a ∷ [];
      number_is = simp length-append (omega arith);
      few = omega arith;
      book_is = n.book_is;
      strangers_are =
          n.strangers_are ∙ ap (λ (l : List Stranger). l ++ strangers_in points number a.scenario) r.strangers_are
          ∙ sym (strangers_push points 1 number r.before a (let e : number ≡ 1 + length r.before = omega (arith, f2) in e));
      goes_on = sym (step needed names points r.before (r.before ++ a ∷ []) line (slice_split (λ b. eqb b 10) after) (split_some after) first) ∙ ap (pieces_from needed names points r.before) (sym (split_first rest line after cuts)) ∙ r.goes_on;
    }

line_refused : (needed : Bool) (names points : List (List ℕ)) (before : List RunLine) (book : RunBook) (number : ℕ) (line : List ℕ) (fault : LineFault) → IsBookOf book before → number ≡ length before + 1 → read_line needed names points book number line ≡ Err fault → with_line needed names points before line ≡ Err (faults.Line number fault)
unfolding read_line with_line
line_refused needed names points before book number line fault is e h = rw (sym e) (by_run (run_in needed names points line) h)
  where
    by_run : (r : Result RunLine LineFault) → (r >>= λ run. noted points book number run) ≡ Err fault → on_line number (r >>= λ run. with_run before run (first_told 1 before (printed run.scenario))) ≡ Err (faults.Line number fault)
    by_run (Ok a) h = ap (on_line number) (noted_refuses points book before a number fault is h)
    by_run (Err f) h = cc

pub not_below : (m n : ℕ) → n ≤ m → ltb m n ≡ false
not_below m n h = grind (arith, nat_tests)

is_below : (m n : ℕ) → m < n → ltb m n ≡ true
is_below m n h = grind (arith, nat_tests)

whole : (needed : Bool) (names points : List (List ℕ)) (text : List ℕ) → length text ≤ most_bytes → reading_of needed names points text ≡ pieces_from needed names points [] (slice_split (λ b. eqb b 10) text)
unfolding reading_of
whole needed names points text short = rw (not_below most_bytes (length text) short) refl

refused : (needed : Bool) (names points : List (List ℕ)) (text rest line after : List ℕ) (book : RunBook) (number : ℕ) (fault : LineFault) → length text ≤ most_bytes → cut 10 rest ≡ Some (line, after) → Reading needed names points text rest book number → read_line needed names points book number line ≡ Err fault → reading_of needed names points text ≡ Err (faults.Line number fault)
refused needed names points text rest line after book number fault short cuts r h =
    whole needed names points text short ∙ sym r.goes_on ∙ ap (pieces_from needed names points r.before) (split_first rest line after cuts)
    ∙ step_bad needed names points r.before line (slice_split (λ b. eqb b 10) after) (faults.Line number fault) (split_some after) (line_refused needed names points r.before book number line fault r.book_is r.number_is h)

last_is : (needed : Bool) (names points : List (List ℕ)) (before : List RunLine) (last : List ℕ) → pieces_from needed names points before (last ∷ []) ≡ ended before last
unfolding pieces_from
last_is needed names points before last = refl

pub all_read : (needed : Bool) (names points : List (List ℕ)) (text rest : List ℕ) (book : RunBook) (number : ℕ) → length text ≤ most_bytes → cut 10 rest ≡ None → rest ≡ [] → Reading needed names points text rest book number → Holds needed names points text book
all_read needed names points text rest book number short cuts empty r =
    let one : pieces_from needed names points r.before (slice_split (λ b. eqb b 10) rest) ≡ Ok r.before = ap (pieces_from needed names points r.before) (split_one rest cuts) ∙ last_is needed names points r.before rest ∙ ap (ended r.before) empty in
    (r.before, whole needed names points text short ∙ sym r.goes_on ∙ one, r.book_is, r.strangers_are)

not_ended : (before : List RunLine) (number : ℕ) (rest : List ℕ) → number ≡ length before + 1 → 0 < length rest → ended before rest ≡ Err (faults.Line number NotEnded)
not_ended before number [] e some = absurd (omega arith)
not_ended before number (b ∷ bs) e some = rw e refl

pub left_over : (needed : Bool) (names points : List (List ℕ)) (text rest : List ℕ) (book : RunBook) (number : ℕ) → length text ≤ most_bytes → cut 10 rest ≡ None → 0 < length rest → Reading needed names points text rest book number → reading_of needed names points text ≡ Err (faults.Line number NotEnded)
left_over needed names points text rest book number short cuts some r =
    whole needed names points text short ∙ sym r.goes_on ∙ ap (pieces_from needed names points r.before) (split_one rest cuts) ∙ last_is needed names points r.before rest ∙ not_ended r.before number rest r.number_is some

pub tells_by : (needed : Bool) (names points : List (List ℕ)) (text rest line after : List ℕ) (book : RunBook) (number : ℕ) (error : LineError) → length text ≤ most_bytes → cut 10 rest ≡ Some (line, after) → Reading needed names points text rest book number → Fails error (read_line needed names points book number line) → Tells (fault_at number error) needed names points text
tells_by needed names points text rest line after book number errors.Memory short cuts r h = tt
tells_by needed names points text rest line after book number (errors.Bad fault) short cuts r h = refused needed names points text rest line after book number fault short cuts r h

-- ---- the contract

pub too_long : (needed : Bool) (names points : List (List ℕ)) (text : List ℕ) → most_bytes < length text → reading_of needed names points text ≡ Err faults.TooLong
unfolding reading_of
too_long needed names points text h = rw (is_below most_bytes (length text) h) refl

book_knows : (needed : Bool) (names points : List (List ℕ)) (text : List ℕ) (book : RunBook) → Holds needed names points text book → told_in book ≡ known_of (reading_of needed names points text)
book_knows needed names points text book h = fun_ext (λ (s : Entries). h.2 (printed s) ∙ ap (λ (r : Result (List RunLine) AnswersFault). known_of r s) (sym h.1))

pub known_all : (needed : Bool) (names points : List (List ℕ)) (text : List ℕ) (r : Result RunBook AnswersFault) → IfOk r (Holds needed names points text) → IfOk r (λ book. told_in book ≡ known_of (reading_of needed names points text))
known_all needed names points text (Ok book) h = book_knows needed names points text book h
known_all needed names points text (Err fault) h = tt

pub read_all : (needed : Bool) (names points : List (List ℕ)) (text : List ℕ) (r : Result RunBook AnswersFault) → IfOk r (Holds needed names points text) → OnOk r ((lines : List RunLine) × (reading_of needed names points text ≡ Ok lines))
read_all needed names points text (Ok book) h = (h.0, h.1)
read_all needed names points text (Err fault) h = tt

pub strangers_all : (needed : Bool) (names points : List (List ℕ)) (text : List ℕ) (r : Result RunBook AnswersFault) → IfOk r (Holds needed names points text)
    → IfOk r (λ book. book.strangers ≡ known_strangers points (reading_of needed names points text))
strangers_all needed names points text (Ok book) h = h.3 ∙ ap (known_strangers points) (sym h.1)
strangers_all needed names points text (Err fault) h = tt

-- ---- what is left

never : (n : ℕ) → eqb (suc n) 0 ≡ true → ⊥
never n h = absurd (grind (arith, nat_tests))

pub none_left : (rest : List ℕ) (b : Bool) → b ≡ eqb (length rest) 0 → b ≡ true → rest ≡ []
none_left [] b e h = refl
none_left (x ∷ rest) b e h = absurd (never (length rest) (sym e ∙ h))

pub some_left : (rest : List ℕ) (b : Bool) → b ≡ eqb (length rest) 0 → b ≡ false → 0 < length rest
some_left [] b e h = absurd (cc)
some_left (x ∷ rest) b e h = omega arith
