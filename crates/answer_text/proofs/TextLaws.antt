-- What a text is read as, it says, and the other way round.
use Rattle.std.proofs.Common.{◌≡◌, ℕ, ◌+◌, ◌<◌, ◌≤◌, List, [], ◌∷◌, ◌++◌, Bool, true, false, eqb, ltb, cond, length, Option, Some, None, Result, Ok, Err, refl, ap, sym, ◌∙◌, arith, subst, append_assoc, inl}
use Rattle.std.specs.Prelude.{option_map, Contains, IfOk, IfErr}
use Rattle.std.specs.List.{slice_split}
use Rattle.std.specs.Map.{lookup}
use Rattle.std.specs.Str.{bytes_eq}
use Rattle.std.proofs.lemmas.List.{append-nil}
use Rattle.std.proofs.lemmas.Bool.Decides.{nat_tests}
use Rattle.scenario_values.specs.Printed.{printed}
use Rattle.scenario_values.specs.Scenario.{Entries, IsScenario}
use Rattle.scenario_grammar.proofs.TermSound.{bind_ok}
use Rattle.answer_text.specs.declared.fault.LineFault.{LineFault}
use Rattle.answer_text.specs.declared.fault.LineFault.TheVariants.{Contradicts}
use Rattle.answer_text.specs.declared.fault.AnswersFault.{AnswersFault}
use Rattle.answer_text.specs.declared.fault.AnswersFault.TheVariants as faults
use Rattle.answer_text.specs.declared.runs.RunLine.{RunLine}
use Rattle.answer_text.specs.declared.runs.ToldRun.{ToldRun}
use Rattle.answer_text.specs.Answers.{SpellsRun, SpellsRuns, Says, most_bytes}
use Rattle.answer_text.specs.Known.{Knows, Ran, ran_in}
use Rattle.answer_text.specs.Runs.{RunBook, first_told, is_repeated, on_line, pieces_from, reading_of, run_in, run_line, told_in, with_line, with_run, Tells}
use Rattle.answer_text.specs.inside.Books.{Holds, IsBookOf}
use Rattle.answer_text.proofs.Members.{Has, has_of, contains_of, has_left, has_right, repeated_is, is_repeated_of, told_gives, told_has, same_printed, AreLawful, lawful_has, lawful_push, HasOne, consistent_of, one_of, told_is, Allows, IsOf, one_push}
use Rattle.answer_text.proofs.AnswerLaws.{IsRead, line_gives, line_read}
use Rattle.answer_text.proofs.RunReading.{not_below, split_some, step}

abbrev done : {A : Type 0} → A → Result A AnswersFault
done x = Ok x

done_is : {A : Type 0} (x y : A) → done x ≡ done y → x ≡ y
done_is x y e = cc

abbrev fine : {A : Type 0} → A → Result A LineFault
fine x = Ok x

fine_is : {A : Type 0} (x y : A) → fine x ≡ fine y → x ≡ y
fine_is x y e = cc

-- ---- a line

on_line_ok : {A : Type 0} (n : ℕ) (r : Result A LineFault) (x : A) → on_line n r ≡ Ok x → r ≡ Ok x
on_line_ok n (Ok y) x h = ap (λ z. Ok z) (done_is y x h)
on_line_ok n (Err f) x h = absurd cc

with_run_gives : (before : List RunLine) (a : RunLine) (o : Option ToldRun) (after : List RunLine) → with_run before a o ≡ Ok after → (after ≡ before ++ a ∷ []) × Allows o a
with_run_gives before a None after h = (sym (fine_is (before ++ a ∷ []) after h), tt)
with_run_gives before a (Some told) after h = by_test (is_repeated told a) refl h
  where
    by_test : (t : Bool) → is_repeated told a ≡ t → cond t (Ok (before ++ a ∷ [])) (Err (Contradicts told.line)) ≡ Ok after → (after ≡ before ++ a ∷ []) × IsOf told a
    by_test true e k = (sym (fine_is (before ++ a ∷ []) after k), repeated_is told a e)
    by_test false e k = absurd cc

pub record Adds (needed : Bool) (names points : List (List ℕ)) (before : List RunLine) (line : List ℕ) (after : List RunLine) : Type 0 where
  pub run : RunLine
  pub after_is : after ≡ before ++ run ∷ []
  pub read : IsRead needed names points line run
  pub allows : Allows (first_told 1 before (printed run.scenario)) run

pub with_line_gives : (needed : Bool) (names points : List (List ℕ)) (before : List RunLine) (line : List ℕ) (after : List RunLine) → with_line needed names points before line ≡ Ok after → Adds needed names points before line after
unfolding with_line
with_line_gives needed names points before line after h =
    let b = bind_ok (run_in needed names points line) _ after (on_line_ok (length before + 1) _ after h) in
    let w = with_run_gives before b.0 (first_told 1 before (printed b.0.scenario)) after b.2 in
    record { run = b.0; after_is = w.0; read = line_gives needed names points line b.0 b.1; allows = w.1 }

with_run_read : (before : List RunLine) (a : RunLine) (o : Option ToldRun) → ((told : ToldRun) → o ≡ Some told → IsOf told a) → with_run before a o ≡ Ok (before ++ a ∷ [])
with_run_read before a None h = refl
with_run_read before a (Some told) h = rw (is_repeated_of told a (h told refl)) refl

with_line_read : (needed : Bool) (names points : List (List ℕ)) (before more : List RunLine) (line : List ℕ) (a : RunLine) → SpellsRun needed names points line a → AreLawful before → HasOne (before ++ a ∷ more) → with_line needed names points before line ≡ Ok (before ++ a ∷ [])
unfolding with_line
with_line_read needed names points before more line a h lawful one =
    let read = line_read needed names points line a h in
    let mine = (line_gives needed names points line a read).lawful in
    let agrees : (told : ToldRun) → first_told 1 before (printed a.scenario) ≡ Some told → IsOf told a = λ told e.
    let g = told_gives 1 before (printed a.scenario) told e in
    let same : g.run.scenario ≡ a.scenario = sym (same_printed a.scenario g.run.scenario mine (lawful_has before g.run lawful g.has) g.key_is) in
    subst (IsOf told) (one g.run a (has_left before (a ∷ more) g.run g.has) (has_right before (a ∷ more) a (inl refl)) same) g.told_is in
    rw read (ap (on_line (length before + 1)) (with_run_read before a (first_told 1 before (printed a.scenario)) agrees))

-- ---- the pieces

pub record Gathers (needed : Bool) (names points : List (List ℕ)) (before : List RunLine) (pieces : List (List ℕ)) (runs : List RunLine) : Type 0 where
  pub lines : List (List ℕ)
  pub new : List RunLine
  pub parts : pieces ≡ lines ++ [] ∷ []
  pub runs_are : runs ≡ before ++ new
  pub spelled : SpellsRuns needed names points lines new
  pub one : HasOne runs
  pub lawful : AreLawful runs

pub pieces_give : (needed : Bool) (names points : List (List ℕ)) (before : List RunLine) (pieces : List (List ℕ)) (runs : List RunLine) → 0 < length pieces → AreLawful before → HasOne before → pieces_from needed names points before pieces ≡ Ok runs → Gathers needed names points before pieces runs
unfolding pieces_from
pieces_give needed names points before [] runs some lawful one h = absurd (omega arith)
pieces_give needed names points before ([] ∷ []) runs some lawful one h =
    let same : before ≡ runs = done_is before runs h in
    record {
      lines = [];
      new = [];
      parts = refl;
      runs_are = sym same ∙ sym (append-nil before);
      spelled = tt;
      one = subst HasOne same one;
      lawful = subst AreLawful same lawful;
    }
pieces_give needed names points before ((b ∷ bs) ∷ []) runs some lawful one h = absurd cc
pieces_give needed names points before (line ∷ next ∷ more) runs some lawful one h =
    let b = bind_ok (with_line needed names points before line) _ runs h in
    let w = with_line_gives needed names points before line b.0 b.1 in
    let a = w.run in
    let lawful' : AreLawful b.0 = subst AreLawful (sym w.after_is) (lawful_push before a lawful w.read.lawful) in
    let one' : HasOne b.0 = subst HasOne (sym w.after_is) (one_push before 1 a (first_told 1 before (printed a.scenario)) lawful w.read.lawful one refl w.allows) in
    let g = pieces_give needed names points b.0 (next ∷ more) runs (omega arith) lawful' one' b.2 in
    record {
      lines = line ∷ g.lines;
      new = a ∷ g.new;
      parts = ap (λ (ps : List (List ℕ)). line ∷ ps) g.parts;
      runs_are = g.runs_are ∙ ap (λ (x : List RunLine). x ++ g.new) w.after_is ∙ append_assoc before (a ∷ []) g.new;
      spelled = (w.read.spelled, g.spelled);
      one = g.one;
      lawful = g.lawful;
    }

some_pieces : (lines : List (List ℕ)) (x : List ℕ) → 0 < length (lines ++ x ∷ [])
some_pieces [] x = omega arith
some_pieces (line ∷ lines) x = omega arith

lawful_one : (needed : Bool) (names points : List (List ℕ)) (line : List ℕ) (a : RunLine) → SpellsRun needed names points line a → IsScenario a.scenario
lawful_one needed names points line a h = (line_gives needed names points line a (line_read needed names points line a h)).lawful

pub pieces_read : (needed : Bool) (names points : List (List ℕ)) (before : List RunLine) (lines : List (List ℕ)) (new : List RunLine) → AreLawful before → HasOne (before ++ new) → SpellsRuns needed names points lines new
    → pieces_from needed names points before (lines ++ [] ∷ []) ≡ Ok (before ++ new)
unfolding pieces_from
pieces_read needed names points before [] [] lawful one h = ap done (sym (append-nil before))
pieces_read needed names points before [] (a ∷ more) lawful one h = absurd h
pieces_read needed names points before (line ∷ lines) [] lawful one h = absurd h
pieces_read needed names points before (line ∷ lines) (a ∷ more) lawful one h =
    let same : (before ++ a ∷ []) ++ more ≡ before ++ a ∷ more = append_assoc before (a ∷ []) more in
    let first = with_line_read needed names points before more line a h.0 lawful one in
    step needed names points before (before ++ a ∷ []) line (lines ++ [] ∷ []) (some_pieces lines []) first
    ∙ pieces_read needed names points (before ++ a ∷ []) lines more (lawful_push before a lawful (lawful_one needed names points line a h.0)) (subst HasOne (sym same) one) h.1
    ∙ ap done same

-- ---- the text

at_most : (m n : ℕ) → ltb m n ≡ false → n ≤ m
at_most m n h = grind (arith, nat_tests)

no_runs : HasOne []
no_runs r q h k e = absurd h

pub record Read (needed : Bool) (names points : List (List ℕ)) (text : List ℕ) (runs : List RunLine) : Type 0 where
  pub says : Says needed names points text runs
  pub one : HasOne runs
  pub lawful : AreLawful runs

pub text_gives : (needed : Bool) (names points : List (List ℕ)) (text : List ℕ) (runs : List RunLine) → reading_of needed names points text ≡ Ok runs → Read needed names points text runs
unfolding reading_of
text_gives needed names points text runs h = by_test (ltb most_bytes (length text)) refl h
  where
    by_test : (t : Bool) → ltb most_bytes (length text) ≡ t → cond t (Err faults.TooLong) (pieces_from needed names points [] (slice_split (λ b. eqb b 10) text)) ≡ Ok runs → Read needed names points text runs
    by_test true e k = absurd cc
    by_test false e k =
        let g = pieces_give needed names points [] (slice_split (λ b. eqb b 10) text) runs (split_some text) tt no_runs k in
        record {
          says = record {
            lines = g.lines;
            short = at_most most_bytes (length text) e;
            parts = g.parts;
            spelled = let P : List RunLine → Type 0 = λ x. SpellsRuns needed names points g.lines x in subst P (sym g.runs_are) g.spelled;
            consistent = consistent_of runs g.one;
          };
          one = g.one;
          lawful = g.lawful;
        }

pub text_read : (needed : Bool) (names points : List (List ℕ)) (text : List ℕ) (runs : List RunLine) → Says needed names points text runs → reading_of needed names points text ≡ Ok runs
unfolding reading_of
text_read needed names points text runs h =
    rw (not_below most_bytes (length text) h.short, h.parts) (pieces_read needed names points [] h.lines runs tt (one_of runs h.consistent) h.spelled)

-- ---- what is known

abbrev ran_of : ToldRun → Ran
ran_of told = (told.verdict, told.hits)

abbrev ran_of_line : RunLine → Ran
ran_of_line r = (r.verdict, r.hits)

some_ran : (a b : Ran) → Some a ≡ Some b → a ≡ b
some_ran a b e = cc

abbrev line_of : Entries → Ran → RunLine
line_of s ran = run_line s ran.0 ran.1

ran_is : (told : ToldRun) (r : RunLine) → IsOf told r → ran_of told ≡ (r.verdict, r.hits)
ran_is told r h = cc (h.verdict_is, h.hits_are)

pub knows_by : (book : RunBook) (runs : List RunLine) → IsBookOf book runs → AreLawful runs → HasOne runs → Knows (told_in book) runs
knows_by book runs is lawful one s ok ran = (by_book (lookup (bytes_eq (printed s)) book.told) (sym (is (printed s))), there)
  where
    by_book : (o : Option ToldRun) → first_told 1 runs (printed s) ≡ o → option_map ran_of o ≡ Some ran → Contains runs (line_of s ran)
    by_book None e h = absurd cc
    by_book (Some told) e h =
        let g = told_gives 1 runs (printed s) told e in
        let same : g.run.scenario ≡ s = sym (same_printed s g.run.scenario ok (lawful_has runs g.run lawful g.has) g.key_is) in
        let mine : ran_of_line g.run ≡ ran = sym (ran_is told g.run g.told_is) ∙ some_ran (ran_of told) ran h in
        let whole : g.run ≡ line_of s ran = ap (λ (t : Entries). run_line t g.run.verdict g.run.hits) same ∙ ap (line_of s) mine in
        contains_of runs (line_of s ran) (subst (Has runs) whole g.has)

    there : Contains runs (line_of s ran) → ran_in (told_in book) s ≡ Some ran
    there h =
        let has = has_of runs (line_of s ran) h in
        let t = told_has 1 runs (line_of s ran) has in
        let mine = told_is runs 1 (line_of s ran) t.0 lawful one ok has t.1 in
        ap (option_map ran_of) (is (printed s) ∙ t.1) ∙ ap (λ (x : Ran). Some x) (ran_is t.0 (line_of s ran) mine)

-- ---- the contract

found_by : (needed : Bool) (names points : List (List ℕ)) (text : List ℕ) (book : RunBook) → Holds needed names points text book → (runs : List RunLine) × Says needed names points text runs × Knows (told_in book) runs
found_by needed names points text book h = let t = text_gives needed names points text h.0 h.1 in (h.0, t.says, knows_by book h.0 h.2 t.lawful t.one)

only_memory : (needed : Bool) (names points : List (List ℕ)) (text : List ℕ) (fault : AnswersFault) (runs : List RunLine) → Says needed names points text runs → Tells fault needed names points text → fault ≡ faults.Memory
only_memory needed names points text faults.TooLong runs h k = absurd (cc (text_read needed names points text runs h))
only_memory needed names points text (faults.Line number fault) runs h k = absurd (cc (text_read needed names points text runs h))
only_memory needed names points text faults.Memory runs h k = refl

pub found_all : (needed : Bool) (names points : List (List ℕ)) (text : List ℕ) (r : Result RunBook AnswersFault) → IfOk r (Holds needed names points text) → IfOk r (λ book. (runs : List RunLine) × Says needed names points text runs × Knows (told_in book) runs)
found_all needed names points text (Ok book) h = found_by needed names points text book h
found_all needed names points text (Err fault) h = tt

pub only_all : (needed : Bool) (names points : List (List ℕ)) (text : List ℕ) (r : Result RunBook AnswersFault) (runs : List RunLine) → Says needed names points text runs → IfErr r (λ fault. Tells fault needed names points text) → IfErr r (λ fault. fault ≡ faults.Memory)
only_all needed names points text (Ok book) runs h k = tt
only_all needed names points text (Err fault) runs h k = only_memory needed names points text fault runs h k
