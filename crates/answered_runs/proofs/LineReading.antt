-- The lines of a text of answers, gone through one by one.
use Rattle.std.proofs.Common.{◌≡◌, ℕ, suc, ◌+◌, ◌-◌, ◌^◌, ◌<◌, ◌≤◌, ◌==◌, Bool, true, false, cond, List, [], ◌∷◌, length, drop, get_or, Option, Some, None, Result, Ok, Err, refl, ap, sym, ◌∙◌, subst, arith}
use Rattle.std.specs.List.{slice_split}
use Rattle.std.specs.Str.{bytes_eq}
use Rattle.std.proofs.lemmas.List.{drop-drop, get_or-drop, get_or_append_left, length-append, length-drop}
use Rattle.std.proofs.lemmas.Slice.Eq.{bytes_eq-Decides}
use Rattle.scenario_values.specs.Printed.{printed}
use Rattle.scenario_values.specs.Scenario.{Entries, IsScenario}
use Rattle.scenario_values.specs.Tidied.{tidied}
use Rattle.scenario_grammar.specs.Words.{cut}
use Rattle.answer_text.specs.Answers.{Says, SpellsRuns}
use Rattle.answer_text.specs.Runs.{RunBook, first_told, known_of, reading_of, run_in, told_in, told_run}
use Rattle.answer_text.specs.declared.fault.AnswersFault.{AnswersFault}
use Rattle.answer_text.specs.declared.fault.LineFault.{LineFault}
use Rattle.answer_text.specs.declared.runs.RunLine.{RunLine}
use Rattle.answer_text.specs.declared.runs.ToldRun.{ToldRun}
use Rattle.answer_text.proofs.AnswerLaws.{line_gives, line_read}
use Rattle.answer_text.proofs.Lines.{shorter, split_first, split_one}
use Rattle.answer_text.proofs.Members.{same_printed}
use Rattle.answer_text.proofs.TextLaws.{text_gives}
use Rattle.answer_text.proofs.TidyAgain.{tidied_again}
use Rattle.answered_runs.specs.Lines.{AreLinesOf}
use Rattle.answered_runs.specs.inside.LineSteps.{IsScenarioOn}

-- ---- the line of a recorded run

module _ (codes points : List (List ℕ)) where
  record Found (n : ℕ) (lines : List (List ℕ)) (key : List ℕ) (told : ToldRun) : Type 0 where
    place : ℕ
    line_is : told.line ≡ n + place
    within : place < length lines
    run : RunLine
    reads : run_in true codes points (get_or lines place []) ≡ Ok run
    key_is : key ≡ printed run.scenario

  found_in : (n : ℕ) (lines : List (List ℕ)) (runs : List RunLine) (key : List ℕ) (told : ToldRun) → SpellsRuns true codes points lines runs → first_told n runs key ≡ Some told → Found n lines key told
  unfolding first_told
  found_in n [] [] key told s e = absurd cc
  found_in n [] (r ∷ more) key told s e = absurd s
  found_in n (line ∷ lines) [] key told s e = absurd s
  found_in n (line ∷ lines) (r ∷ more) key told s e = by_test (bytes_eq key (printed r.scenario)) refl (found_in (n + 1) lines more key told s.1) e
    where
      by_test : (b : Bool) → bytes_eq key (printed r.scenario) ≡ b → (first_told (n + 1) more key ≡ Some told → Found (n + 1) lines key told) → cond b (Some (told_run n r)) (first_told (n + 1) more key) ≡ Some told
          → Found n (line ∷ lines) key told
      by_test true is later e =
          let same : told_run n r ≡ told = cc in
          record {
            place = 0;
            line_is = ap (λ (t : ToldRun). t.line) (sym same) ∙ (let zero : n ≡ n + 0 = omega arith in zero);
            within = omega arith;
            run = r;
            reads = line_read true codes points line r s.0;
            key_is = (bytes_eq-Decides key (printed r.scenario)).0 is;
          }
      by_test false is later e =
          let f = later e in
          record {
            place = suc f.place;
            line_is = f.line_is ∙ (let one : (n + 1) + f.place ≡ n + suc f.place = omega arith in one);
            within = let w = f.within in omega (arith, w);
            run = f.run;
            reads = f.reads;
            key_is = f.key_is;
          }

  -- a recorded run stands on a line of the text that reads so
  pub record StandsOn (text : List ℕ) (s : Entries) (told : ToldRun) : Type 0 where
    pub place : ℕ
    pub line_is : told.line ≡ place + 1
    pub within : told.line < length (slice_split (λ b. b == 10) text)
    pub run : RunLine
    pub reads : run_in true codes points (get_or (slice_split (λ b. b == 10) text) place []) ≡ Ok run
    pub scenario_is : run.scenario ≡ s

  stands_on : (text : List ℕ) (s : Entries) (told : ToldRun) → IsScenario s → (r : Result (List RunLine) AnswersFault) → reading_of true codes points text ≡ r → known_of r s ≡ Some told → StandsOn text s told
  stands_on text s told ok (Err fault) e k = absurd cc
  stands_on text s told ok (Ok runs) e k =
      let says : Says true codes points text runs = (text_gives true codes points text runs e).says in
      let f = found_in 1 says.lines runs (printed s) told says.spelled k in
      let long : length (slice_split (λ b. b == 10) text) ≡ length says.lines + 1 = ap length says.parts ∙ length-append says.lines ([] ∷ []) in
      let w = f.within in
      let l = f.line_is in
      record {
        place = f.place;
        line_is = l ∙ (let one : 1 + f.place ≡ f.place + 1 = omega arith in one);
        within = omega (arith, long, w, l);
        run = f.run;
        reads =
            ap (λ (ls : List (List ℕ)). run_in true codes points (get_or ls f.place [])) says.parts
            ∙ ap (run_in true codes points) (get_or_append_left says.lines ([] ∷ []) [] f.place w) ∙ f.reads;
        scenario_is = sym (same_printed s f.run.scenario ok (line_gives true codes points (get_or says.lines f.place []) f.run f.reads).lawful f.key_is);
      }

  pub line_of : (text : List ℕ) (book : RunBook) → AreLinesOf codes points text book → (s : Entries) → IsScenario s → (told : ToldRun) → told_in book s ≡ Some told → StandsOn text s told
  line_of text book of s ok told e = stands_on text s told ok (reading_of true codes points text) refl (ap (λ (known : Entries → Option ToldRun). known s) (sym of.told) ∙ e)

-- ---- line by line

abbrev fine : RunLine → Result RunLine LineFault
fine r = Ok r

run_same : (r q : RunLine) → fine r ≡ fine q → r ≡ q
run_same r q e = cc

module _ (codes points : List (List ℕ)) (text : List ℕ) where
  abbrev pieces : List (List ℕ)
  pieces = slice_split (λ b. b == 10) text

  -- what is left of the text begins with the line of this number
  pub record At (rest : List ℕ) (number : ℕ) : Type 0 where
    pub some : 0 < number
    pub few : number + length rest ≤ length text + 1
    pub left : drop (number - 1) (slice_split (λ b. b == 10) text) ≡ slice_split (λ b. b == 10) rest

  pub begins : At text 1
  begins = record { some = omega arith; few = omega arith; left = refl }

  pub next_line : (rest line after : List ℕ) (number : ℕ) → cut 10 rest ≡ Some (line, after) → At rest number → At after (number + 1)
  next_line rest line after number cuts t =
      let some = t.some in
      let few = t.few in
      let short = shorter rest line after cuts in
      let next : (number + 1) - 1 ≡ (number - 1) + 1 = omega (arith, some) in
      record {
        some = omega arith;
        few = omega (arith, few, short);
        left = ap (λ (n : ℕ). drop n pieces) next ∙ sym (drop-drop 1 (number - 1) pieces) ∙ ap (drop 1) (t.left ∙ split_first rest line after cuts);
      }

  -- the line of this number
  here : (rest line after : List ℕ) (number : ℕ) → drop (number - 1) pieces ≡ slice_split (λ b. b == 10) rest → cut 10 rest ≡ Some (line, after) → get_or pieces (number - 1) [] ≡ line
  here rest line after number left cuts =
      let zero : (number - 1) + 0 ≡ number - 1 = omega arith in
      ap (λ (n : ℕ). get_or pieces n []) (sym zero) ∙ sym (get_or-drop (number - 1) pieces 0 []) ∙ ap (λ (ps : List (List ℕ)). get_or ps 0 []) (left ∙ split_first rest line after cuts)

  -- a run that is recorded by the line of this number stands on it
  pub reads_here : (rest line after : List ℕ) (number : ℕ) → cut 10 rest ≡ Some (line, after) → At rest number → (s : Entries) (run : ToldRun) → run.line ≡ number → (on : StandsOn codes points text s run)
      → run_in true codes points line ≡ Ok on.run
  reads_here rest line after number cuts t s run same on =
      let l = on.line_is in
      let place : number - 1 ≡ on.place = omega (arith, l, same) in
      ap (run_in true codes points) (sym (here rest line after number t.left cuts) ∙ ap (λ (n : ℕ). get_or pieces n []) place) ∙ on.reads

  -- after the last line each recorded run was gone through
  pub all_before : (rest : List ℕ) (number : ℕ) → cut 10 rest ≡ None → At rest number → (s : Entries) (run : ToldRun) → StandsOn codes points text s run → run.line < number
  all_before rest number cuts t s run on =
      let one = ap length (t.left ∙ split_one rest cuts) in
      let long = length-drop (number - 1) pieces in
      let some = t.some in
      let within = on.within in
      omega (arith, one, long, some, within)

  -- two runs that one line records are of one scenario
  pub same_line : (s u : Entries) (r q : ToldRun) → r.line ≡ q.line → StandsOn codes points text s r → StandsOn codes points text u q → s ≡ u
  same_line s u r q same on off =
      let l = on.line_is in
      let k = off.line_is in
      let place : on.place ≡ off.place = omega (arith, l, k, same) in
      let run : on.run ≡ off.run = run_same on.run off.run (sym on.reads ∙ ap (λ (n : ℕ). run_in true codes points (get_or pieces n [])) place ∙ off.reads) in
      sym on.scenario_is ∙ ap (λ (x : RunLine). x.scenario) run ∙ off.scenario_is

  -- no text has so many lines
  pub low_number : length text < 2 ^ 63 → (rest line after : List ℕ) (number : ℕ) → cut 10 rest ≡ Some (line, after) → At rest number → number < 2 ^ 63
  low_number short rest line after number cuts t =
      let few = t.few in
      let some = shorter rest line after cuts in
      omega (arith, few, short, some)

-- ---- one line

-- the scenario that stands on a line is tidy
pub tidy_on : (codes points : List (List ℕ)) (line : List ℕ) (o : Option Entries) (s : Entries) → o ≡ Some s → IsScenarioOn codes points line o → tidied s ≡ s
tidy_on codes points line o s is h =
    let reads = subst (IsScenarioOn codes points line) is h in
    let spelled = (line_gives true codes points line reads.0 reads.1).spelled in
    let tidy : s ≡ tidied spelled.scenario = sym reads.2 ∙ spelled.tidy in
    ap tidied tidy ∙ tidied_again spelled.scenario ∙ sym tidy

-- what a line is read as says which scenario stands on it
pub scenario_here : (codes points : List (List ℕ)) (line : List ℕ) (o : Option Entries) (s : Entries) → o ≡ Some s → IsScenarioOn codes points line o → (run : RunLine) → run_in true codes points line ≡ Ok run → run.scenario ≡ s
scenario_here codes points line o s is h run e =
    let reads = subst (IsScenarioOn codes points line) is h in
    ap (λ (r : RunLine). r.scenario) (run_same run reads.0 (sym e ∙ reads.1)) ∙ reads.2
