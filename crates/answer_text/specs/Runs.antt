-- How a text of answers is read, and what is then known. First its length is checked, and then each line, in order. The last check of a line is that
-- no earlier line contradicts it.
use Rattle.std.specs.Prelude.{◌≡◌, ℕ, ◌+◌, ◌&&◌, List, [], ◌∷◌, ◌++◌, Bool, true, false, ◌==◌, length, Option, Some, None, Result, Ok, Err, nat_lt, if◌then◌else◌, flat_map, position}
use Rattle.std.specs.List.{slice_split}
use Rattle.std.specs.Map.{lookup}
use Rattle.std.specs.Str.{bytes_eq}
use Rattle.scenario_values.specs.Printed.{printed}
use Rattle.scenario_values.specs.Scenario.{Entries}
use Rattle.scenario_grammar.specs.FirstFault.{◌>>=◌}
use Rattle.target_trait.specs.declared.judgement.Verdict.{Verdict}
use Rattle.target_trait.specs.declared.judgement.Verdict.TheVariants as verdict
use Rattle.answer_text.specs.declared.fault.LineFault.{LineFault}
use Rattle.answer_text.specs.declared.fault.LineFault.TheVariants.{NotEnded, Contradicts}
use Rattle.answer_text.specs.declared.fault.AnswersFault.{AnswersFault}
use Rattle.answer_text.specs.declared.fault.AnswersFault.TheVariants as faults
use Rattle.answer_text.specs.declared.hits.Stretch.{Stretch}
use Rattle.answer_text.specs.declared.runs.RunLine.{RunLine}
use Rattle.answer_text.specs.declared.runs.Stranger.{Stranger}
use Rattle.answer_text.specs.declared.runs.ToldRun.{ToldRun}
use Rattle.answer_text.specs.Answers.{most_bytes}
use Rattle.answer_text.specs.FirstFault.{answer_in}
use Rattle.answer_text.specs.Hits.{field_in, same_hits}

-- ---- a line

abbrev pub run_line : Entries → Verdict → Option (List Stretch) → RunLine
run_line s v hits = record { scenario = s; verdict = v; hits = hits }

-- What one line records. `needed` says whether it has to have hits.
unfoldable pub run_in : Bool → List (List ℕ) → List (List ℕ) → List ℕ → Result RunLine LineFault
run_in needed names points line = do
  answer ← answer_in names line
  hits ← field_in needed points answer.0.1 answer.1
  Ok (run_line answer.0.0 answer.0.1 hits)

-- ---- lines that follow one another

abbrev pub told_run : ℕ → RunLine → ToldRun
told_run line r = record { line = line; verdict = r.verdict; hits = r.hits }

-- What the first of these lines with this scenario records. The lines are numbered from `line`. Scenarios are compared by their printed forms; no two
-- scenarios have the same one.
unfoldable pub first_told : ℕ → List RunLine → List ℕ → Option ToldRun
first_told line [] key = None
first_told line (r ∷ more) key = if bytes_eq key (printed r.scenario) then Some (told_run line r) else first_told (line + 1) more key

abbrev pub same_verdict : Verdict → Verdict → Bool
same_verdict verdict.Pass verdict.Pass = true
same_verdict (verdict.Fail code) (verdict.Fail other) = code == other
same_verdict verdict.Unresolved verdict.Unresolved = true
same_verdict _ _ = false

abbrev pub is_repeated : ToldRun → RunLine → Bool
is_repeated told r = same_verdict told.verdict r.verdict && same_hits told.hits r.hits

-- The lines with one more, unless it contradicts an earlier line of the same scenario.
abbrev pub with_run : List RunLine → RunLine → Option ToldRun → Result (List RunLine) LineFault
with_run before r None = Ok (before ++ r ∷ [])
with_run before r (Some told) = if is_repeated told r then Ok (before ++ r ∷ []) else Err (Contradicts told.line)

abbrev pub on_line : {A : Type 0} → ℕ → Result A LineFault → Result A AnswersFault
on_line number (Ok x) = Ok x
on_line number (Err fault) = Err (faults.Line number fault)

unfoldable pub with_line : Bool → List (List ℕ) → List (List ℕ) → List RunLine → List ℕ → Result (List RunLine) AnswersFault
with_line needed names points before line = on_line (length before + 1)
    (run_in needed names points line >>= λ r. with_run before r (first_told 1 before (printed r.scenario)))

-- Nothing may follow the last line feed.
abbrev pub ended : List RunLine → List ℕ → Result (List RunLine) AnswersFault
ended before [] = Ok before
ended before (b ∷ bs) = Err (faults.Line (length before + 1) NotEnded)

unfoldable pub pieces_from : Bool → List (List ℕ) → List (List ℕ) → List RunLine → List (List ℕ) → Result (List RunLine) AnswersFault
pieces_from needed names points before [] = Ok before
pieces_from needed names points before (last ∷ []) = ended before last
pieces_from needed names points before (line ∷ next ∷ more) =
    with_line needed names points before line >>= λ after. pieces_from needed names points after (next ∷ more)

-- The runs that a text records, or its first fault. The fault is never that memory was refused.
unfoldable pub reading_of : Bool → List (List ℕ) → List (List ℕ) → List ℕ → Result (List RunLine) AnswersFault
reading_of needed names points text =
    if nat_lt most_bytes (length text) then Err faults.TooLong
    else pieces_from needed names points [] (slice_split (λ b. b == 10) text)

-- This is the fault of the text, or memory was refused.
abbrev pub Tells : AnswersFault → Bool → List (List ℕ) → List (List ℕ) → List ℕ → Type 0
Tells faults.Memory needed names points text = Unit {0}
Tells fault needed names points text = reading_of needed names points text ≡ Err fault

-- ---- what is known

-- What was read: the printed form of each scenario that was answered, with what the first line that answers it records; and the names that no point
-- has, each with its line.
pub record RunBook : Type 0 where
  pub told : List (List ℕ × ToldRun)
  pub strangers : List Stranger

abbrev pub told_in : RunBook → Entries → Option ToldRun
told_in book s = lookup (bytes_eq (printed s)) book.told

-- The recorded run of each tidied scenario, if there is one. A refused text records none.
abbrev pub KnownRuns : Type 0
KnownRuns = Entries → Option ToldRun

abbrev pub known_of : Result (List RunLine) AnswersFault → KnownRuns
known_of (Ok runs) s = first_told 1 runs (printed s)
known_of (Err fault) s = None

-- ---- answers that have to record hits

abbrev pub runs_of : List (List ℕ) → List (List ℕ) → List ℕ → Result (List RunLine) AnswersFault
runs_of = reading_of true

abbrev pub TellsRuns : AnswersFault → List (List ℕ) → List (List ℕ) → List ℕ → Type 0
TellsRuns fault = Tells fault true

abbrev pub known_runs : List (List ℕ) → List (List ℕ) → List ℕ → KnownRuns
known_runs names points text = known_of (runs_of names points text)

-- ---- answers that may record hits

abbrev pub answers_of : List (List ℕ) → List (List ℕ) → List ℕ → Result (List RunLine) AnswersFault
answers_of = reading_of false

abbrev pub TellsAnswers : AnswersFault → List (List ℕ) → List (List ℕ) → List ℕ → Type 0
TellsAnswers fault = Tells fault false

abbrev pub known_answers : List (List ℕ) → List (List ℕ) → List ℕ → KnownRuns
known_answers names points text = known_of (answers_of names points text)

-- ---- names that no point has

-- A name whose place among the points is known is no stranger.
abbrev pub stranger_of : ℕ → List ℕ → Option ℕ → List Stranger
stranger_of line name None = record { line = line; name = name } ∷ []
stranger_of line name (Some place) = []

-- The names of a scenario that no point has, in the scenario's order.
abbrev pub strangers_in : List (List ℕ) → ℕ → Entries → List Stranger
strangers_in points line s = flat_map (λ e. stranger_of line e.0 (position (bytes_eq e.0) points)) s

-- The same for the scenarios of these lines, which are numbered from one on.
unfoldable pub strangers_from : List (List ℕ) → ℕ → List RunLine → List Stranger
strangers_from points line [] = []
strangers_from points line (r ∷ more) = strangers_in points line r.scenario ++ strangers_from points (line + 1) more

-- The same for a text of answers.
abbrev pub known_strangers : List (List ℕ) → Result (List RunLine) AnswersFault → List Stranger
known_strangers points (Ok runs) = strangers_from points 1 runs
known_strangers points (Err fault) = []
