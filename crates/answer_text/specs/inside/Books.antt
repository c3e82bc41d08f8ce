-- What is known while a text is read. Private contracts cite it.
use Rattle.std.specs.Prelude.{◌≡◌, ◌++◌, ℕ, List, Bool, Option, Some, None, Result, Ok, Err, if◌then◌else◌}
use Rattle.std.specs.Map.{lookup}
use Rattle.std.specs.Str.{bytes_eq}
use Rattle.indexmap.specs.IndexMap.{insert_entry}
use Rattle.scenario_values.specs.Printed.{printed}
use Rattle.scenario_grammar.specs.FirstFault.{◌>>=◌}
use Rattle.answer_text.specs.declared.fault.LineFault.{LineFault}
use Rattle.answer_text.specs.declared.fault.LineFault.TheVariants.{Contradicts}
use Rattle.answer_text.specs.declared.fault.LineError.{LineError}
use Rattle.answer_text.specs.declared.fault.LineError.TheVariants as errors
use Rattle.answer_text.specs.declared.fault.AnswersFault.{AnswersFault}
use Rattle.answer_text.specs.declared.fault.AnswersFault.TheVariants as faults
use Rattle.answer_text.specs.declared.runs.RunLine.{RunLine}
use Rattle.answer_text.specs.declared.runs.ToldRun.{ToldRun}
use Rattle.answer_text.specs.Runs.{RunBook, first_told, is_repeated, reading_of, run_in, strangers_from, strangers_in, told_in, told_run}

-- A book with what one more line records, unless that contradicts an earlier line of the same scenario.
abbrev pub noted_by : List (List ℕ) → RunBook → ℕ → RunLine → Option ToldRun → Result RunBook LineFault
noted_by points book line r None = Ok (record {
  told = insert_entry bytes_eq book.told (printed r.scenario) (told_run line r);
  strangers = book.strangers ++ strangers_in points line r.scenario;
})
noted_by points book line r (Some told) =
    if is_repeated told r then Ok (record { told = book.told; strangers = book.strangers ++ strangers_in points line r.scenario })
    else Err (Contradicts told.line)

unfoldable pub noted : List (List ℕ) → RunBook → ℕ → RunLine → Result RunBook LineFault
noted points book line r = noted_by points book line r (told_in book r.scenario)

-- A book after one more line.
unfoldable pub read_line : Bool → List (List ℕ) → List (List ℕ) → RunBook → ℕ → List ℕ → Result RunBook LineFault
read_line needed names points book number line = run_in needed names points line >>= λ r. noted points book number r

-- What is wrong with a line, as the fault of the text.
abbrev pub fault_at : ℕ → LineError → AnswersFault
fault_at number errors.Memory = faults.Memory
fault_at number (errors.Bad fault) = faults.Line number fault

-- The book has exactly what the first line that answers each scenario records.
abbrev pub IsBookOf : RunBook → List RunLine → Type 0
IsBookOf book runs = (key : List ℕ) → lookup (bytes_eq key) book.told ≡ first_told 1 runs key

-- The text records these runs, and the book has them, with the names that no point has.
abbrev pub Holds : Bool → List (List ℕ) → List (List ℕ) → List ℕ → RunBook → Type 0
Holds needed names points text book =
    (runs : List RunLine) × (reading_of needed names points text ≡ Ok runs) × IsBookOf book runs × (book.strangers ≡ strangers_from points 1 runs)
