-- The first fault of a line of answers. The kinds of faults and their order are this project's own. A line is checked in this order: its bytes, its
-- tab, its verdict, its code, control characters, the first fault of its scenario, and then its hits.
use Rattle.std.specs.Prelude.{◌≡◌, ℕ, List, [], Bool, Option, Some, None, position, Result, Ok, Err, if◌then◌else◌, codes}
use Rattle.std.specs.Char.{is_ascii_control}
use Rattle.std.specs.List.{list_any}
use Rattle.std.specs.Str.{is_utf8, bytes_eq}
use Rattle.scenario_values.specs.Scenario.{Entries}
use Rattle.scenario_values.specs.Tidied.{tidied}
use Rattle.scenario_grammar.specs.Words.{cut}
use Rattle.scenario_grammar.specs.FirstFault.{◌>>=◌, Fault, reading}
use Rattle.target_trait.specs.declared.judgement.Verdict.{Verdict}
use Rattle.target_trait.specs.declared.judgement.Verdict.TheVariants as verdict
use Rattle.answer_text.specs.declared.fault.LineFault.{LineFault}
use Rattle.answer_text.specs.declared.fault.LineFault.TheVariants.{NotUtf8, NoTab, UnknownVerdict, UnknownCode, ControlByte, Scenario}
use Rattle.answer_text.specs.declared.fault.LineError.{LineError}
use Rattle.answer_text.specs.declared.fault.LineError.TheVariants as errors

-- What a function returned, as contracts see it by `view`, is what reading gives, unless memory was refused.
abbrev pub Fails : {Y : Type 0} → LineError → Result Y LineFault → Type 0
Fails errors.Memory read = Unit {0}
Fails (errors.Bad fault) read = read ≡ Err fault

abbrev pub Gives : {X Y : Type 0} → (X → Y) → Result X LineError → Result Y LineFault → Type 0
Gives view (Ok x) read = read ≡ Ok (view x)
Gives view (Err e) read = Fails e read

abbrev pub or_fault : {A : Type 0} → LineFault → Option A → Result A LineFault
or_fault fault None = Err fault
or_fault fault (Some x) = Ok x

-- A failure with this code, if one has the name.
abbrev pub failed_by : List ℕ → Option ℕ → Result Verdict LineFault
failed_by name None = Err (UnknownCode name)
failed_by name (Some code) = Ok (verdict.Fail code)

-- A failure, if the word's parts are `fail` and the name of a code.
abbrev pub failure_in : List (List ℕ) → List ℕ → Option (List ℕ × List ℕ) → Result Verdict LineFault
failure_in names word None = Err (UnknownVerdict word)
failure_in names word (Some parts) =
    if bytes_eq parts.0 (codes "fail") then failed_by parts.1 (position (bytes_eq parts.1) names) else Err (UnknownVerdict word)

unfoldable pub verdict_in : List (List ℕ) → List ℕ → Result Verdict LineFault
verdict_in names word =
    if bytes_eq word (codes "pass") then Ok verdict.Pass
    else if bytes_eq word (codes "unresolved") then Ok verdict.Unresolved
    else failure_in names word (cut 32 word)

-- Whether a byte of the text is an ASCII control character.
abbrev pub has_control : List ℕ → Bool
has_control text = list_any is_ascii_control text

-- The fault of a scenario's text, as that of the line.
abbrev pub of_scenario : Result Entries Fault → Result Entries LineFault
of_scenario (Ok s) = Ok s
of_scenario (Err f) = Err (Scenario f.kind f.entry f.term)

unfoldable pub scenario_in : List ℕ → Result Entries LineFault
scenario_in text =
    if bytes_eq text (codes "none") then Ok []
    else if has_control text then Err ControlByte
    else of_scenario (reading text)

unfoldable pub parts_in : List ℕ → Result (List ℕ × List ℕ) LineFault
parts_in line = if is_utf8 line then or_fault NoTab (cut 9 line) else Err NotUtf8

-- The text before the second tab, or all of it if there is no second tab; and the text after that tab.
abbrev pub before_tab : List ℕ → Option (List ℕ × List ℕ) → List ℕ
before_tab text None = text
before_tab text (Some parts) = parts.0

abbrev pub after_tab : Option (List ℕ × List ℕ) → Option (List ℕ)
after_tab None = None
after_tab (Some parts) = Some parts.1

-- A tidied scenario and its verdict.
abbrev pub Answer : Type 0
Answer = Entries × Verdict

-- What a line records before its hits, and the text of the hits if it has any.
unfoldable pub answer_in : List (List ℕ) → List ℕ → Result (Answer × Option (List ℕ)) LineFault
answer_in names line = do
  parts ← parts_in line
  verdict ← verdict_in names parts.0
  scenario ← scenario_in (before_tab parts.1 (cut 9 parts.1))
  Ok ((tidied scenario, verdict), after_tab (cut 9 parts.1))
