-- The first fault of a scenario text; the kinds and their order are this project's own. Each rule of the grammar is a function that gives what it
-- reads or the kind of fault. The rules come in the order in which faults count: first the length, then the pieces from left to right. In a piece the
-- order is TooMany for the piece, NoAction, NoName, and then its terms from left to right; in a term it is TooMany for the term, Parentheses,
-- BadPercent, BadCount, UnknownTask, BadMillis, and then TooMany for the fault.
use Rattle.std.specs.Prelude.{◌≡◌, ℕ, ◌+◌, ◌-◌, ◌*◌, ◌^◌, List, [], ◌∷◌, ◌==◌, ◌&&◌, length, min, Option, Some, None, Result, Ok, Err, nat_lt, nat_le, if◌then◌else◌, codes}
use Rattle.std.specs.List.{slice_split}
use Rattle.std.specs.Result.{result_err}
use Rattle.std.specs.Str.{bytes_eq}
use Rattle.indexmap.specs.IndexMap.{insert_entry}
use Rattle.scenario_values.specs.declared.term.Term.{Term}
use Rattle.scenario_values.specs.declared.term.Task.{Task}
use Rattle.scenario_values.specs.declared.term.Task.TheVariants as tasks
use Rattle.scenario_values.specs.Words.{trimmed}
use Rattle.scenario_values.specs.Scenario.{Entries, is_off}
use Rattle.scenario_grammar.specs.declared.fault.Kind.{Kind}
use Rattle.scenario_grammar.specs.declared.fault.Kind.TheVariants.{NoAction, NoName, Parentheses, BadPercent, BadCount, UnknownTask, BadMillis, TooLong, TooMany}
use Rattle.scenario_grammar.specs.declared.fault.TermError.{TermError}
use Rattle.scenario_grammar.specs.declared.fault.TermError.TheVariants as errors
use Rattle.scenario_grammar.specs.declared.fault.ScenarioFault.{ScenarioFault}
use Rattle.scenario_grammar.specs.declared.fault.ScenarioFault.TheVariants as faults
use Rattle.scenario_grammar.specs.Words.{cut, without_last, cut_at_arrows, is_number, number}

-- ---- a term

infixl 10 ◌>>=◌
abbrev pub ◌>>=◌ : {A B E : Type 0} → Result A E → (A → Result B E) → Result B E
(Ok x) >>= f = f x
(Err e) >>= f = Err e

-- What a function returned is what the reading gives, seen through `view`, unless memory was refused.
abbrev pub Fails : {Y : Type 0} → TermError → Result Y Kind → Type 0
Fails errors.Memory read = Unit {0}
Fails (errors.Bad kind) read = read ≡ Err kind

abbrev pub Gives : {X Y : Type 0} → (X → Y) → Result X TermError → Result Y Kind → Type 0
Gives view (Ok x) read = read ≡ Ok (view x)
Gives view (Err e) read = Fails e read

-- The number, if the text is one and it is at most this large.
abbrev pub number_up_to : ℕ → List ℕ → Option ℕ
number_up_to most text = if is_number text && nat_le (number text) most then Some (number text) else None

-- A percentage in millionths: whole percents, perhaps with a point and one to four decimals.
abbrev pub share_by : List ℕ → Option (List ℕ × List ℕ) → Option ℕ
share_by text None = if is_number text then Some (min 1000000 (number text * 10000)) else None
share_by text (Some parts) = if is_number parts.0 && is_number parts.1 && nat_le (length parts.1) 4 then Some
    (min 1000000 (number parts.0 * 10000 + number parts.1 * 10 ^ (4 - length parts.1))) else None

unfoldable pub share_of : List ℕ → Option ℕ
share_of text = share_by text (cut 46 text)

abbrev pub or_fault : {A : Type 0} → Kind → Option A → Result A Kind
or_fault kind None = Err kind
or_fault kind (Some x) = Ok x

-- The head, and the argument in parentheses: all between the first `(` and the `)` at the end.
abbrev pub head_by : List ℕ → Option (List ℕ × List ℕ) → Result (List ℕ × Option (List ℕ)) Kind
head_by term None = Ok (term, None)
head_by term (Some parts) = or_fault Parentheses (without_last 41 parts.1) >>= (λ argument. Ok (parts.0, Some argument))

unfoldable pub head_of : List ℕ → Result (List ℕ × Option (List ℕ)) Kind
head_of term = head_by term (cut 40 term)

-- The share, and what comes after it.
abbrev pub share_at_by : List ℕ → Option (List ℕ × List ℕ) → Result (ℕ × List ℕ) Kind
share_at_by head None = Ok (1000000, head)
share_at_by head (Some parts) = or_fault BadPercent (share_of parts.0) >>= (λ share. Ok (share, parts.1))

unfoldable pub share_at : List ℕ → Result (ℕ × List ℕ) Kind
share_at head = share_at_by head (cut 37 head)

-- The count, and what comes after it.
abbrev pub count_at_by : List ℕ → Option (List ℕ × List ℕ) → Result (Option ℕ × List ℕ) Kind
count_at_by head None = Ok (None, head)
count_at_by head (Some parts) = or_fault BadCount (number_up_to 4294967295 parts.0) >>= (λ count. Ok (Some count, parts.1))

unfoldable pub count_at : List ℕ → Result (Option ℕ × List ℕ) Kind
count_at head = count_at_by head (cut 42 head)

-- The milliseconds that an argument spells.
abbrev pub millis_of : Option (List ℕ) → Result ℕ Kind
millis_of None = Err BadMillis
millis_of (Some text) = or_fault BadMillis (number_up_to 1000000000 text)

unfoldable pub task_of : List ℕ → Option (List ℕ) → Result Task Kind
task_of word argument =
    if bytes_eq word (codes "off") then Ok tasks.Off
    else if bytes_eq word (codes "return") then Ok (tasks.Return argument)
    else if bytes_eq word (codes "sleep") then (millis_of argument >>= (λ millis. Ok (tasks.Sleep millis)))
    else if bytes_eq word (codes "panic") then Ok (tasks.Panic argument)
    else if bytes_eq word (codes "print") then Ok (tasks.Print argument)
    else if bytes_eq word (codes "pause") then Ok tasks.Pause
    else if bytes_eq word (codes "yield") then Ok tasks.Yield
    else if bytes_eq word (codes "delay") then (millis_of argument >>= (λ millis. Ok (tasks.Delay millis)))
    else Err UnknownTask

-- The term, from `[<pct>%][<cnt>*]<task>[(arg)]`.
unfoldable pub term_of : List ℕ → Result Term Kind
term_of text = do
  head ← head_of text
  share ← share_at head.0
  count ← count_at share.1
  task ← task_of count.1 head.1
  Ok (record { share = share.0; count = count.0; task = task })

-- ---- chains, pieces and texts

-- What is wrong, and in which piece and which term. Both are counted from 1; term 0 is the piece itself.
pub record Fault : Type 0 where
  pub kind : Kind
  pub entry : ℕ
  pub term : ℕ

-- What a function returned is what the reading gives, seen through `view`, unless memory was refused.
abbrev pub FailsAt : {Y : Type 0} → ScenarioFault → Result Y Fault → Type 0
FailsAt faults.Memory read = Unit {0}
FailsAt (faults.Bad kind entry term) read = read ≡ Err (record { kind = kind; entry = entry; term = term })

abbrev pub Reads : {X Y : Type 0} → (X → Y) → Result X ScenarioFault → Result Y Fault → Type 0
Reads view (Ok x) read = read ≡ Ok (view x)
Reads view (Err e) read = FailsAt e read

-- A fault found in reading a term is at that term.
abbrev pub at : {A : Type 0} → ℕ → ℕ → Result A Kind → Result A Fault
at entry term (Ok x) = Ok x
at entry term (Err kind) = Err (record { kind = kind; entry = entry; term = term })

abbrev pub bad : {A : Type 0} → Kind → ℕ → ℕ → Result A Fault
bad kind entry term = Err (record { kind = kind; entry = entry; term = term })

-- The term, and the number of faults with it, of which there may be 4096.
abbrev pub count_fault : ℕ → ℕ → ℕ → Term → Result (Term × ℕ) Fault
count_fault entry number faults t =
    if is_off t.task then Ok (t, faults)
    else if nat_le 4096 faults then bad TooMany entry number
    else Ok (t, faults + 1)

-- A term of a chain, and the number of faults with it.
unfoldable pub term_in : ℕ → ℕ → ℕ → List ℕ → Result (Term × ℕ) Fault
term_in entry number faults text =
    if nat_lt 256 number then bad TooMany entry number
    else (at entry number (term_of (trimmed text)) >>= count_fault entry number faults)

-- The terms of a chain, of which the first has this number.
unfoldable pub chain_from : ℕ → ℕ → ℕ → List (List ℕ) → Result (List Term × ℕ) Fault
chain_from entry number faults [] = Ok ([], faults)
chain_from entry number faults (text ∷ texts) = do
  first ← term_in entry number faults text
  rest ← chain_from entry (number + 1) first.1 texts
  Ok (first.0 ∷ rest.0, rest.1)

-- What was read by now: the entries, the number of pieces that aren't blank, and the number of faults.
pub record Progress : Type 0 where
  pub entries : Entries
  pub pieces : ℕ
  pub faults : ℕ

abbrev pub add_entry : Progress → List ℕ → List Term × ℕ → Progress
add_entry done name chain = record { entries = insert_entry bytes_eq done.entries name chain.0; pieces = done.pieces + 1; faults = chain.1 }

-- A piece that isn't blank spells a name, `=` and a chain.
abbrev pub action : Progress → ℕ → Option (List ℕ × List ℕ) → Result Progress Fault
action done entry None = bad NoAction entry 0
action done entry (Some parts) =
    if length (trimmed parts.0) == 0 then bad NoName entry 0
    else (chain_from entry 1 done.faults (cut_at_arrows parts.1) >>= λ chain. Ok (add_entry done (trimmed parts.0) chain))

unfoldable pub piece_in : Progress → ℕ → List ℕ → Result Progress Fault
piece_in done entry piece =
    if length piece == 0 then Ok done
    else if nat_le 256 done.pieces then bad TooMany entry 0
    else action done entry (cut 61 piece)

unfoldable pub pieces_from : Progress → ℕ → List (List ℕ) → Result Progress Fault
pieces_from done entry [] = Ok done
pieces_from done entry (piece ∷ pieces) = do
  next ← piece_in done entry (trimmed piece)
  pieces_from next (entry + 1) pieces

abbrev pub nothing : Progress
nothing = record { entries = []; pieces = 0; faults = 0 }

-- The entries that a text spells, or its first fault.
unfoldable pub reading : List ℕ → Result Entries Fault
reading text =
    if nat_lt 65536 (length text) then bad TooLong 0 0
    else (pieces_from nothing 1 (slice_split (λ b. b == 59) text) >>= λ done. Ok done.entries)

-- The first thing that is wrong with a text, if something is.
abbrev pub fault : List ℕ → Option Fault
fault text = result_err (reading text)

-- The error says the first fault of the text.
abbrev pub Tells : ScenarioFault → List ℕ → Type 0
Tells faults.Memory text = Unit {0}
Tells (faults.Bad kind entry term) text = fault text ≡ Some (record { kind = kind; entry = entry; term = term })
