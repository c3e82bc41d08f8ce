-- The grammar, as a relation between whole texts and what they mean. It is that of the FAILPOINTS variable of fail-rs; the limits are this project's
-- own. It only joins texts, cuts them at marks and trims them, and says nothing about faults of a text.
use Rattle.std.specs.Prelude.{◌≡◌, ℕ, ◌+◌, ◌-◌, ◌*◌, ◌^◌, ◌<◌, ◌≤◌, ◌==◌, ◌⊎◌, List, [], ◌∷◌, ◌++◌, true, length, min, Option, Some, None, codes}
use Rattle.std.specs.List.{slice_split, AllByRecursion}
use Rattle.scenario_values.specs.declared.term.Term.{Term}
use Rattle.scenario_values.specs.declared.term.Task.{Task}
use Rattle.scenario_values.specs.declared.term.Task.TheVariants as tasks
use Rattle.scenario_values.specs.Words.{lacks, trimmed}
use Rattle.scenario_values.specs.Scenario.{Entries, entries_of, all_faults}
use Rattle.scenario_grammar.specs.Words.{cut_at_arrows, is_number, number}

-- The text consists of digits, and has this value.
pub record Numeral (text : List ℕ) (n : ℕ) : Type 0 where
  pub digits : is_number text ≡ true
  pub value : number text ≡ n

-- Whole percents. More than 100 percent count as 100.
pub record WholePercent (text : List ℕ) (share : ℕ) : Type 0 where
  pub digits : is_number text ≡ true
  pub value : share ≡ min 1000000 (number text * 10000)

pub record DecimalPercent (text : List ℕ) (share : ℕ) : Type 0 where
  pub whole : List ℕ
  pub decimals : List ℕ
  pub parts : text ≡ whole ++ (46 ∷ decimals)
  pub whole_digits : is_number whole ≡ true
  pub decimal_digits : is_number decimals ≡ true
  pub few : length decimals ≤ 4
  pub value : share ≡ min 1000000 (number whole * 10000 + number decimals * 10 ^ (4 - length decimals))

-- `<pct>%`, with whole percents or with one to four decimals.
pub record Percentage (text : List ℕ) (share : ℕ) : Type 0 where
  pub percent : List ℕ
  pub parts : text ≡ percent ++ (37 ∷ [])
  pub is : WholePercent percent share ⊎ DecimalPercent percent share

abbrev pub SpellsShare : List ℕ → ℕ → Type 0
SpellsShare text share = ((text ≡ []) × (share ≡ 1000000)) ⊎ Percentage text share

-- `<cnt>*`.
pub record Counted (text : List ℕ) (n : ℕ) : Type 0 where
  pub count : List ℕ
  pub parts : text ≡ count ++ (42 ∷ [])
  pub is : Numeral count n
  pub small : n ≤ 4294967295

abbrev pub SpellsCount : List ℕ → Option ℕ → Type 0
SpellsCount text None = text ≡ []
SpellsCount text (Some n) = Counted text n

-- The argument is a number of milliseconds.
pub record Millis (argument : Option (List ℕ)) (n : ℕ) : Type 0 where
  pub text : List ℕ
  pub given : argument ≡ Some text
  pub is : Numeral text n
  pub small : n ≤ 1000000000

-- The word and the argument name the task.
abbrev pub Names : List ℕ → Option (List ℕ) → Task → Type 0
Names word argument tasks.Off = word ≡ codes "off"
Names word argument (tasks.Return kept) = (word ≡ codes "return") × (kept ≡ argument)
Names word argument (tasks.Sleep n) = (word ≡ codes "sleep") × Millis argument n
Names word argument (tasks.Panic kept) = (word ≡ codes "panic") × (kept ≡ argument)
Names word argument (tasks.Print kept) = (word ≡ codes "print") × (kept ≡ argument)
Names word argument tasks.Pause = word ≡ codes "pause"
Names word argument tasks.Yield = word ≡ codes "yield"
Names word argument (tasks.Delay n) = (word ≡ codes "delay") × Millis argument n

-- A head, with its argument in parentheses if there is one.
abbrev pub with_argument : List ℕ → Option (List ℕ) → List ℕ
with_argument head None = head
with_argument head (Some argument) = head ++ (40 ∷ (argument ++ (41 ∷ [])))

-- The text spells the term: `[<pct>%][<cnt>*]<task>[(arg)]`.
pub record SpellsTerm (text : List ℕ) (t : Term) : Type 0 where
  pub share_text : List ℕ
  pub count_text : List ℕ
  pub word : List ℕ
  pub argument : Option (List ℕ)
  pub parts : text ≡ with_argument (share_text ++ (count_text ++ word)) argument
  pub share : SpellsShare share_text t.share
  pub count : SpellsCount count_text t.count
  pub task : Names word argument t.task

-- Each part spells its term, without the blanks at the part's ends.
abbrev pub SpellsParts : List (List ℕ) → List Term → Type 0
SpellsParts [] [] = Unit {0}
SpellsParts [] (t ∷ ts) = ⊥
SpellsParts (p ∷ ps) [] = ⊥
SpellsParts (p ∷ ps) (t ∷ ts) = SpellsTerm (trimmed p) t × SpellsParts ps ts

-- The piece spells a name, `=`, and terms with arrows between them.
pub record SpellsAction (piece : List ℕ) (e : List ℕ × List Term) : Type 0 where
  pub front : List ℕ
  pub back : List ℕ
  pub parts : piece ≡ front ++ (61 ∷ back)
  pub first : lacks 61 front ≡ true
  pub name : e.0 ≡ trimmed front
  pub some_name : 0 < length e.0
  pub chain : SpellsParts (cut_at_arrows back) e.1

-- The pieces that aren't blank spell the actions, in order.
abbrev pub SpellsPieces : List (List ℕ) → List (List ℕ × List Term) → Type 0
SpellsPieces [] [] = Unit {0}
SpellsPieces [] (e ∷ es) = ⊥
SpellsPieces (p ∷ ps) [] = (length (trimmed p) ≡ 0) × SpellsPieces ps []
SpellsPieces (p ∷ ps) (e ∷ es) = ((length (trimmed p) ≡ 0) × SpellsPieces ps (e ∷ es)) ⊎ ((0 < length (trimmed p)) × SpellsAction (trimmed p) e
    × SpellsPieces ps es)

-- These are the actions that a text writes, in order, with those that are overwritten.
abbrev pub Writes : List ℕ → List (List ℕ × List Term) → Type 0
Writes text actions = SpellsPieces (slice_split (λ b. b == 59) text) actions

-- The text spells the scenario.
pub record Spells (text : List ℕ) (s : Entries) : Type 0 where
  pub actions : List (List ℕ × List Term)
  pub writes : Writes text actions
  pub entries : s ≡ entries_of actions

-- The text and what it writes are within the limits.
pub record Within (text : List ℕ) (actions : List (List ℕ × List Term)) : Type 0 where
  pub bytes : length text ≤ 65536
  pub few_actions : length actions ≤ 256
  pub few_terms : AllByRecursion (λ e. length e.1 ≤ 256) actions
  pub few_faults : all_faults actions ≤ 4096

-- The text spells something within the limits.
abbrev pub IsScenarioText : List ℕ → Type 0
IsScenarioText text = (actions : List (List ℕ × List Term)) × Writes text actions × Within text actions
