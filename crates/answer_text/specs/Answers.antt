-- What a text of answers records, as a relation between whole texts and lists of runs. The format is this project's own: for each run a line
-- `VERDICT<TAB>SCENARIO` or `VERDICT<TAB>SCENARIO<TAB>HITS`, as a user's own loop appends it.
use Rattle.std.specs.Prelude.{◌≡◌, ℕ, ◌≤◌, ◌==◌, ◌⊎◌, not, List, [], ◌∷◌, ◌++◌, Bool, true, length, Option, None, Ok, Some, position, Contains, codes}
use Rattle.std.specs.List.{slice_split}
use Rattle.std.specs.Str.{IsUtf8, bytes_eq}
use Rattle.scenario_values.specs.declared.term.Term.{Term}
use Rattle.scenario_values.specs.Words.{lacks}
use Rattle.scenario_values.specs.Scenario.{Entries, entries_of}
use Rattle.scenario_values.specs.Tidied.{tidied}
use Rattle.scenario_grammar.specs.Spelling.{Writes, Within}
use Rattle.target_trait.specs.declared.judgement.Verdict.{Verdict}
use Rattle.target_trait.specs.declared.judgement.Verdict.TheVariants as verdict
use Rattle.answer_text.specs.declared.runs.RunLine.{RunLine}
use Rattle.answer_text.specs.FirstFault.{has_control}
use Rattle.answer_text.specs.Hits.{field_in}

-- `fail`, a space and the name of a code. The code's number is its place among the names.
pub record SpellsFailure (names : List (List ℕ)) (word : List ℕ) (code : ℕ) : Type 0 where
  pub name : List ℕ
  pub parts : word ≡ codes "fail " ++ name
  pub place : position (bytes_eq name) names ≡ Some code

abbrev pub SpellsVerdict : List (List ℕ) → List ℕ → Verdict → Type 0
SpellsVerdict names word verdict.Pass = word ≡ codes "pass"
SpellsVerdict names word (verdict.Fail code) = SpellsFailure names word code
SpellsVerdict names word verdict.Unresolved = word ≡ codes "unresolved"

-- Any spelling of a scenario within the limits of its text.
pub record Grammatical (text : List ℕ) (s : Entries) : Type 0 where
  pub actions : List (List ℕ × List Term)
  pub writes : Writes text actions
  pub limits : Within text actions
  pub entries : s ≡ entries_of actions

-- `none` spells the scenario without entries.
abbrev pub SpellsScenario : List ℕ → Entries → Type 0
SpellsScenario text s = ((text ≡ codes "none") × (s ≡ [])) ⊎ Grammatical text s

-- What comes after the verdict and its tab: a scenario and, if hits are recorded, a tab and the hits.
abbrev pub with_field : List ℕ → Option (List ℕ) → List ℕ
with_field text None = text
with_field text (Some field) = text ++ (9 ∷ field)

-- A line is a verdict, a tab, a scenario, which is taken as tidied, and the hits if they are recorded. `needed` says whether they have to be.
pub record SpellsRun (needed : Bool) (names points : List (List ℕ)) (line : List ℕ) (run : RunLine) : Type 0 where
  pub word : List ℕ
  pub text : List ℕ
  pub field : Option (List ℕ)
  pub scenario : Entries
  pub utf8 : IsUtf8 line
  pub parts : line ≡ word ++ (9 ∷ with_field text field)
  pub first : lacks 9 word ≡ true
  pub verdict : SpellsVerdict names word run.verdict
  pub printable : not (has_control text) ≡ true
  pub spelled : SpellsScenario text scenario
  pub tidy : run.scenario ≡ tidied scenario
  pub hits : field_in needed points run.verdict field ≡ Ok run.hits

-- Each line records one run.
abbrev pub SpellsRuns : Bool → List (List ℕ) → List (List ℕ) → List (List ℕ) → List RunLine → Type 0
SpellsRuns needed names points [] [] = Unit {0}
SpellsRuns needed names points [] (r ∷ more) = ⊥
SpellsRuns needed names points (line ∷ lines) [] = ⊥
SpellsRuns needed names points (line ∷ lines) (r ∷ more) = SpellsRun needed names points line r × SpellsRuns needed names points lines more

-- No scenario is recorded with two verdicts, or with different hits.
abbrev pub AreConsistent : List RunLine → Type 0
AreConsistent runs = (r q : RunLine) → Contains runs r → Contains runs q → r.scenario ≡ q.scenario → r ≡ q

-- The most bytes that a text of answers may have.
abbrev pub most_bytes : ℕ
most_bytes = 268435456

-- The text records these runs, line by line. Each line is ended by a line feed.
pub record Says (needed : Bool) (names points : List (List ℕ)) (text : List ℕ) (runs : List RunLine) : Type 0 where
  pub lines : List (List ℕ)
  pub short : length text ≤ most_bytes
  pub parts : slice_split (λ b. b == 10) text ≡ lines ++ [] ∷ []
  pub spelled : SpellsRuns needed names points lines runs
  pub consistent : AreConsistent runs
