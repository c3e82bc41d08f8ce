-- The program's command line: the command that clap builds, and what its matches mean.
use Rattle.std.specs.Prelude.{◌≡◌, ◌⊎◌, ◌||◌, ◌&&◌, ◌++◌, ℕ, Bool, List, [], ◌∷◌, true, false, not, Option, Some, None, Result, Ok, Err, codes, if◌then◌else◌, is_some, option_map, String, string_bytes}
use Rattle.std.specs.Option.{option_map_or}
use Rattle.std.specs.Str.{bytes_eq}
use Rattle.std.specs.Str.Parse.{IsNumeral, digits_value, without_leading_plus}
use Rattle.std.specs.declared.alloc.AllocError.{AllocError}
use Rattle.clap.specs.Words.{App, IsAmong, Kinds, Row, Rule, Shape, Text, app_of, fault_of, first_of, first_value, new_app, new_rule, subcommand_of, with_rule, with_subcommand}
use Rattle.clap.specs.Kinds.{or_else, value_kinds}
use Rattle.clap.specs.Values.{kind_of}
use Rattle.clap.specs.declared.builder.action.ArgAction.TheVariants.{SetTrue}
use Rattle.clap.specs.declared.builder.command.Command.{Command}
use Rattle.clap.specs.declared.builder.value_parser.ValueParser.TheVariants.{Unsigned}
use Rattle.clap.specs.declared.error.Error.{Error}
use Rattle.clap.specs.declared.error.kind.ErrorKind.TheVariants.{ArgumentConflict, DisplayHelp, DisplayVersion, MissingRequiredArgument, OutOfMemory}
use Rattle.clap.specs.declared.parser.matches.Found.{Found}
use Rattle.command_words.specs.declared.words.Form.{Form}
use Rattle.command_words.specs.declared.words.Form.TheVariants.{Whole, Brief, Json, Junit, Page}
use Rattle.command_words.specs.declared.words.Line.{Line}
use Rattle.command_words.specs.declared.words.Line.TheVariants.{Own, Outside, Follow}
use Rattle.command_words.specs.declared.words.Order.{Order}
use Rattle.command_words.specs.declared.words.Order.TheVariants as order
use Rattle.command_words.specs.declared.words.ProgressForm.{ProgressForm}
use Rattle.command_words.specs.declared.words.ProgressForm.TheVariants as shows
use Rattle.command_words.specs.declared.words.Question.{Question}
use Rattle.command_words.specs.declared.words.Question.TheVariants.{Asks, Report, Explain}
use Rattle.command_words.specs.declared.words.Shown.{Shown}
use Rattle.command_words.specs.declared.words.Shown.TheVariants as shown
use Rattle.command_words.specs.declared.words.Which.{Which}
use Rattle.command_words.specs.declared.words.Which.TheVariants.{Scenario, Plan}
use Rattle.command_words.specs.declared.words.WordsFault.{WordsFault}
use Rattle.command_words.specs.declared.words.WordsFault.TheVariants.{Refused, Memory}

-- ---- arguments

-- The argument FILE, which may be left out.
abbrev pub file_rule : Rule
file_rule = record (new_rule (codes "file")) { value_names = 1 }

-- The argument FILE, which is required.
abbrev pub needed_file_rule : Rule
needed_file_rule = record (new_rule (codes "file")) { value_names = 1; required = true }

-- An option of this name that takes a value.
abbrev pub value_rule : Text → Rule
value_rule name = record (new_rule name) { long = Some name; value_names = 1 }

-- A flag of this name, which takes no value.
abbrev pub flag_rule : Text → Rule
flag_rule name = record (new_rule name) { long = Some name; action = Some SetTrue }

-- The option --scenario TEXT.
abbrev pub scenario_rule : Rule
scenario_rule = value_rule (codes "scenario")

-- The option --plan N.
abbrev pub plan_rule : Rule
plan_rule = value_rule (codes "plan")

-- The flag --brief.
abbrev pub brief_rule : Rule
brief_rule = flag_rule (codes "brief")

-- The flag --json.
abbrev pub json_rule : Rule
json_rule = flag_rule (codes "json")

-- The flag --junit.
abbrev pub junit_rule : Rule
junit_rule = flag_rule (codes "junit")

-- The flag --page.
abbrev pub page_rule : Rule
page_rule = flag_rule (codes "page")

-- The flag --partial.
abbrev pub partial_rule : Rule
partial_rule = flag_rule (codes "partial")

-- The option --explain TEXT.
abbrev pub explain_rule : Rule
explain_rule = value_rule (codes "explain")

-- The flag --follow.
abbrev pub follow_rule : Rule
follow_rule = flag_rule (codes "follow")

-- The flag --progress.
abbrev pub progress_rule : Rule
progress_rule = flag_rule (codes "progress")

-- The flag --progress=plain, which the reader of command lines knows as --progress-plain.
abbrev pub progress_plain_rule : Rule
progress_plain_rule = flag_rule (codes "progress-plain")

-- The flag --strict.
abbrev pub strict_rule : Rule
strict_rule = flag_rule (codes "strict")

-- ---- commands

-- A command that takes FILE alone.
abbrev pub file_app : Text → App
file_app name = with_rule (new_app name) file_rule

-- A command that prints a report: the whole one, a brief one, JSON, or JUnit's XML.
abbrev pub formed_app : App → App
formed_app app = with_rule (with_rule (with_rule app brief_rule) json_rule) junit_rule

-- A command that prints such a report of FILE, and may be strict.
abbrev pub report_app : Text → App
report_app name = with_rule (with_rule (formed_app (new_app name)) strict_rule) file_rule

-- A command that takes a scenario: its text, or the number of a plan.
abbrev pub scenario_app : Text → App
scenario_app name = with_rule (with_rule (with_rule (new_app name) scenario_rule) plan_rule) file_rule

-- A command that runs plans or a reduction, and may show its progress.
abbrev pub shown_app : App → App
shown_app app = with_rule (with_rule app progress_rule) progress_plain_rule

-- A command that prints which scenarios are still to be tried: all, or each as soon as it is known. FILE is required, since standard input has the answers.
abbrev pub asks_app : Text → App
asks_app name = with_rule (with_rule (new_app name) follow_rule) needed_file_rule

-- A command that prints a report by answers: in one of the forms, as a page, or what is known of it until now.
abbrev pub told_app : App → App
told_app app = with_rule (with_rule (formed_app app) page_rule) partial_rule

-- The command that prints a report by answers, and may be strict, or explains a run.
abbrev pub question_report_app : Text → App
question_report_app name = with_rule (with_rule (with_rule (told_app (new_app name)) explain_rule) strict_rule) needed_file_rule

abbrev pub with_commands : App → List Shape → App
with_commands app [] = app
with_commands app (s ∷ rest) = with_commands (with_subcommand app s) rest

abbrev pub campaign_commands : List Shape
campaign_commands =
    (shown_app (report_app (codes "run"))).top ∷ (file_app (codes "plans")).top ∷ (shown_app (file_app (codes "page"))).top ∷ []

abbrev pub scenario_commands : List Shape
scenario_commands =
    (scenario_app (codes "try")).top ∷ (shown_app (scenario_app (codes "reduce"))).top ∷ (scenario_app (codes "explain")).top ∷ []

abbrev pub question_commands : List Shape
question_commands = (asks_app (codes "asks")).top ∷ (question_report_app (codes "report")).top ∷ []

-- The program without its commands. It has a version.
abbrev pub bare_app : App
bare_app = let app = new_app (codes "paklour") in record app { top = record app.top { has_version = true } }

-- The program's command, to which clap adds the subcommand `help`.
unfoldable pub paklour : App
paklour = with_commands bare_app (campaign_commands ++ scenario_commands ++ question_commands)

-- The command is the first one with this subcommand, which could be made.
abbrev pub HasAlso : App → Result Command AllocError → Command → Type 0
HasAlso app (Ok sub) command = app_of command ≡ with_subcommand app (app_of sub).top
HasAlso app (Err fault) command = ⊥

-- ---- what the words mean

-- A word as it is handed to the reader of command lines, which knows no optional value after a `=`. So --progress=line becomes --progress, and
-- --progress=plain becomes a flag of its own.
abbrev pub spelled : Text → Text
spelled word = if bytes_eq word (codes "--progress=plain") then codes "--progress-plain"
    else (if bytes_eq word (codes "--progress=line") then codes "--progress" else word)

abbrev pub spelled_word : {A : Type 0} → String A → Text
spelled_word word = spelled (string_bytes word)

-- The values that a command was given: TEXT, N and FILE, and `true` for each flag that was given.
pub record Values : Type 0 where
  pub scenario : Option Text
  pub plan : Option Text
  pub brief : Option Text
  pub json : Option Text
  pub junit : Option Text
  pub page : Option Text
  pub partial : Option Text
  pub explain : Option Text
  pub follow : Option Text
  pub strict : Option Text
  pub progress : Option Text
  pub progress_plain : Option Text
  pub file : Option Text

abbrev pub values_in : List Row → Values
values_in rows = record {
  scenario = first_of (codes "scenario") rows;
  plan = first_of (codes "plan") rows;
  brief = first_of (codes "brief") rows;
  json = first_of (codes "json") rows;
  junit = first_of (codes "junit") rows;
  page = first_of (codes "page") rows;
  partial = first_of (codes "partial") rows;
  explain = first_of (codes "explain") rows;
  follow = first_of (codes "follow") rows;
  strict = first_of (codes "strict") rows;
  progress = first_of (codes "progress") rows;
  progress_plain = first_of (codes "progress-plain") rows;
  file = first_of (codes "file") rows;
}

-- The same values, looked up in what a parse found.
abbrev pub values_of : Found → Values
values_of f = record {
  scenario = first_value f (codes "scenario");
  plan = first_value f (codes "plan");
  brief = first_value f (codes "brief");
  json = first_value f (codes "json");
  junit = first_value f (codes "junit");
  page = first_value f (codes "page");
  partial = first_value f (codes "partial");
  explain = first_value f (codes "explain");
  follow = first_value f (codes "follow");
  strict = first_value f (codes "strict");
  progress = first_value f (codes "progress");
  progress_plain = first_value f (codes "progress-plain");
  file = first_value f (codes "file");
}

-- The text is a numeral of this value, with or without a `+` before it.
abbrev pub Spells : Text → ℕ → Type 0
Spells text number = IsNumeral 10 (without_leading_plus text) × (digits_value 10 (without_leading_plus text) ≡ number)

-- A command takes the scenario of TEXT, or that of plan N, but not both.
abbrev pub IsWhich : Values → Which → Type 0
IsWhich v (Scenario text) = (v.scenario ≡ Some (string_bytes text)) × (v.plan ≡ None)
IsWhich v (Plan number) = (v.scenario ≡ None) × ((text : Text) × (v.plan ≡ Some text) × Spells text number)

-- Whether a flag was given.
abbrev pub is_set : Option Text → Bool
is_set value = option_map_or (bytes_eq (codes "true")) value false

-- What a flag names, if it was given.
abbrev pub named_if : {A : Type 0} → Option Text → A → List A
named_if value x = if is_set value then x ∷ [] else []

-- The one thing that was named, or the usual one if nothing was. There is none if two were.
abbrev pub only : {A : Type 0} → A → List A → Option A
only usual [] = Some usual
only usual (x ∷ []) = Some x
only usual (x ∷ (other ∷ more)) = None

-- The form of a report, if at most one was named.
abbrev pub form_of : Values → Option Form
form_of v = only Whole (named_if v.brief Brief ++ named_if v.json Json ++ named_if v.junit Junit)

-- What the flags of `report` say is to be shown.
abbrev pub named_shown : Values → List Shown
named_shown v =
    named_if v.brief (shown.Report Brief) ++ named_if v.json (shown.Report Json) ++ named_if v.junit (shown.Report Junit)
    ++ named_if v.page (shown.Report Page) ++ named_if v.partial shown.Partial

-- If --explain TEXT is given, nothing else is to be shown, and nothing is strict.
abbrev pub is_alone : List Shown → Bool → Bool
is_alone [] strict = not strict
is_alone (x ∷ more) strict = false

-- The form in which a command shows its progress: plain lines if both flags were given, nothing if neither was.
abbrev pub progress_form_of : Values → ProgressForm
progress_form_of v = if is_set v.progress_plain then shows.Plain else (if is_set v.progress then shows.Line else shows.Off)

-- A report is that of `run`, in the form that its flags name, or that of `page`, which takes none of these flags.
abbrev pub IsReport : Text → Values → Form → Bool → Type 0
IsReport name v form strict =
    ((name ≡ codes "run") × (form_of v ≡ Some form) × (strict ≡ is_set v.strict)) ⊎ ((name ≡ codes "page") × (form ≡ Page) × (strict ≡ false))

-- A command's name and its values give this order.
abbrev pub IsOrder : Text → Values → Order → Type 0
IsOrder name v (order.Run form strict) = IsReport name v form strict
IsOrder name v order.Plans = name ≡ codes "plans"
IsOrder name v (order.Try which) = (name ≡ codes "try") × IsWhich v which
IsOrder name v (order.Reduce which) = (name ≡ codes "reduce") × IsWhich v which
IsOrder name v (order.Explain which) = (name ≡ codes "explain") × IsWhich v which

-- `report` shows a campaign, or explains the run of the scenario of TEXT.
abbrev pub IsReportQuestion : Values → Question → Type 0
IsReportQuestion v Asks = ⊥
IsReportQuestion v (Report what strict) =
    (v.explain ≡ None) × (only (shown.Report Whole) (named_shown v) ≡ Some what) × (strict ≡ is_set v.strict)
IsReportQuestion v (Explain text) = (v.explain ≡ Some (string_bytes text)) × (is_alone (named_shown v) (is_set v.strict) ≡ true)

-- A command's name and its values give this question.
abbrev pub IsQuestion : Text → Values → Question → Type 0
IsQuestion name v Asks = name ≡ codes "asks"
IsQuestion name v question = (name ≡ codes "report") × IsReportQuestion v question

-- Whether the command is `asks --follow`.
abbrev pub is_followed : Text → Values → Bool
is_followed name v = bytes_eq name (codes "asks") && is_set v.follow

-- Without a command the program runs a campaign: with the whole report, not strict, with settings from standard input, and without progress.
abbrev pub IsRun : Line → Type 0
IsRun (Own (order.Run Whole false) progress file) = (progress ≡ shows.Off) × (file ≡ None)
IsRun _ = ⊥

-- A command's name and its values give this line.
abbrev pub IsLineOf : Text → Values → Line → Type 0
IsLineOf name v (Own order progress own) = IsOrder name v order × (progress ≡ progress_form_of v) × (option_map string_bytes own ≡ v.file)
IsLineOf name v (Outside question own) = IsQuestion name v question × (is_followed name v ≡ false) × (v.file ≡ Some (string_bytes own))
IsLineOf name v (Follow own) = (is_followed name v ≡ true) × (v.file ≡ Some (string_bytes own))

-- The matches give this line.
abbrev pub IsLine : Option (Text × List Row) → Line → Type 0
IsLine None line = IsRun line
IsLine (Some p) line = IsLineOf p.0 (values_in p.1) line

-- ---- names

-- The name is of a command that takes a scenario.
abbrev pub IsScenarioName : Text → Type 0
IsScenarioName name = (name ≡ codes "try") ⊎ ((name ≡ codes "reduce") ⊎ (name ≡ codes "explain"))

-- The name is of a command over a target.
abbrev pub IsOrderName : Text → Type 0
IsOrderName name = ((name ≡ codes "run") ⊎ ((name ≡ codes "plans") ⊎ (name ≡ codes "page"))) ⊎ IsScenarioName name

-- The name is of a command that reads answers.
abbrev pub IsQuestionName : Text → Type 0
IsQuestionName name = (name ≡ codes "asks") ⊎ (name ≡ codes "report")

-- The name is of a command.
abbrev pub IsName : Text → Type 0
IsName name = IsOrderName name ⊎ IsQuestionName name

-- Whether the command of this name takes a scenario.
abbrev pub takes_scenario : Text → Bool
takes_scenario name = bytes_eq name (codes "try") || (bytes_eq name (codes "reduce") || bytes_eq name (codes "explain"))

abbrev pub needs_file : Text → Bool
needs_file name = bytes_eq name (codes "asks") || bytes_eq name (codes "report")

-- FILE is there if the command of this name requires it.
abbrev pub HasNeeded : Text → Option Text → Type 0
HasNeeded name file = needs_file name ≡ true → is_some file ≡ true

-- ---- refusals

-- The kinds of error of a text that has to be a number from 0 to 65535. There are none if it is one.
abbrev pub number_kinds : Text → Kinds
number_kinds text = value_kinds false (Unsigned 0 65535) text

-- The kinds of error of TEXT and N: exactly one of the two has to be there, and N has to be a number from 0 to 65535.
abbrev pub which_kinds : Option Text → Option Text → Kinds
which_kinds None None = MissingRequiredArgument ∷ []
which_kinds (Some text) None = []
which_kinds None (Some number) = number_kinds number
which_kinds (Some text) (Some number) = ArgumentConflict ∷ []

-- The kinds of error of flags that name a form or what is shown: at most one of them may be given.
abbrev pub only_kinds : {A : Type 0} → Option A → Kinds
only_kinds (Some x) = []
only_kinds None = ArgumentConflict ∷ []

-- The same with --explain TEXT, beside which none of them may be given.
abbrev pub shown_kinds : List Shown → Bool → Option Text → Kinds
shown_kinds named strict None = only_kinds (only (shown.Report Whole) named)
shown_kinds named strict (Some text) = if is_alone named strict then [] else ArgumentConflict ∷ []

abbrev pub report_kinds : Values → Kinds
report_kinds v = shown_kinds (named_shown v) (is_set v.strict) v.explain

-- The kinds of error of a command's name and its values.
abbrev pub choice_kinds : Text → Values → Kinds
choice_kinds name v =
    if takes_scenario name then which_kinds v.scenario v.plan
    else if bytes_eq name (codes "run") then only_kinds (form_of v)
    else if bytes_eq name (codes "report") then report_kinds v
    else []

-- The kinds of error of the matches.
abbrev pub choice_fault : Option (Text × List Row) → Kinds
choice_fault None = []
choice_fault (Some p) = choice_kinds p.0 (values_in p.1)

-- The kinds of error that the words may be refused with: what clap finds, or else what is wrong with the values.
abbrev pub words_fault : List Text → Kinds
words_fault words = or_else (fault_of paklour words) (choice_fault (subcommand_of paklour words))

-- What the program makes of an error of clap.
abbrev pub IsFaultOf : Error → WordsFault → Type 0
IsFaultOf error (Refused cause) = (cause ≡ error) × ¬ (kind_of error ≡ OutOfMemory)
IsFaultOf error Memory = kind_of error ≡ OutOfMemory

-- The words are refused with an error of one of these kinds, or memory was refused.
abbrev pub IsRefusedFor : Kinds → WordsFault → Type 0
IsRefusedFor kinds (Refused error) = IsAmong (kind_of error) kinds
IsRefusedFor kinds Memory = Unit {0}

-- The words ask for help, or for the version.
abbrev pub AsksToSee : WordsFault → Type 0
AsksToSee (Refused error) = (kind_of error ≡ DisplayHelp) ⊎ (kind_of error ≡ DisplayVersion)
AsksToSee Memory = ⊥
