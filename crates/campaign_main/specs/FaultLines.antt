-- The lines that say why a command failed.
use Rattle.std.specs.Prelude.{List, [], ◌∷◌, ℕ, ◌++◌, codes}
use Rattle.std.specs.Fmt.{decimal}
use Rattle.std.specs.List.{join_by}
use Rattle.answer_text.specs.FaultText.{line_of as answers_line_of}
use Rattle.answer_text.specs.declared.fault.AnswersFault.{AnswersFault}
use Rattle.answer_text.specs.declared.fault.AnswersFault.TheVariants as answers
use Rattle.answer_text.specs.declared.fault.LineFault.TheVariants.{UnknownCode, UnknownPoint}
use Rattle.campaign_given.specs.Description.{Description}
use Rattle.answered_runs.specs.Broken.{broken_text}
use Rattle.report.specs.ReportText.{ended, scenario_text}
use Rattle.scenario_grammar.specs.FaultText.{fault_text}
use Rattle.scenario_grammar.specs.declared.fault.ScenarioFault.{ScenarioFault}
use Rattle.scenario_grammar.specs.declared.fault.ScenarioFault.TheVariants.{Bad}
use Rattle.campaign_settings.specs.Keys.{full_name}
use Rattle.campaign_settings.specs.Lines.{line_of}
use Rattle.campaign_settings.specs.Settings.{Cause, too_long, not_toml, unknown, wrong, listed}
use Rattle.campaign_settings.specs.declared.fault.SettingsFault.{SettingsFault}
use Rattle.campaign_settings.specs.declared.fault.SettingsFault.TheVariants as settings
use Rattle.campaign_settings.specs.declared.keys.KeyFault.TheVariants as fault
use Rattle.campaign_main.specs.Escaped.{escaped}
use Rattle.campaign_main.specs.declared.input.ReadFault.{ReadFault}
use Rattle.campaign_main.specs.declared.input.ReadFault.TheVariants as read
use Rattle.campaign_main.specs.Commands.{Refusal, not_text, bad_settings, bad_scenario, no_plan, too_many_plans, outside_target, outside_with_depth, bundled_target, bad_answers, other_census, not_answered, broken_run, unseen_hits}

-- The line for a fault of the settings. A key in it may have any character.
abbrev pub settings_line : SettingsFault → List ℕ
settings_line fault = ended (escaped (line_of fault))

-- The line for a fault of a scenario's text.
abbrev pub scenario_line : ScenarioFault → List ℕ
scenario_line fault = ended (codes "scenario: " ++ fault_text fault)

-- The line if memory was refused.
abbrev pub memory_line : List ℕ
memory_line = codes "no memory\n"

-- The line if the settings couldn't be read.
abbrev pub unreadable_line : List ℕ
unreadable_line = codes "settings: not readable\n"

-- The line if the answers couldn't be read.
abbrev pub unreadable_answers_line : List ℕ
unreadable_answers_line = codes "answers: not readable\n"

-- The line if a write failed after this many bytes of the text.
abbrev pub cut_off_line : ℕ → List ℕ
cut_off_line written = codes "write failed after " ++ (decimal written ++ codes " bytes\n")

-- ---- what would be right in answers

-- Names with commas between them.
abbrev pub joined_names : List (List ℕ) → List ℕ
joined_names names = join_by (λ name. name) (codes ", ") names

-- Which codes or points there are, such as `; codes are torn, stale`.
abbrev pub names_text : List ℕ → List (List ℕ) → List ℕ
names_text what [] = codes "; there are no " ++ what
names_text what (name ∷ more) = codes "; " ++ what ++ codes " are " ++ joined_names (name ∷ more)

-- If a fault is a name that the component's description lacks, the names that it has.
abbrev pub right_text : Description → AnswersFault → List ℕ
right_text d (answers.Line number (UnknownCode name)) = names_text (codes "codes") d.codes
right_text d (answers.Line number (UnknownPoint name)) = names_text (codes "points") d.points
right_text d fault = []

-- ---- the lines of refusals

-- The line for the fault that makes settings refused.
abbrev pub cause_line : Cause → List ℕ
cause_line too_long = settings_line settings.TooLong
cause_line not_toml = settings_line settings.NotToml
cause_line (unknown place name) = ended (escaped (codes "settings: unknown key " ++ full_name place name))
cause_line (wrong key fault.Missing) = settings_line (settings.Missing key)
cause_line (wrong key fault.WrongType) = settings_line (settings.WrongType key)
cause_line (wrong key fault.OutOfRange) = settings_line (settings.OutOfRange key)
cause_line (listed number f) = settings_line (settings.Scenario number f.kind f.entry f.term)

-- The line for a refusal.
abbrev pub refusal_line : Refusal → List ℕ
refusal_line not_text = codes "settings: not UTF-8\n"
refusal_line (bad_settings cause) = cause_line cause
refusal_line (bad_scenario f) = scenario_line (Bad f.kind f.entry f.term)
refusal_line too_many_plans = codes "too many plans\n"
refusal_line (no_plan number) = ended (codes "plan: out of range " ++ decimal number)
refusal_line outside_target = codes "settings: target outside: only plans, asks and report\n"
refusal_line outside_with_depth = codes "settings: target outside with a depth: only asks and report\n"
refusal_line bundled_target = codes "settings: target not outside: only run, plans, try, reduce and explain\n"
refusal_line (bad_answers d f) = ended (escaped (answers_line_of f ++ right_text d f))
refusal_line (other_census line) =
    codes "answers: line " ++ (decimal line ++ codes ": hits differ from the settings; the hits of none are those of outside.hits\n")
refusal_line (not_answered s) = ended (codes "not answered " ++ scenario_text s)
refusal_line (broken_run b) = ended (broken_text b)
refusal_line (unseen_hits line) =
    codes "answers: line " ++ (decimal line ++ codes ": hits unknown; only a run whose hits are recorded can be explained\n")

-- The line if the settings' reader gave no text.
abbrev pub read_fault_line : ReadFault → List ℕ
read_fault_line read.TooLong = cause_line too_long
read_fault_line read.NotUtf8 = refusal_line not_text
read_fault_line read.NotReadable = unreadable_line
read_fault_line read.Memory = memory_line

-- The line if the answers' reader gave no text.
abbrev pub answers_read_line : ReadFault → List ℕ
answers_read_line read.TooLong = ended (answers_line_of answers.TooLong)
answers_read_line read.NotUtf8 = unreadable_answers_line
answers_read_line read.NotReadable = unreadable_answers_line
answers_read_line read.Memory = memory_line
