-- The answer to a question on a component that somebody else runs, by the bytes of the settings and of the answers; and how the command ends.
use Rattle.std.specs.Prelude.{◌≡◌, ◌⊎◌, ℕ, Bool, false, List, codes, string_bytes, Option, None, Some, is_some, Result, Ok, Err}
use Rattle.scenario_grammar.specs.declared.fault.ScenarioFault.TheVariants as scenario
use Rattle.command_words.specs.declared.words.Form.TheVariants as form
use Rattle.command_words.specs.declared.words.Shown.{Shown}
use Rattle.command_words.specs.declared.words.Shown.TheVariants as shown
use Rattle.campaign_given.specs.Description.{Description}
use Rattle.campaign_given.specs.Given.{Given}
use Rattle.campaign_settings.specs.Settings.{Read, settings_of}
use Rattle.campaign_settings.specs.declared.choice.Choice.{Choice}
use Rattle.campaign_settings.specs.declared.choice.Choice.TheVariants as choice
use Rattle.campaign_settings.specs.declared.settings.Settings.{Settings}
use Rattle.campaign_core.specs.Writes.{Change, IsUntouched, WritesPart, WritesWhole}
use Rattle.campaign_core.specs.declared.ending.CampaignFault.TheVariants as campaign
use Rattle.command_words.specs.declared.words.Question.{Question}
use Rattle.command_words.specs.declared.words.Question.TheVariants.{Asks, Report, Explain}
use Rattle.outside_campaign.specs.declared.campaign.OutsideCampaign.{OutsideCampaign}
use Rattle.report.specs.declared.forms.forms.Form.{Form}
use Rattle.report.specs.declared.forms.forms.Form.TheVariants as forms
use Rattle.outside_campaign.specs.declared.refusal.OutsideFault.TheVariants as outside
use Rattle.outside_campaign.specs.with_depth.Explained.{IsExplainedText, RefusesText}
use Rattle.outside_campaign.specs.with_depth.Questions.{IsAskedTo, IsKnownTo, IsReportedTo, Refuses, RefusesYet}
use Rattle.outside_campaign.specs.declared.with_depth.fault.QuestionFault.{QuestionFault}
use Rattle.outside_campaign.specs.declared.with_depth.fault.QuestionFault.TheVariants as fault
use Rattle.campaign_main.specs.declared.exit.Conclusion.{Conclusion}
use Rattle.campaign_main.specs.declared.exit.Conclusion.TheVariants.{Clean, Failed, Doubtful}
use Rattle.campaign_main.specs.declared.exit.Exit.{Exit}
use Rattle.campaign_main.specs.declared.exit.Exit.TheVariants.{Kept, Found, Refused, Memory, Write, Doubted}
use Rattle.campaign_main.specs.declared.fault.CommandFault.TheVariants as command
use Rattle.campaign_main.specs.Commands.{Answer, Refusal, bad_answers, bad_scenario, bad_settings, broken_run, bundled_target, not_answered, notes_with, of_text, other_census, too_many_plans, unseen_hits}
use Rattle.campaign_main.specs.Ends.{IsEndOf, IsNoted, IsTold, RefusesWith, TellsOf}
use Rattle.campaign_main.specs.Exit.{concluded}
use Rattle.campaign_main.specs.QuestionNotes.{is_question_doubted, question_notes}
use Rattle.campaign_main.specs.FaultLines.{refusal_line, unreadable_answers_line, unreadable_line}

-- ---- what a question is about

-- The campaign's settings, and the component as the settings describe it.
abbrev pub Subject : Type 0
Subject = Given × Description

abbrev pub subject_in : OutsideCampaign → Subject
subject_in campaign = (campaign.settings.now, campaign.outside.now)

abbrev pub chosen_subject : Given → Choice → Result Subject Refusal
chosen_subject given (choice.Replace variant work) = Err bundled_target
chosen_subject given (choice.Maildir variant messages) = Err bundled_target
chosen_subject given (choice.Commit variant work) = Err bundled_target
chosen_subject given (choice.Outside outside) = Ok (given, outside)

abbrev pub given_subject : Read Settings → Result Subject Refusal
given_subject (Ok s) = chosen_subject s.campaign s.choice
given_subject (Err cause) = Err (bad_settings cause)

-- What a text of settings describes, or why it is refused.
unfoldable pub text_subject : List ℕ → Result Subject Refusal
text_subject text = given_subject (settings_of text)

-- What the bytes of settings describe, or why they are refused.
unfoldable pub subject_of : List ℕ → Result Subject Refusal
subject_of bytes = of_text text_subject bytes

-- ---- texts

-- The form in which a report by answers is written. The interim report has no form.
abbrev pub report_form : Shown → Option Form
report_form (shown.Report form.Whole) = Some forms.Whole
report_form (shown.Report form.Brief) = Some forms.Brief
report_form (shown.Report form.Json) = Some (forms.Json (notes_with (codes "answers") (codes "paklour report --json FILE < ANSWERS")))
report_form (shown.Report form.Junit) = Some forms.Junit
report_form (shown.Report form.Page) = Some (forms.Page (notes_with (codes "answers") (codes "paklour report --page FILE < ANSWERS")))
report_form shown.Partial = None

-- ---- answers

-- A text is the report by the answers in this form, and `found` says whether a plan fails. Without a form the text is the interim report, and `found`
-- says whether a plan is known to fail.
abbrev pub IsShown : Option ℕ → Option Form → Subject → List ℕ → List ℕ → Bool → Type 0
IsShown depth (Some form) s answers text found = (first : Option ℕ) × IsReportedTo depth form s.1 s.0 answers text first × (found ≡ is_some first)
IsShown depth None s answers text found = IsKnownTo depth s.1 s.0 answers text found

-- A text answers a question, and `found` says whether a verdict in it is fail.
abbrev pub IsAnswerTo : Option ℕ → Question → Subject → List ℕ → List ℕ → Bool → Type 0
IsAnswerTo depth Asks s answers text found = IsAskedTo depth s.1 s.0 answers text × (found ≡ false)
IsAnswerTo depth (Report what strict) s answers text found = IsShown depth (report_form what) s answers text found
IsAnswerTo depth (Explain words) s answers text found = IsExplainedText (string_bytes words) s.1 s.0 answers text found

abbrev pub IsAnswer : Question → Subject → List ℕ → List ℕ → Bool → Type 0
IsAnswer question s answers text found = IsAnswerTo s.0.depth question s answers text found

-- Why there is no report, or no interim report. Only the former waits for what is still to be tried.
abbrev pub RefusesShown : Option ℕ → Option Form → Subject → List ℕ → QuestionFault → Type 0
RefusesShown depth (Some form) s answers why = Refuses depth s.1 s.0 answers why
RefusesShown depth None s answers why = RefusesYet depth s.1 s.0 answers why

-- Why a question has no answer.
abbrev pub IsUnansweredTo : Option ℕ → Question → Subject → List ℕ → QuestionFault → Type 0
IsUnansweredTo depth Asks s answers why = RefusesYet depth s.1 s.0 answers why
IsUnansweredTo depth (Report what strict) s answers why = RefusesShown depth (report_form what) s answers why
IsUnansweredTo depth (Explain text) s answers why = RefusesText (string_bytes text) s.1 s.0 answers why

abbrev pub IsUnanswered : Question → Subject → List ℕ → QuestionFault → Type 0
IsUnanswered question s answers why = IsUnansweredTo s.0.depth question s answers why

-- What is written for an answer: its text, what that comes to, and the notes on it.
abbrev pub written_for : Question → List ℕ → Bool → List ℕ → Answer
written_for question text found notes = Ok (text, concluded found (is_question_doubted question notes), notes)

-- ---- ends

-- The answer's text was written whole.
abbrev pub IsAnswered : Question → Subject → List ℕ → Change → Bool → Type 0
IsAnswered question s answers w found = (text : List ℕ) × IsAnswer question s answers text found × WritesWhole text w

-- This many bytes of it, fewer than all, were written before the output failed.
abbrev pub IsPart : Question → Subject → List ℕ → Change → ℕ → Type 0
IsPart question s answers w n = (text : List ℕ) × ((found : Bool) × IsAnswer question s answers text found) × WritesPart text n w

-- The text was written whole, and this is what it comes to.
abbrev pub IsConcluded : Question → Subject → List ℕ → Change → Conclusion → Type 0
IsConcluded question s answers w conclusion =
    (found : Bool) × IsAnswered question s answers w found
    × (conclusion ≡ concluded found (is_question_doubted question (question_notes question s.0 s.1 answers)))

-- What an end says of the output if the settings describe a component.
abbrev pub EndsAnswered : Question → Subject → List ℕ → Exit → Change → Type 0
EndsAnswered question s answers Kept w = IsConcluded question s answers w Clean
EndsAnswered question s answers Found w = IsConcluded question s answers w Failed
EndsAnswered question s answers Doubted w = IsConcluded question s answers w Doubtful
EndsAnswered question s answers Refused w = IsUntouched w
EndsAnswered question s answers Memory w = IsUntouched w
EndsAnswered question s answers (Write written) w = IsPart question s answers w written

-- What it says if the settings are refused: nothing was written.
abbrev pub EndsUnanswered : Exit → Change → Type 0
EndsUnanswered Refused w = IsUntouched w
EndsUnanswered Memory w = IsUntouched w
EndsUnanswered _ w = ⊥

-- What an end says of the output, by what the settings give.
abbrev pub EndsQuestion : Question → Result Subject Refusal → List ℕ → Exit → Change → Type 0
EndsQuestion question (Ok s) answers end w = EndsAnswered question s answers end w
EndsQuestion question (Err refusal) answers end w = EndsUnanswered end w

-- ---- notes

-- The notes on the answer were written. If the settings are refused, no answer was.
abbrev pub NotesQuestion : Question → Result Subject Refusal → List ℕ → Change → Type 0
NotesQuestion question (Ok s) answers w = IsNoted (question_notes question s.0 s.1 answers) w
NotesQuestion question (Err refusal) answers w = ⊥

-- ---- refusals

-- The refusal says why a question has no answer.
abbrev pub RefusesAnswers : Question → Subject → List ℕ → Refusal → Type 0
RefusesAnswers question s answers (bad_answers d f) = (d ≡ s.1) × IsUnanswered question s answers (fault.Outside (outside.Answers f))
RefusesAnswers question s answers (other_census line) = IsUnanswered question s answers (fault.Outside (outside.Census line))
RefusesAnswers question s answers too_many_plans = IsUnanswered question s answers (fault.Outside (outside.Campaign campaign.TooManyPlans))
RefusesAnswers question s answers (not_answered t) = IsUnanswered question s answers (fault.Outside (outside.NotAnswered t))
RefusesAnswers question s answers (broken_run b) = IsUnanswered question s answers (fault.Broken b)
RefusesAnswers question s answers (bad_scenario f) = IsUnanswered question s answers (fault.Scenario (scenario.Bad f.kind f.entry f.term))
RefusesAnswers question s answers (unseen_hits line) = IsUnanswered question s answers (fault.Unseen line)
RefusesAnswers question s answers _ = ⊥

-- The same by what the settings give. If they are refused, the refusal is theirs.
abbrev pub RefusesQuestion : Question → Result Subject Refusal → List ℕ → Refusal → Type 0
RefusesQuestion question (Ok s) answers refusal = RefusesAnswers question s answers refusal
RefusesQuestion question (Err cause) answers refusal = refusal ≡ cause

-- The line of such a refusal was written.
abbrev pub TellsWhy : Question → Result Subject Refusal → List ℕ → Change → Type 0
TellsWhy question read answers w =
    (refusal : Refusal) × RefusesQuestion question read answers refusal × IsTold (refusal_line refusal) w

-- The line of such a refusal was written, or one which says that the settings or the answers couldn't be read.
abbrev pub IsNotAnswered : Question → Result Subject Refusal → List ℕ → Change → Type 0
IsNotAnswered question read answers w =
    TellsWhy question read answers w ⊎ (IsTold unreadable_line w ⊎ IsTold unreadable_answers_line w)

-- What an end says of the sink of faults, whatever was read.
abbrev pub TellsOfQuestion : Exit → Change → Type 0
TellsOfQuestion end w =
    TellsOf ((notes : List ℕ) × IsNoted notes w) (((refusal : Refusal) × IsTold (refusal_line refusal) w)
    ⊎ (IsTold unreadable_line w ⊎ IsTold unreadable_answers_line w)) end w

-- How a question on a component of this description ends after a fault, and which line was written.
abbrev pub IsEndOfQuestion : Description → QuestionFault → Exit → Change → Type 0
IsEndOfQuestion d (fault.Outside (outside.Answers f)) end w = RefusesWith (refusal_line (bad_answers d f)) end w
IsEndOfQuestion d (fault.Outside (outside.Census line)) end w = RefusesWith (refusal_line (other_census line)) end w
IsEndOfQuestion d (fault.Outside (outside.NotAnswered t)) end w = RefusesWith (refusal_line (not_answered t)) end w
IsEndOfQuestion d (fault.Outside (outside.Campaign f)) end w = IsEndOf (command.Campaign f) end w
IsEndOfQuestion d (fault.Broken b) end w = RefusesWith (refusal_line (broken_run b)) end w
IsEndOfQuestion d (fault.Scenario f) end w = IsEndOf (command.Scenario f) end w
IsEndOfQuestion d (fault.Unseen line) end w = RefusesWith (refusal_line (unseen_hits line)) end w
