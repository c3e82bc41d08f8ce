-- What a command answers to the bytes of its settings: its text, what the text comes to, and the notes on it; or why the command is refused.
use Rattle.std.specs.Prelude.{ℕ, ◌+◌, ◌==◌, Bool, false, List, [], ◌∷◌, ◌++◌, codes, count_by, length, take, Option, Some, None, is_some, Result, Ok, Err, nat_lt}
use Rattle.std.specs.Prelude.{if◌then◌else◌, slice_get, string_bytes}
use Rattle.std.specs.Fmt.{decimal}
use Rattle.std.specs.Str.{is_utf8}
use Rattle.scenario_values.specs.Scenario.{Entries}
use Rattle.scenario_grammar.specs.FirstFault.{Fault, reading}
use Rattle.target_trait.specs.declared.judgement.Verdict.{Verdict}
use Rattle.action_eval.specs.Answers.{Given as Run, Reply, given_of}
use Rattle.target_trait.specs.Play.{Move}
use Rattle.target_trait.specs.declared.target.Target.{Ghosts}
use Rattle.target_trait.specs.Cuts.{Cut, asks_with, with_keep}
use Rattle.target_trait.specs.Outcomes.{outcome}
use Rattle.file_replace.specs.declared.variant.Variant.{Variant as ReplaceVariant}
use Rattle.file_replace.specs.Work.{Work as Replacing}
use Rattle.file_replace.specs.Crash.{cut_of as replace_cut, calls_of as replace_calls}
use Rattle.file_replace.specs.Steps.{asks_of as replacing}
use Rattle.file_replace.specs.Words.{point_names as replace_points, code_text as replace_codes, label as replace_label}
use Rattle.maildir_target.specs.declared.variant.Variant.{Variant as MaildirVariant}
use Rattle.maildir_target.specs.Crash.{cut_of as maildir_cut, calls_of as maildir_calls}
use Rattle.maildir_target.specs.Steps.{asks_of as delivering}
use Rattle.maildir_target.specs.Words.{point_names as maildir_points, code_text as maildir_codes, label as maildir_label}
use Rattle.commit_target.specs.declared.variant.Variant.{Variant as CommitVariant}
use Rattle.commit_target.specs.Work.{Work as Committing}
use Rattle.commit_target.specs.Crash.{cut_of as commit_cut, calls_of as commit_calls}
use Rattle.commit_target.specs.Steps.{asks_of as committing}
use Rattle.commit_target.specs.Words.{point_names as commit_points, code_text as commit_codes, label as commit_label}
use Rattle.plan_gen.specs.PlanList.{most_plans, plan_list}
use Rattle.report.specs.ReportText.{text_of}
use Rattle.report.specs.explained.Explained.{no_end}
use Rattle.answer_text.specs.declared.fault.AnswersFault.{AnswersFault}
use Rattle.answered_runs.specs.declared.broken.BrokenRun.{BrokenRun}
use Rattle.campaign_given.specs.Description.{Description}
use Rattle.campaign_given.specs.Given.{Given}
use Rattle.campaign_settings.specs.Settings.{Cause, Read, settings_of, too_long}
use Rattle.campaign_settings.specs.declared.choice.Choice.{Choice}
use Rattle.campaign_settings.specs.declared.choice.Choice.TheVariants as choice
use Rattle.campaign_settings.specs.declared.settings.Settings.{Settings}
use Rattle.campaign_core.specs.declared.subject.Subject.{Subject}
use Rattle.campaign_core.specs.Headline.{Campaign, campaign_of, say, plans, first_failure}
use Rattle.campaign_core.specs.CommandTexts.{counted, explained, plan_lines, plans_text, try_text, tried, reduce_text}
use Rattle.campaign_core.specs.Forms.{report_in as campaign_report}
use Rattle.report.specs.json_form.About.{NotesFacts}
use Rattle.report.specs.declared.forms.forms.Form.{Form as ReportForm}
use Rattle.report.specs.declared.forms.forms.Form.TheVariants as forms
use Rattle.command_words.specs.declared.words.Form.{Form}
use Rattle.command_words.specs.declared.words.Form.TheVariants.{Whole, Brief, Json, Junit, Page}
use Rattle.command_words.specs.declared.words.Order.{Order}
use Rattle.command_words.specs.declared.words.Order.TheVariants as order
use Rattle.command_words.specs.declared.words.Which.{Which}
use Rattle.command_words.specs.declared.words.Which.TheVariants.{Scenario, Plan}
use Rattle.campaign_main.specs.declared.exit.Conclusion.{Conclusion}
use Rattle.campaign_main.specs.declared.exit.Conclusion.TheVariants.{Clean}
use Rattle.target_trait.specs.Verdicts.{is_fail}
use Rattle.campaign_main.specs.Exit.{concluded}
use Rattle.campaign_main.specs.Notes.{is_doubted, listed_notes, notes_of, report_notes}

-- ---- answers

-- Why a command is refused. Its settings aren't UTF-8 or have a fault; its scenario has a fault; there are too many plans; or no plan has this
-- number. Somebody else runs the component, but the command would have to run it, or to list plans that grow from answers. A question is about a
-- target that the program runs itself. The answers on a component of this description have a fault, have another census than the settings in this
-- line, or lack this scenario. Two recorded runs contradict each other; or this line records the run to be explained without its hits.
pub data Refusal : Type 0 where
  not_text : Refusal
  bad_settings : Cause → Refusal
  bad_scenario : Fault → Refusal
  too_many_plans : Refusal
  no_plan : ℕ → Refusal
  outside_target : Refusal
  outside_with_depth : Refusal
  bundled_target : Refusal
  bad_answers : Description → AnswersFault → Refusal
  other_census : ℕ → Refusal
  not_answered : Entries → Refusal
  broken_run : BrokenRun → Refusal
  unseen_hits : ℕ → Refusal

-- A command's text, what the text comes to, and the notes on it; or why the command is refused.
abbrev pub Answer : Type 0
Answer = Result (List ℕ × Conclusion × List ℕ) Refusal

-- ---- a command in a campaign

-- The text, unless there are more plans than a list may have.
abbrev pub of_few_plans : List Entries → List ℕ × Conclusion × List ℕ → Answer
of_few_plans plans text = if nat_lt most_plans (length plans) then Err too_many_plans else Ok text

-- What a document says of the program: its version, whether `target` or `answers` shows the runs, and the command.
abbrev pub notes_with : List ℕ → List ℕ → NotesFacts
notes_with told_by command = record { version = codes "0.9.0"; told_by = told_by; command = command }

-- The form that a command's words name.
abbrev pub form_in : Form → ReportForm
form_in Whole = forms.Whole
form_in Brief = forms.Brief
form_in Json = forms.Json (notes_with (codes "target") (codes "paklour run --json FILE"))
form_in Junit = forms.Junit
form_in Page = forms.Page (notes_with (codes "target") (codes "paklour page FILE"))

-- The report in a form.
abbrev pub report_in : Form → Campaign → List ℕ
report_in form c = campaign_report (form_in form) c

-- The report, what it comes to, and the notes on it, which count if the report is strict.
unfoldable pub run_answer : Form → Bool → Campaign → Answer
run_answer form strict c =
    of_few_plans (plans c) (report_in form c, concluded (is_some (first_failure c)) (is_doubted strict (report_notes strict c)), report_notes strict c)

-- The list of plans, and the notes on the listed scenarios.
unfoldable pub plans_answer : Campaign → Answer
plans_answer c = of_few_plans (plans c) (plans_text c, Clean, listed_notes c.points c.given.plans.listed)

-- What a text with this one verdict comes to.
abbrev pub of_verdict : Verdict → Conclusion
of_verdict verdict = concluded (is_fail verdict) false

-- The text of a scenario that is tried under a stream number, what it comes to, and the notes on the scenario.
unfoldable pub try_answer : Campaign → ℕ → Entries → Answer
try_answer c stream scenario =
    Ok (try_text c.codes (tried c stream scenario), of_verdict (tried c stream scenario).verdict, notes_of c.points scenario)

-- The text of a scenario that is reduced under a stream number, what it comes to, and the notes on the scenario.
unfoldable pub reduce_answer : Campaign → ℕ → Entries → Answer
reduce_answer c stream scenario = Ok (reduce_text c stream scenario, of_verdict (say c stream scenario), notes_of c.points scenario)

-- The text of a scenario's run under a stream number, hit by hit and with these lines of its end, what it comes to, and the notes on the scenario.
unfoldable pub explain_answer : (Run → List (List ℕ)) → Campaign → ℕ → Entries → Answer
explain_answer end c stream scenario = Ok (explained end c stream scenario, of_verdict (tried c stream scenario).verdict, notes_of c.points scenario)

-- The stream number and the scenario that a command takes. If it takes a text, they are 0 and the scenario that the text spells.
abbrev pub spelled : Result Entries Fault → Result (ℕ × Entries) Refusal
spelled (Ok scenario) = Ok (0, scenario)
spelled (Err f) = Err (bad_scenario f)

-- If it takes the number of a plan, they are this number and the plan, as in the campaign's own run of it.
abbrev pub numbered : ℕ → Option Entries → Result (ℕ × Entries) Refusal
numbered number (Some scenario) = Ok (number, scenario)
numbered number None = Err (no_plan number)

abbrev pub planned : Campaign → ℕ → Result (ℕ × Entries) Refusal
planned c number = if nat_lt most_plans (counted c number) then Err too_many_plans else numbered number (slice_get (plans c) number)

abbrev pub taken : Campaign → Which → Result (ℕ × Entries) Refusal
taken c (Scenario text) = spelled (reading (string_bytes text))
taken c (Plan number) = planned c number

-- The answer to what the command takes, or why it takes nothing.
abbrev pub taken_answer : (ℕ → Entries → Answer) → Result (ℕ × Entries) Refusal → Answer
taken_answer answer (Ok t) = answer t.0 t.1
taken_answer answer (Err refusal) = Err refusal

-- The answer to an order. An explained run has these lines of its end.
abbrev pub answer_with : (Run → List (List ℕ)) → Order → Campaign → Answer
answer_with end (order.Run form strict) c = run_answer form strict c
answer_with end order.Plans c = plans_answer c
answer_with end (order.Try which) c = taken_answer (try_answer c) (taken c which)
answer_with end (order.Reduce which) c = taken_answer (reduce_answer c) (taken c which)
answer_with end (order.Explain which) c = taken_answer (explain_answer end c) (taken c which)

-- The answer to an order. An explained run has no line of its end.
abbrev pub order_answer : Order → Campaign → Answer
order_answer order c = answer_with no_end order c

-- ---- a command on a target whose runs end with the power cut
-- `points` are the target's own points; the cut's point comes after them. `calls` gives the calls of the writes that are pending at the end of a run.

abbrev pub keep_line : ℕ → List ℕ → List ℕ
keep_line number call = codes "keep " ++ decimal number ++ codes " " ++ call

-- A line for each of the calls, numbered from k.
abbrev pub keep_lines_from : ℕ → List (List ℕ) → List (List ℕ)
keep_lines_from k [] = []
keep_lines_from k (call ∷ calls) = keep_line k call ∷ keep_lines_from (k + 1) calls

abbrev pub keep_lines : List (List ℕ) → List (List ℕ)
keep_lines calls = keep_lines_from 1 calls

-- How often a run asks the cut's point.
abbrev pub keeps_asked : List (List ℕ) → List ℕ → ℕ
keeps_asked points asked = count_by (λ p. p == length points) asked

-- The lines of the end of a run: for each hit of the cut, the call of the write that it stands for.
abbrev pub cut_end : (Run → List (List ℕ)) → List (List ℕ) → (List Reply → Move) → Run → List (List ℕ)
cut_end calls points asks g =
    keep_lines (take (keeps_asked points (outcome asks g).asked) (calls (given_of g.scenario points g.seed g.stream g.limit)))

-- The answer to an order.
abbrev pub cut_answer : (Run → List (List ℕ)) → List (List ℕ) → Order → Campaign → Answer
cut_answer calls points order c = answer_with (cut_end calls points c.asks) order c

-- ---- a command on a component that somebody else runs

-- The list of its plans, with these notes, if they don't grow from answers. An order to run it is refused.
unfoldable pub outside_answer : Order → Option ℕ → List Entries → List ℕ → Answer
outside_answer order.Plans None plans notes = of_few_plans plans (text_of (plan_lines 0 plans), Clean, notes)
outside_answer order.Plans (Some depth) plans notes = Err outside_with_depth
outside_answer (order.Run form strict) depth plans notes = Err outside_target
outside_answer (order.Try which) depth plans notes = Err outside_target
outside_answer (order.Reduce which) depth plans notes = Err outside_target
outside_answer (order.Explain which) depth plans notes = Err outside_target

-- ---- by the settings

-- The campaign of a target each of whose runs ends with the power cut. The cut's hits come after those of the target.
abbrev pub campaign_with_cut : (List Reply → Move) → Cut → List (List ℕ) → (ℕ → List ℕ) → List ℕ → Given → Campaign
campaign_with_cut asks cut points codes label given = campaign_of (asks_with asks cut (length points)) (with_keep points) codes label given

-- The same if the settings ask for crash states. Otherwise runs end without the cut.
abbrev pub campaign_to_cut : (List Reply → Move) → Cut → List (List ℕ) → (ℕ → List ℕ) → List ℕ → Given → Campaign
campaign_to_cut asks cut points codes label given =
    if given.crash_states then campaign_with_cut asks cut points codes label given else campaign_of asks points codes label given

-- The same two for what is tried: a target, its workload and the settings.
abbrev pub campaign_with_cut_in : {T W : Type 0} → Ghosts T W → (T → W → Cut) → Subject T W → Campaign
campaign_with_cut_in target cut tried =
    campaign_with_cut (target.asks tried.target.now tried.workload.now) (cut tried.target.now tried.workload.now) target.names target.code_text
    (target.label_of tried.target.now) tried.settings.now

abbrev pub campaign_to_cut_in : {T W : Type 0} → Ghosts T W → (T → W → Cut) → Subject T W → Campaign
campaign_to_cut_in target cut tried =
    campaign_to_cut (target.asks tried.target.now tried.workload.now) (cut tried.target.now tried.workload.now) target.names target.code_text
    (target.label_of tried.target.now) tried.settings.now

-- The campaign of each bundled target on its workload.
abbrev pub replacing_in : Given → ReplaceVariant → Replacing → Campaign
replacing_in given variant work =
    campaign_to_cut (replacing variant work) (replace_cut variant work) replace_points replace_codes (replace_label variant) given

abbrev pub delivering_in : Given → MaildirVariant → List (List (List ℕ)) → Campaign
delivering_in given variant messages =
    campaign_to_cut (delivering variant messages) (maildir_cut variant messages) maildir_points maildir_codes (maildir_label variant) given

abbrev pub committing_in : Given → CommitVariant → Committing → Campaign
committing_in given variant work =
    campaign_to_cut (committing variant work) (commit_cut variant work) commit_points commit_codes (commit_label variant) given

-- The campaign of the target that the settings choose. A component that somebody else runs isn't run here.
abbrev pub campaign_for : Given → Choice → Option Campaign
campaign_for given (choice.Replace variant work) = Some (replacing_in given variant work)
campaign_for given (choice.Maildir variant messages) = Some (delivering_in given variant messages)
campaign_for given (choice.Commit variant work) = Some (committing_in given variant work)
campaign_for given (choice.Outside outside) = None

-- The plans of a component that somebody else runs, over the points and the counts that the settings describe.
abbrev pub outside_plans : Given → Description → List Entries
outside_plans given outside = plan_list outside.points outside.hits given.plans

-- The answer on a bundled target. With crash states an explained run also has the calls of the pending writes.
abbrev pub bundled_answer : (Run → List (List ℕ)) → List (List ℕ) → Given → Order → Campaign → Answer
bundled_answer calls points given order c = if given.crash_states then cut_answer calls points order c else order_answer order c

abbrev pub choice_answer : Order → Given → Choice → Answer
choice_answer order given (choice.Replace variant work) =
    bundled_answer (replace_calls variant work) replace_points given order (replacing_in given variant work)
choice_answer order given (choice.Maildir variant messages) =
    bundled_answer (maildir_calls variant messages) maildir_points given order (delivering_in given variant messages)
choice_answer order given (choice.Commit variant work) =
    bundled_answer (commit_calls variant work) commit_points given order (committing_in given variant work)
choice_answer order given (choice.Outside outside) =
    outside_answer order given.depth (outside_plans given outside) (listed_notes outside.points given.plans.listed)

abbrev pub given_answer : Order → Read Settings → Answer
given_answer order (Ok s) = choice_answer order s.campaign s.choice
given_answer order (Err cause) = Err (bad_settings cause)

-- The answer to a text of settings.
unfoldable pub text_answer : Order → List ℕ → Answer
text_answer order text = given_answer order (settings_of text)

-- What bytes mean. First they are refused if there are too many, then if they aren't UTF-8.
abbrev pub of_text : {A : Type 0} → (List ℕ → Result A Refusal) → List ℕ → Result A Refusal
of_text meaning bytes = if nat_lt 1048576 (length bytes) then Err (bad_settings too_long)
    else (if is_utf8 bytes then meaning bytes else Err not_text)

-- The answer to the bytes of settings.
unfoldable pub answer_of : Order → List ℕ → Answer
answer_of order bytes = of_text (text_answer order) bytes
