-- What a command answers to the bytes of its settings if the program brings its own target.
use Rattle.std.specs.Prelude.{ℕ, List, IfOk, Ok, Err, ◌++◌, codes}
use Rattle.action_eval.specs.Answers.{Given as Run}
use Rattle.target_trait.specs.declared.target.Target.{Ghosts}
use Rattle.campaign_given.specs.Given.{Given}
use Rattle.campaign_settings.specs.Own.{own_settings_of, worded_settings_of}
use Rattle.campaign_settings.specs.declared.own.OwnSettings.{OwnSettings}
use Rattle.campaign_settings.specs.Settings.{Read}
use Rattle.campaign_core.specs.Headline.{Campaign, campaign_on}
use Rattle.command_words.specs.declared.words.Order.{Order}
use Rattle.report.specs.ReportText.{ended}
use Rattle.report.specs.explained.Tales.{told_end}
use Rattle.campaign_main.specs.Commands.{Answer, answer_with, bad_settings, of_text, order_answer}
use Rattle.campaign_main.specs.Promises.{KeepsPromises}

-- The answer to what a text of settings gives. `campaign` makes the target's campaign from it.
abbrev pub own_given_answer : Order → (Given → Campaign) → Read Given → Answer
own_given_answer order campaign (Ok given) = order_answer order (campaign given)
own_given_answer order campaign (Err cause) = Err (bad_settings cause)

-- The answer to a text of settings.
unfoldable pub own_text_answer : Order → (Given → Campaign) → List ℕ → Answer
own_text_answer order campaign text = own_given_answer order campaign (own_settings_of text)

-- The answer to the bytes of settings.
unfoldable pub own_answer : Order → (Given → Campaign) → List ℕ → Answer
own_answer order campaign bytes = of_text (own_text_answer order campaign) bytes

-- The answer to the bytes of settings, for a target with its setup and its workload.
abbrev pub target_answer : {T W : Type 0} → Ghosts T W → T → W → Order → List ℕ → Answer
target_answer target setup workload order = own_answer order (campaign_on target setup workload)

-- What the command's text promises, if the text of the settings has no fault.
abbrev pub OwnKeepsPromises : Order → (Given → Campaign) → List ℕ → Type 0
OwnKeepsPromises order campaign text = IfOk (own_settings_of text) (λ given. KeepsPromises order (campaign given))

-- ---- a target that takes words from the settings

-- The answer to what a text of settings gives. `answer` is the one to settings without a fault.
abbrev pub worded_given_answer : (OwnSettings → Answer) → Read OwnSettings → Answer
worded_given_answer answer (Ok settings) = answer settings
worded_given_answer answer (Err cause) = Err (bad_settings cause)

abbrev pub worded_text_answer : (OwnSettings → Answer) → List ℕ → Answer
worded_text_answer answer text = worded_given_answer answer (worded_settings_of text)

-- The answer to the bytes of settings.
unfoldable pub worded_answer : (OwnSettings → Answer) → List ℕ → Answer
worded_answer answer bytes = of_text (worded_text_answer answer) bytes

-- The line for words in the settings that the program refuses.
abbrev pub own_words_line : List ℕ → List ℕ
own_words_line reason = ended (codes "settings: own: " ++ reason)

-- ---- a target that describes the end of a run

-- The answer to an order. By what a run is given, `state_of` describes the state in which it is judged, and `reason_of` the reason for its verdict.
abbrev pub telling_answer : (Run → List ℕ) → (Run → List ℕ) → Order → Campaign → Answer
telling_answer state_of reason_of order c = answer_with (told_end c.asks state_of reason_of) order c
