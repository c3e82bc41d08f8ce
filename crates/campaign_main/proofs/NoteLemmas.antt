-- What is noted beside a text, by the order.
use Rattle.std.proofs.Common.{ℕ, Bool, true, false, List, Option, None, Some, Result, Ok, Err, IfOk, length, refl, inl, if◌then◌else◌}
use Rattle.std.specs.Prelude.{nat_lt}
use Rattle.scenario_values.specs.Scenario.{Entries}
use Rattle.plan_gen.specs.PlanList.{most_plans}
use Rattle.action_eval.specs.Answers.{Given as Run}
use Rattle.commit_target.specs.Crash.{calls_of as commit_calls}
use Rattle.commit_target.specs.Words.{point_names as commit_points}
use Rattle.file_replace.specs.Crash.{calls_of as replace_calls}
use Rattle.file_replace.specs.Words.{point_names as replace_points}
use Rattle.maildir_target.specs.Crash.{calls_of as maildir_calls}
use Rattle.maildir_target.specs.Words.{point_names as maildir_points}
use Rattle.campaign_core.specs.Headline.{Campaign}
use Rattle.campaign_core.specs.Writes.{Change}
use Rattle.report.specs.explained.Explained.{no_end}
use Rattle.campaign_settings.specs.Own.{own_settings_of}
use Rattle.campaign_given.specs.Given.{Given}
use Rattle.campaign_settings.specs.Settings.{Read, settings_of}
use Rattle.campaign_settings.specs.declared.settings.Settings.{Settings}
use Rattle.campaign_settings.specs.declared.choice.Choice.{Choice}
use Rattle.campaign_settings.specs.declared.choice.Choice.TheVariants as choice
use Rattle.command_words.specs.declared.words.Form.{Form}
use Rattle.command_words.specs.declared.words.Order.{Order}
use Rattle.command_words.specs.declared.words.Order.TheVariants as order
use Rattle.command_words.specs.declared.words.Which.{Which}
use Rattle.campaign_main.specs.declared.exit.Exit.{Exit}
use Rattle.campaign_main.specs.declared.exit.Exit.TheVariants as exit
use Rattle.campaign_main.specs.Commands.{Answer, Refusal, answer_with, bundled_answer, choice_answer, committing_in, cut_answer, cut_end, delivering_in, explain_answer, given_answer, of_few_plans, order_answer, outside_answer, plans_answer, reduce_answer, replacing_in, run_answer, taken, taken_answer, text_answer, too_many_plans, try_answer}
use Rattle.campaign_main.specs.Ends.{OnWhole, TellsANote, TellsARefusal, TellsAs, TellsNotes, TellsRefusal, Tells}
use Rattle.campaign_main.specs.declared.exit.Conclusion.{Conclusion}
use Rattle.campaign_main.specs.declared.exit.Conclusion.TheVariants.{Clean, Failed, Doubtful}
use Rattle.campaign_main.specs.Exit.{exit_of}
use Rattle.campaign_main.specs.Notes.{MayNote, listed_notes}
use Rattle.campaign_main.specs.OwnTarget.{own_given_answer, own_text_answer}

-- ---- notes that are told

-- ---- what an answer may note

-- the answer notes what the order may
abbrev pub NotesFor : Order → Answer → Type 0
NotesFor o answer = IfOk answer (λ a. MayNote o a.2)

-- the answer's notes are these
abbrev Notes : (List ℕ → Type 0) → Answer → Type 0
Notes may answer = IfOk answer (λ a. may a.2)

of-few : (may : List ℕ → Type 0) (plans : List Entries) (t : List ℕ × Conclusion × List ℕ) → may t.2 → Notes may (of_few_plans plans t)
of-few may plans t h =
    let f : Bool → Answer = λ b. if b then Err too_many_plans else Ok t in
    elim (nat_lt most_plans (length plans)) as (λ b. Notes may (f b)) [
      | true ↦ tt
      | false ↦ h
    ]

module _ (c : Campaign) where
  may-run : (form : Form) (strict : Bool) → NotesFor (order.Run form strict) (run_answer form strict c)
  unfolding run_answer
  may-run form strict = of-few (MayNote (order.Run form strict)) _ _ (c, refl)

  may-plans : NotesFor order.Plans (plans_answer c)
  unfolding plans_answer
  may-plans = of-few (MayNote order.Plans) _ _ (c.points, (c.given.plans.listed, refl))

  may-try : (which : Which) (read : Result (ℕ × Entries) Refusal) → NotesFor (order.Try which) (taken_answer (try_answer c) read)
  unfolding try_answer
  may-try which (Ok t) = (c.points, (t.1, refl))
  may-try which (Err refusal) = tt

  may-reduce : (which : Which) (read : Result (ℕ × Entries) Refusal) → NotesFor (order.Reduce which) (taken_answer (reduce_answer c) read)
  unfolding reduce_answer
  may-reduce which (Ok t) = (c.points, (t.1, refl))
  may-reduce which (Err refusal) = tt

  may-explain : (end : Run → List (List ℕ)) (which : Which) (read : Result (ℕ × Entries) Refusal) → NotesFor (order.Explain which) (taken_answer (explain_answer end c) read)
  unfolding explain_answer
  may-explain end which (Ok t) = (c.points, (t.1, refl))
  may-explain end which (Err refusal) = tt

  pub may-with : (end : Run → List (List ℕ)) (o : Order) → NotesFor o (answer_with end o c)
  may-with end (order.Run form strict) = may-run form strict
  may-with end order.Plans = may-plans
  may-with end (order.Try which) = may-try which (taken c which)
  may-with end (order.Reduce which) = may-reduce which (taken c which)
  may-with end (order.Explain which) = may-explain end which (taken c which)

module _ (calls : Run → List (List ℕ)) (points : List (List ℕ)) where
  may-bundled-answer : (given : Given) (c : Campaign) (o : Order) → NotesFor o (bundled_answer calls points given o c)
  may-bundled-answer given c o = elim given.crash_states as (λ b. NotesFor o (if b then cut_answer calls points o c else order_answer o c)) [
    | true ↦ may-with c (cut_end calls points c.asks) o
    | false ↦ may-with c no_end o
  ]

may-outside : (o : Order) (depth : Option ℕ) (plans : List Entries) (points : List (List ℕ)) (listed : List Entries) → NotesFor o (outside_answer o depth plans (listed_notes points listed))
unfolding outside_answer
may-outside (order.Run form strict) depth plans points listed = tt
may-outside order.Plans None plans points listed = of-few (MayNote order.Plans) plans _ (points, (listed, refl))
may-outside order.Plans (Some depth) plans points listed = tt
may-outside (order.Try which) depth plans points listed = tt
may-outside (order.Reduce which) depth plans points listed = tt
may-outside (order.Explain which) depth plans points listed = tt

may-choice : (o : Order) (given : Given) (chosen : Choice) → NotesFor o (choice_answer o given chosen)
may-choice o given (choice.Replace variant work) = may-bundled-answer (replace_calls variant work) replace_points given (replacing_in given variant work) o
may-choice o given (choice.Maildir variant messages) = may-bundled-answer (maildir_calls variant messages) maildir_points given (delivering_in given variant messages) o
may-choice o given (choice.Commit variant work) = may-bundled-answer (commit_calls variant work) commit_points given (committing_in given variant work) o
may-choice o given (choice.Outside outside) = may-outside o given.depth _ outside.points given.plans.listed

may-given : (o : Order) (read : Read Settings) → NotesFor o (given_answer o read)
may-given o (Ok s) = may-choice o s.campaign s.choice
may-given o (Err cause) = tt

pub may-text : (o : Order) (text : List ℕ) → NotesFor o (text_answer o text)
unfolding text_answer
may-text o text = may-given o (settings_of text)

may-own-given : (o : Order) (campaign : Given → Campaign) (read : Read Given) → NotesFor o (own_given_answer o campaign read)
may-own-given o campaign (Ok given) = may-with (campaign given) no_end o
may-own-given o campaign (Err cause) = tt

pub may-own : (o : Order) (campaign : Given → Campaign) (text : List ℕ) → NotesFor o (own_text_answer o campaign text)
unfolding own_text_answer
may-own o campaign text = may-own-given o campaign (own_settings_of text)

-- ---- by what a command came to

module _ (w : Change) where
  some-note : (o : Order) (answer : Answer) → NotesFor o answer → TellsNotes answer w → TellsANote o w
  some-note o (Ok a) may h = (a.2, may, h)
  some-note o (Err refusal) may h = absurd h

  one-refusal : (answer : Answer) → TellsRefusal answer w → TellsARefusal w
  one-refusal (Ok a) h = absurd h
  one-refusal (Err refusal) h = inl (refusal, h)

  -- what is told by an answer is told by some note, or by some refusal
  pub some-tells : (o : Order) (answer : Answer) (end : Exit) → NotesFor o answer → TellsAs end answer w → Tells o end w
  some-tells o answer exit.Kept may h = some-note o answer may h
  some-tells o answer exit.Found may h = some-note o answer may h
  some-tells o answer exit.Doubted may h = some-note o answer may h
  some-tells o answer exit.Refused may h = one-refusal answer h
  some-tells o answer exit.Memory may h = h
  some-tells o answer (exit.Write n) may h = h

  module _ (answer : Answer) where
    -- an end of a text that was written whole tells the notes
    pub found-notes : (found : Conclusion) → TellsNotes answer w → TellsAs (exit_of found) answer w
    found-notes Clean h = h
    found-notes Failed h = h
    found-notes Doubtful h = h

    pub told-notes : (end : Exit) → TellsAs end answer w → OnWhole end (TellsNotes answer w)
    told-notes exit.Kept h = h
    told-notes exit.Found h = h
    told-notes exit.Doubted h = h
    told-notes exit.Refused h = tt
    told-notes exit.Memory h = tt
    told-notes (exit.Write n) h = tt
