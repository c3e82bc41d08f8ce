-- Ends of questions, by what they came to and by what was read.
use Rattle.std.proofs.Common.{◌++◌, ◌≡◌, ◌≤◌, ◌<◌, ◌==◌, [], ℕ, Bool, true, false, List, Option, Some, None, IfSome, Result, Ok, Err, length, refl, sym, ap, inl, inr, subst, if◌then◌else◌}
use Rattle.std.specs.Str.{IsUtf8}
use Rattle.std.specs.Prelude.{is_some}
use Rattle.scenario_grammar.specs.declared.fault.ScenarioFault.TheVariants as scenario
use Rattle.answer_text.specs.Answers.{most_bytes}
use Rattle.answer_text.specs.FaultText.{line_of}
use Rattle.answer_text.specs.declared.fault.AnswersFault.{AnswersFault}
use Rattle.answer_text.specs.declared.fault.AnswersFault.TheVariants as answers
use Rattle.std.specs.List.{slice_split}
use Rattle.std.proofs.lemmas.Bool.{lt-ltb}
use Rattle.campaign_given.specs.Description.{Description}
use Rattle.campaign_given.specs.Given.{Given}
use Rattle.campaign_settings.specs.Settings.{Cause, Read, RefusedBy, settings_of, too_long}
use Rattle.campaign_settings.specs.declared.fault.SettingsFault.{SettingsFault}
use Rattle.campaign_settings.specs.declared.fault.SettingsFault.TheVariants as settings
use Rattle.campaign_settings.specs.declared.choice.Choice.{Choice}
use Rattle.campaign_settings.specs.declared.choice.Choice.TheVariants as choice
use Rattle.campaign_settings.specs.declared.settings.Settings.{Settings}
use Rattle.campaign_core.specs.Writes.{Change, IsUntouched, WritesWhole}
use Rattle.campaign_core.specs.declared.ending.CampaignFault.TheVariants as campaign
use Rattle.command_words.specs.declared.words.Question.{Question}
use Rattle.command_words.specs.declared.words.Question.TheVariants.{Asks, Report, Explain}
use Rattle.answer_text.specs.Runs.{pieces_from, reading_of}
use Rattle.answer_text.specs.declared.runs.RunLine.{RunLine}
use Rattle.outside_campaign.specs.with_depth.Questions.{Refuses, RefusesYet}
use Rattle.outside_campaign.specs.declared.with_depth.fault.QuestionFault.{QuestionFault}
use Rattle.outside_campaign.specs.declared.with_depth.fault.QuestionFault.TheVariants as fault
use Rattle.report.specs.ReportText.{ended}
use Rattle.report.specs.declared.forms.forms.Form.{Form}
use Rattle.outside_campaign.specs.declared.refusal.OutsideFault.TheVariants as outside
use Rattle.campaign_main.specs.declared.exit.Conclusion.{Conclusion}
use Rattle.campaign_main.specs.declared.exit.Conclusion.TheVariants.{Clean, Failed, Doubtful}
use Rattle.campaign_main.specs.declared.exit.Exit.{Exit}
use Rattle.campaign_main.specs.declared.exit.Exit.TheVariants as exit
use Rattle.campaign_main.specs.declared.input.ReadFault.{ReadFault}
use Rattle.campaign_main.specs.declared.input.ReadFault.TheVariants as read
use Rattle.campaign_main.specs.Commands.{Refusal, bad_answers, bad_scenario, bad_settings, broken_run, bundled_target, not_answered, not_text, other_census, too_many_plans, unseen_hits}
use Rattle.campaign_main.specs.Escaped.{escaped}
use Rattle.campaign_main.specs.Ends.{EndsAs, IsNoted, Leaves, OnWhole, RefusesWith, TellsAs, TellsOf}
use Rattle.campaign_main.specs.Exit.{exit_of}
use Rattle.campaign_main.specs.FaultLines.{answers_read_line, read_fault_line, refusal_line, settings_line, unreadable_answers_line, unreadable_line}
use Rattle.campaign_main.specs.QuestionNotes.{question_notes}
use Rattle.campaign_main.specs.Questions.{EndsAnswered, EndsQuestion, IsAnswer, IsEndOfQuestion, IsNotAnswered, IsUnanswered, RefusesQuestion, RefusesShown, Subject, TellsOfQuestion, TellsWhy, chosen_subject, given_subject, report_form, subject_of, text_subject, written_for}
use Rattle.outside_campaign.proofs.WithDepthLemmas.ReadFaults.{at_all}
use Rattle.campaign_main.proofs.EscapedLemmas.{long-answers}
use Rattle.campaign_main.proofs.EndLemmas.{broken-meaning, if_some, long-meaning, memory-apart, read-meaning, tells-of, text-meaning, settings-fault-cause}

-- ---- by the answer to a question

-- a text that was written whole, with its notes
pub whole-ends : (text notes : List ℕ) (c : Conclusion) (w : Change) → WritesWhole text w → EndsAs (exit_of c) (Ok (text, c, notes)) w
whole-ends text notes Clean w h = (h, refl)
whole-ends text notes Failed w h = (h, refl)
whole-ends text notes Doubtful w h = (h, refl)

pub whole-tells : (text notes : List ℕ) (c : Conclusion) (w : Change) → IsNoted notes w → TellsAs (exit_of c) (Ok (text, c, notes)) w
whole-tells text notes Clean w h = h
whole-tells text notes Failed w h = h
whole-tells text notes Doubtful w h = h

module _ (question : Question) (s : Subject) (answers text : List ℕ) (found : Bool) (h : IsAnswer question s answers text found) where
  -- what an end says of the output
  pub answer-ends : (end : Exit) (w : Change) → EndsAs end (written_for question text found (question_notes question s.0 s.1 answers)) w → EndsAnswered question s answers end w
  answer-ends exit.Kept w is = (found, (text, h, is.0), sym is.1)
  answer-ends exit.Found w is = (found, (text, h, is.0), sym is.1)
  answer-ends exit.Doubted w is = (found, (text, h, is.0), sym is.1)
  answer-ends exit.Refused w is = is
  answer-ends exit.Memory w is = is
  answer-ends (exit.Write n) w is = (text, (found, h), is)

-- what it tells
pub answer-tells : (question : Question) (text notes : List ℕ) (found : Bool) (refusal : Type 0) (end : Exit) (w : Change) → TellsAs end (written_for question text found notes) w
    → TellsOf (IsNoted notes w) refusal end w
answer-tells question text notes found refusal exit.Kept w told = told
answer-tells question text notes found refusal exit.Found w told = told
answer-tells question text notes found refusal exit.Doubted w told = told
answer-tells question text notes found refusal exit.Refused w told = absurd told
answer-tells question text notes found refusal exit.Memory w told = told
answer-tells question text notes found refusal (exit.Write n) w told = told

-- ---- by a fault

-- what refuses a text that waits for nothing refuses a report too
pub yet-shown : (depth : Option ℕ) (form : Option Form) (s : Subject) (answers : List ℕ) (f : QuestionFault) → RefusesYet depth s.1 s.0 answers f → RefusesShown depth form s answers f
yet-shown depth None s answers f h = h
yet-shown depth (Some form) s answers f h = at_all s.1 answers depth s.0 f h

module _ (s : Subject) (answers : List ℕ) where
  -- an answer is made before anything is written
  never-yet : {A : Type 0} (depth : Option ℕ) (n : ℕ) → RefusesYet depth s.1 s.0 answers (fault.Outside (outside.Campaign (campaign.Write n))) → A
  never-yet None n h = absurd h
  never-yet (Some depth) n h = absurd h.2

  never-at-all : {A : Type 0} (depth : Option ℕ) (n : ℕ) → Refuses depth s.1 s.0 answers (fault.Outside (outside.Campaign (campaign.Write n))) → A
  never-at-all None n h = absurd h
  never-at-all (Some depth) n h = absurd h.2

  never-shown : {A : Type 0} (form : Option Form) (n : ℕ) → RefusesShown s.0.depth form s answers (fault.Outside (outside.Campaign (campaign.Write n))) → A
  never-shown None n h = never-yet s.0.depth n h
  never-shown (Some form) n h = never-at-all s.0.depth n h

  pub never-cut : {A : Type 0} (question : Question) (n : ℕ) → IsUnanswered question s answers (fault.Outside (outside.Campaign (campaign.Write n))) → A
  never-cut Asks n h = never-yet s.0.depth n h
  never-cut (Report what strict) n h = never-shown (report_form what) n h
  never-cut (Explain text) n h = absurd h

-- memory may be refused whatever is asked for
asks-memory : (depth : Option ℕ) (s : Subject) (answers : List ℕ) → RefusesYet depth s.1 s.0 answers (fault.Outside (outside.Campaign campaign.Memory))
asks-memory None s answers = tt
asks-memory (Some depth) s answers = tt

pub may-lack-memory : (s : Subject) (answers : List ℕ) → IsUnanswered Asks s answers (fault.Outside (outside.Campaign campaign.Memory))
may-lack-memory s answers = asks-memory s.0.depth s answers

module _ (question : Question) (s : Subject) (answers : List ℕ) (v : Change) where
  module _ (w : Change) (untouched : IsUntouched w) where
    refused-ends : (text : List ℕ) (end : Exit) → RefusesWith text end v → EndsAnswered question s answers end w
    refused-ends text exit.Kept is = absurd is
    refused-ends text exit.Found is = absurd is
    refused-ends text exit.Doubted is = absurd is
    refused-ends text exit.Refused is = untouched
    refused-ends text exit.Memory is = untouched
    refused-ends text (exit.Write n) is = absurd is

    abbrev ends : Exit → Type 0
    ends e = EndsAnswered question s answers e w

    pub fault-ends : (f : QuestionFault) (end : Exit) → IsUnanswered question s answers f → IsEndOfQuestion s.1 f end v → EndsAnswered question s answers end w
    fault-ends (fault.Outside (outside.Answers f)) end why is = refused-ends _ end is
    fault-ends (fault.Outside (outside.Census line)) end why is = refused-ends _ end is
    fault-ends (fault.Outside (outside.NotAnswered t)) end why is = refused-ends _ end is
    fault-ends (fault.Outside (outside.Campaign campaign.TooManyPlans)) end why is = subst ends (sym is.0) untouched
    fault-ends (fault.Outside (outside.Campaign campaign.Memory)) end why is = subst ends (sym is.0) untouched
    fault-ends (fault.Outside (outside.Campaign (campaign.Write n))) end why is = never-cut s answers question n why
    fault-ends (fault.Broken b) end why is = refused-ends _ end is
    fault-ends (fault.Scenario scenario.Memory) end why is = subst ends (sym is.0) untouched
    fault-ends (fault.Scenario (scenario.Bad kind entry term)) end why is = refused-ends _ end is
    fault-ends (fault.Unseen line) end why is = refused-ends _ end is

  -- a refusal whose line is told
  why-of : (refusal : Refusal) (end : Exit) → RefusesQuestion question (Ok s) answers refusal → RefusesWith (refusal_line refusal) end v → end ≡ exit.Refused → TellsWhy question (Ok s) answers v
  why-of refusal end because is refused =
      let P : Exit → Type 0 = λ e. RefusesWith (refusal_line refusal) e v in (refusal, because, subst P refused is)

  module _ (noted : Type 0) where
    abbrev tells : Exit → Type 0
    tells e = TellsOf noted (TellsWhy question (Ok s) answers v) e v

    pub fault-tells : (f : QuestionFault) (end : Exit) → IsUnanswered question s answers f → IsEndOfQuestion s.1 f end v → tells end
    fault-tells (fault.Outside (outside.Answers f)) end why is = tells-of _ _ _ end v is (why-of (bad_answers s.1 f) end (refl, why) is)
    fault-tells (fault.Outside (outside.Census line)) end why is = tells-of _ _ _ end v is (why-of (other_census line) end why is)
    fault-tells (fault.Outside (outside.NotAnswered t)) end why is = tells-of _ _ _ end v is (why-of (not_answered t) end why is)
    fault-tells (fault.Outside (outside.Campaign campaign.TooManyPlans)) end why is = subst tells (sym is.0) (too_many_plans, why, is.1)
    fault-tells (fault.Outside (outside.Campaign campaign.Memory)) end why is = subst tells (sym is.0) is.1
    fault-tells (fault.Outside (outside.Campaign (campaign.Write n))) end why is = never-cut s answers question n why
    fault-tells (fault.Broken b) end why is = tells-of _ _ _ end v is (why-of (broken_run b) end why is)
    fault-tells (fault.Scenario scenario.Memory) end why is = subst tells (sym is.0) is.1
    fault-tells (fault.Scenario (scenario.Bad kind entry term)) end why is = tells-of _ _ _ end v is (why-of (bad_scenario _) end why is)
    fault-tells (fault.Unseen number) end why is = tells-of _ _ _ end v is (why-of (unseen_hits number) end why is)

-- ---- by what an end says

module _ (question : Question) (s : Subject) (answers : List ℕ) (w : Change) where
  pub answered-leaves : (end : Exit) → EndsAnswered question s answers end w → Leaves end w
  answered-leaves exit.Kept h = h.1.2.1
  answered-leaves exit.Found h = h.1.2.1
  answered-leaves exit.Doubted h = h.1.2.1
  answered-leaves exit.Refused h = h
  answered-leaves exit.Memory h = h
  answered-leaves (exit.Write n) h = h.2.2

pub whole-noted : (noted refusal : Type 0) (end : Exit) (w : Change) → TellsOf noted refusal end w → OnWhole end noted
whole-noted noted refusal exit.Kept w h = h
whole-noted noted refusal exit.Found w h = h
whole-noted noted refusal exit.Doubted w h = h
whole-noted noted refusal exit.Refused w h = tt
whole-noted noted refusal exit.Memory w h = tt
whole-noted noted refusal (exit.Write n) w h = tt

-- what is told of a question's refusal is the line of some refusal
pub some-why : (question : Question) (read : Result Subject Refusal) (answers notes : List ℕ) (end : Exit) (w : Change)
    → TellsOf (IsNoted notes w) (TellsWhy question read answers w) end w → TellsOfQuestion end w
some-why question read answers notes exit.Kept w told = (notes, told)
some-why question read answers notes exit.Found w told = (notes, told)
some-why question read answers notes exit.Doubted w told = (notes, told)
some-why question read answers notes exit.Refused w told = inl (told.0, told.2)
some-why question read answers notes exit.Memory w told = told
some-why question read answers notes (exit.Write n) w told = told

pub refused-why : (noted claim : Type 0) (end : Exit) (w : Change) → end ≡ exit.Refused → TellsOf noted claim end w → claim
refused-why noted claim end w refused told = let P : Exit → Type 0 = λ e. TellsOf noted claim e w in subst P refused told

-- an end that refuses with a line, where nothing was written, whatever the question is about
pub refused-question : (question : Question) (read : Result Subject Refusal) (answers : List ℕ) (line : List ℕ) (end : Exit) (w v : Change)
    → RefusesWith line end w → IsUntouched v → EndsQuestion question read answers end v
refused-question question read answers line exit.Kept w v told h = absurd told
refused-question question read answers line exit.Found w v told h = absurd told
refused-question question read answers line exit.Doubted w v told h = absurd told
refused-question question (Ok s) answers line exit.Refused w v told h = h
refused-question question (Err r) answers line exit.Refused w v told h = h
refused-question question (Ok s) answers line exit.Memory w v told h = h
refused-question question (Err r) answers line exit.Memory w v told h = h
refused-question question read answers line (exit.Write n) w v told h = absurd told

-- a text that is too long
long-reading : (needed : Bool) (names points : List (List ℕ)) (text : List ℕ) → most_bytes < length text → reading_of needed names points text ≡ Err answers.TooLong
unfolding reading_of
long-reading needed names points text many =
    let rest : Result (List RunLine) AnswersFault = pieces_from needed names points [] (slice_split (λ b. b == 10) text) in
    let f : Bool → Result (List RunLine) AnswersFault = λ b. if b then Err answers.TooLong else rest in
    ap f (lt-ltb most_bytes (length text) many)

refuses-long : (depth : Option ℕ) (s : Subject) (text : List ℕ) → most_bytes < length text → Refuses depth s.1 s.0 text (fault.Outside (outside.Answers answers.TooLong))
refuses-long None s text many = long-reading false s.1.codes s.1.points text many
refuses-long (Some depth) s text many = long-reading true s.1.codes s.1.points text many

shown-long : (form : Option Form) (s : Subject) (text : List ℕ) → most_bytes < length text → RefusesShown s.0.depth form s text (fault.Outside (outside.Answers answers.TooLong))
shown-long None s text many = refuses-long s.0.depth s text many
shown-long (Some form) s text many = refuses-long s.0.depth s text many

too-long : (question : Question) (s : Subject) (text : List ℕ) → most_bytes < length text → IsUnanswered question s text (fault.Outside (outside.Answers answers.TooLong))
too-long Asks s text many = refuses-long s.0.depth s text many
too-long (Report what strict) s text many = shown-long (report_form what) s text many
too-long (Explain words) s text many = long-reading (is_some s.0.depth) s.1.codes s.1.points text many

-- ---- by the answers that a reader gave

refuses-long-answers : (end : Exit) (w : Change) → RefusesWith (answers_read_line read.TooLong) end w → RefusesWith (ended (escaped (line_of answers.TooLong ++ []))) end w
refuses-long-answers end w told = let P : List ℕ → Type 0 = λ line. RefusesWith line end w in subst P (sym long-answers) told

module _ (question : Question) (s : Subject) (known : Option (List ℕ)) where
  pub answers-read-fault-cause : (f : ReadFault) (end : Exit) (w : Change)
      → (f ≡ read.TooLong → IfSome known (λ bytes. 268435456 < length bytes))
      → RefusesWith (answers_read_line f) end w → (f ≡ read.Memory → end ≡ exit.Memory) → end ≡ exit.Refused
      → IfSome known (λ bytes. IsNotAnswered question (Ok s) bytes w)
  answers-read-fault-cause read.TooLong end w long told memory refused =
      let P : Exit → Type 0 = λ e. RefusesWith (refusal_line (bad_answers s.1 answers.TooLong)) e w in
      if_some known _ (λ bytes. IsNotAnswered question (Ok s) bytes w)
      (λ bytes h. inl (bad_answers s.1 answers.TooLong, (refl, too-long question s bytes h), subst P refused (refuses-long-answers end w told))) (long refl)
  answers-read-fault-cause read.NotUtf8 end w long told memory refused =
      let P : Exit → Type 0 = λ e. RefusesWith unreadable_answers_line e w in
      elim known as (λ k. IfSome k (λ bytes. IsNotAnswered question (Ok s) bytes w)) [ None ↦ tt | Some bytes ↦ inr (inr (subst P refused told)) ]
  answers-read-fault-cause read.NotReadable end w long told memory refused =
      let P : Exit → Type 0 = λ e. RefusesWith unreadable_answers_line e w in
      elim known as (λ k. IfSome k (λ bytes. IsNotAnswered question (Ok s) bytes w)) [ None ↦ tt | Some bytes ↦ inr (inr (subst P refused told)) ]
  answers-read-fault-cause read.Memory end w long told memory refused = memory-apart end (memory refl) refused

-- what holds of all bytes
pub for-any : (known : Option (List ℕ)) (P : List ℕ → Type 0) → ((bytes : List ℕ) → P bytes) → IfSome known P
for-any None P h = tt
for-any (Some bytes) P h = h bytes

pub refused-any : (question : Question) (read : Result Subject Refusal) (known : Option (List ℕ)) (line : List ℕ) (end : Exit) (w v : Change)
    → RefusesWith line end w → IsUntouched v → IfSome known (λ bytes. EndsQuestion question read bytes end v)
refused-any question read known line end w v told h =
    for-any known (λ bytes. EndsQuestion question read bytes end v) (λ bytes. refused-question question read bytes line end w v told h)

-- ---- by what the settings come to

module _ (question : Question) (read : Result Subject Refusal) (refusal : Refusal) (is : read ≡ Err refusal) where
  -- a refusal by the settings, whose line is told
  pub settings-why : (known : Option (List ℕ)) (end : Exit) (w : Change) → RefusesWith (refusal_line refusal) end w → end ≡ exit.Refused
      → IfSome known (λ bytes. IsNotAnswered question read bytes w)
  settings-why known end w told refused =
      let P : Exit → Type 0 = λ e. RefusesWith (refusal_line refusal) e w in
      let Q : Result Subject Refusal → Type 0 = λ r. IfSome known (λ bytes. IsNotAnswered question r bytes w) in
      subst Q (sym is) (for-any known (λ bytes. IsNotAnswered question (Err refusal) bytes w) (λ bytes. inl (refusal, refl, subst P refused told)))

-- settings that choose no component that somebody else runs
pub chosen-bundled : (given : Given) (c : Choice) → ((d : Description) → c ≡ choice.Outside d → ⊥) → chosen_subject given c ≡ Err bundled_target
chosen-bundled given (choice.Replace variant work) apart = refl
chosen-bundled given (choice.Maildir variant messages) apart = refl
chosen-bundled given (choice.Commit variant work) apart = refl
chosen-bundled given (choice.Outside d) apart = absurd (apart d refl)

-- the line of a refusal, where an end refuses with it
pub tells-question : (refusal : Refusal) (end : Exit) (w : Change) → RefusesWith (refusal_line refusal) end w → TellsOfQuestion end w
tells-question refusal end w told =
    let P : Exit → Type 0 = λ e. RefusesWith (refusal_line refusal) e w in
    tells-of _ _ _ end w told (λ refused. inl (refusal, subst P refused told))

module _ (text : List ℕ) where
  settings-fault-subject : (cause : Cause) → settings_of text ≡ Err cause → text_subject text ≡ Err (bad_settings cause)
  unfolding text_subject
  settings-fault-subject cause is = let f : Read Settings → Result Subject Refusal = given_subject in ap f is

  pub chosen-is : (s : Settings) → settings_of text ≡ Ok s → text_subject text ≡ chosen_subject s.campaign s.choice
  unfolding text_subject
  chosen-is s is = let f : Read Settings → Result Subject Refusal = given_subject in ap f is

  -- settings with a fault, whose line is told
  module _ (question : Question) (end : Exit) (w : Change) (f : SettingsFault) (by : RefusedBy (settings_of text) f) (memory : f ≡ settings.Memory → end ≡ exit.Memory)
      (told : RefusesWith (settings_line f) end w) where
    pub settings-fault-why : (known : Option (List ℕ)) → end ≡ exit.Refused → IfSome known (λ bytes. IsNotAnswered question (text_subject text) bytes w)
    settings-fault-why known refused =
        let c = settings-fault-cause (settings_of text) end w refused f by memory told in
        settings-why question (text_subject text) (bad_settings c.0) (settings-fault-subject c.0 c.1) known end w c.2 refused

    pub settings-fault-tells-question : TellsOfQuestion end w
    settings-fault-tells-question =
        tells-of _ _ _ end w told
        (λ refused.
        let c = settings-fault-cause (settings_of text) end w refused f by memory told in
        let Q : Exit → Type 0 = λ e. RefusesWith (refusal_line (bad_settings c.0)) e w in
        inl (bad_settings c.0, subst Q refused c.2))

-- ---- by the bytes of the settings

subject-text : (bytes : List ℕ) → length bytes ≤ 1048576 → IsUtf8 bytes → subject_of bytes ≡ text_subject bytes
unfolding subject_of
subject-text bytes few utf8 = text-meaning text_subject bytes few utf8

subject-long : (bytes : List ℕ) → 1048576 < length bytes → subject_of bytes ≡ Err (bad_settings too_long)
unfolding subject_of
subject-long bytes many = long-meaning text_subject bytes many

subject-broken : (bytes : List ℕ) → length bytes ≤ 1048576 → ¬ IsUtf8 bytes → subject_of bytes ≡ Err not_text
unfolding subject_of
subject-broken bytes few broken = broken-meaning text_subject bytes few broken

pub read-subject : (known : Option (List ℕ)) (text shown : List ℕ) (P : Result Subject Refusal → Type 0) → shown ≡ text → IfSome known (λ bytes. text ≡ bytes)
    → length text ≤ 1048576 → IsUtf8 shown → P (text_subject shown) → IfSome known (λ bytes. P (subject_of bytes))
read-subject known text shown P same is few utf8 h = read-meaning subject_of text_subject subject-text known text shown P same is few utf8 h

-- what holds of the component that the settings describe
pub for-subject : (given : Option (List ℕ)) (s : Subject) (P : Result Subject Refusal → Type 0) → IfSome given (λ g. subject_of g ≡ Ok s) → P (Ok s) → IfSome given (λ g. P (subject_of g))
for-subject None s P is h = tt
for-subject (Some g) s P is h = subst P (sym is) h

-- a reader that gave no settings
module _ (question : Question) (given known : Option (List ℕ)) (end : Exit) (w : Change) (refused : end ≡ exit.Refused) where
  settings-read-fault : RefusesWith unreadable_line end w → IfSome given (λ s. IfSome known (λ bytes. IsNotAnswered question (subject_of s) bytes w))
  settings-read-fault told =
      let P : Exit → Type 0 = λ e. RefusesWith unreadable_line e w in
      for-any given _ (λ s. for-any known (λ bytes. IsNotAnswered question (subject_of s) bytes w) (λ bytes. inr (inl (subst P refused told))))

  pub read-fault-why : (f : ReadFault) → (f ≡ read.TooLong → IfSome given (λ bytes. 1048576 < length bytes))
      → (f ≡ read.NotUtf8 → IfSome given (λ bytes. (length bytes ≤ 1048576) × ¬ IsUtf8 bytes))
      → RefusesWith (read_fault_line f) end w → (f ≡ read.Memory → end ≡ exit.Memory)
      → IfSome given (λ s. IfSome known (λ bytes. IsNotAnswered question (subject_of s) bytes w))
  read-fault-why read.TooLong long broken told memory =
      if_some given _ (λ s. IfSome known (λ bytes. IsNotAnswered question (subject_of s) bytes w))
      (λ s h. settings-why question (subject_of s) (bad_settings too_long) (subject-long s h) known end w told refused) (long refl)
  read-fault-why read.NotUtf8 long broken told memory =
      if_some given _ (λ s. IfSome known (λ bytes. IsNotAnswered question (subject_of s) bytes w))
      (λ s h. settings-why question (subject_of s) not_text (subject-broken s h.0 h.1) known end w told refused) (broken refl)
  read-fault-why read.NotReadable long broken told memory = settings-read-fault told
  read-fault-why read.Memory long broken told memory = memory-apart end (memory refl) refused

-- a description of nothing
abbrev nothing : Description
nothing = record { label = []; codes = []; points = []; hits = []; kinds = [] }

-- what is told of a reader that gave nothing
module _ (end : Exit) (w : Change) where
  pub read-fault-tells-question : (f : ReadFault) → RefusesWith (read_fault_line f) end w → (f ≡ read.Memory → end ≡ exit.Memory) → TellsOfQuestion end w
  read-fault-tells-question read.TooLong told memory = tells-question (bad_settings too_long) end w told
  read-fault-tells-question read.NotUtf8 told memory = tells-question not_text end w told
  read-fault-tells-question read.NotReadable told memory =
      let P : Exit → Type 0 = λ e. RefusesWith unreadable_line e w in tells-of _ _ _ end w told (λ refused. inr (inl (subst P refused told)))
  read-fault-tells-question read.Memory told memory = tells-of _ _ _ end w told (λ refused. memory-apart end (memory refl) refused)

  pub answers-read-fault-tells : (f : ReadFault) → RefusesWith (answers_read_line f) end w → (f ≡ read.Memory → end ≡ exit.Memory) → TellsOfQuestion end w
  answers-read-fault-tells read.TooLong told memory = tells-question (bad_answers nothing answers.TooLong) end w (refuses-long-answers end w told)
  answers-read-fault-tells read.NotUtf8 told memory =
      let P : Exit → Type 0 = λ e. RefusesWith unreadable_answers_line e w in tells-of _ _ _ end w told (λ refused. inr (inr (subst P refused told)))
  answers-read-fault-tells read.NotReadable told memory =
      let P : Exit → Type 0 = λ e. RefusesWith unreadable_answers_line e w in tells-of _ _ _ end w told (λ refused. inr (inr (subst P refused told)))
  answers-read-fault-tells read.Memory told memory = tells-of _ _ _ end w told (λ refused. memory-apart end (memory refl) refused)
