-- Ends, by what a command came to and by what was read.
use Rattle.std.proofs.Common.{◌≡◌, ◌≤◌, ◌<◌, ◌∙◌, ℕ, Bool, true, false, List, Option, Some, None, IfSome, OnOk, Result, Ok, Err, length, refl, string_bytes, sym, ap, inl, inr, subst, if◌then◌else◌}
use Rattle.std.proofs.lemmas.Bool.{false_from_ne_true, le-ltb, lt-ltb, true≢false}
use Rattle.std.proofs.lemmas.Str.{IsUtf8-from_is_utf8, is_utf8-from_IsUtf8}
use Rattle.std.specs.Str.{IsUtf8, is_utf8}
use Rattle.campaign_settings.specs.Settings.{Cause, Read, RefusedBy, settings_of, too_long}
use Rattle.campaign_settings.specs.declared.settings.Settings.{Settings}
use Rattle.campaign_settings.specs.declared.fault.SettingsFault.{SettingsFault}
use Rattle.campaign_settings.specs.declared.fault.SettingsFault.TheVariants.{TooLong, NotToml, UnknownKey, Missing, WrongType, OutOfRange, Scenario, Memory}
use Rattle.scenario_grammar.specs.declared.fault.ScenarioFault.TheVariants as scenario
use Rattle.campaign_core.specs.Writes.{Change, IsUntouched}
use Rattle.campaign_core.specs.declared.ending.CampaignFault.TheVariants as campaign
use Rattle.command_words.specs.declared.words.Order.{Order}
use Rattle.campaign_main.specs.declared.fault.CommandFault.{CommandFault}
use Rattle.campaign_main.specs.declared.fault.CommandFault.TheVariants as command
use Rattle.campaign_main.specs.declared.exit.Answered.{Answered}
use Rattle.campaign_main.specs.declared.exit.Exit.{Exit}
use Rattle.campaign_main.specs.declared.exit.Exit.TheVariants as exit
use Rattle.campaign_main.specs.declared.input.ReadFault.{ReadFault}
use Rattle.campaign_main.specs.declared.input.ReadFault.TheVariants as read
use Rattle.campaign_main.specs.Commands.{Answer, Refusal, bad_scenario, bad_settings, choice_answer, given_answer, no_plan, not_text, of_text, text_answer}
use Rattle.campaign_main.specs.Ends.{ComesTo, EndsAs, EndsBy, FallsShort, HasNotes, IsEndOf, IsEndOfCommand, IsNoted, IsRefused, IsWritten, Leaves, OnWhole, RefusesWith, Tells, TellsANote, TellsARefusal, TellsAs, TellsNotes, TellsOf, TellsRefusal}
use Rattle.campaign_main.specs.declared.exit.Conclusion.{Conclusion}
use Rattle.campaign_main.specs.declared.exit.Conclusion.TheVariants.{Clean, Failed, Doubtful}
use Rattle.campaign_main.specs.Exit.{exit_of}
use Rattle.campaign_main.proofs.NoteLemmas.{found-notes}
use Rattle.campaign_main.specs.FaultLines.{refusal_line, scenario_line, settings_line, read_fault_line, unreadable_line}

-- whether this end is Refused
abbrev is_refused : Exit → Bool
is_refused exit.Refused = true
is_refused _ = false

-- want of memory is no refusal
pub memory-apart : {P : Type 0} (end : Exit) → end ≡ exit.Memory → end ≡ exit.Refused → P
memory-apart end m r = absurd (true≢false (ap is_refused (sym r ∙ m)))

-- ---- by what is told

-- a refusal whose line is told
pub tells-refusal : (answer : Answer) (refusal : Refusal) (end : Exit) (w : Change)
    → answer ≡ Err refusal → end ≡ exit.Refused → RefusesWith (refusal_line refusal) end w → TellsRefusal answer w
tells-refusal answer refusal end w is refused told =
    let P : Exit → Type 0 = λ e. RefusesWith (refusal_line refusal) e w in
    let Q : Answer → Type 0 = λ a. TellsRefusal a w in
    subst Q (sym is) (subst P refused told)

-- what an end tells that refuses with a line
pub tells-of : (noted refusal : Type 0) (line : List ℕ) (end : Exit) (w : Change) → RefusesWith line end w → (end ≡ exit.Refused → refusal)
    → TellsOf noted refusal end w
tells-of noted refusal line exit.Kept w told why = absurd told
tells-of noted refusal line exit.Found w told why = absurd told
tells-of noted refusal line exit.Doubted w told why = absurd told
tells-of noted refusal line exit.Refused w told why = why refl
tells-of noted refusal line exit.Memory w told why = told
tells-of noted refusal line (exit.Write n) w told why = absurd told

-- an end that refuses with a line, where nothing was written
pub refuses-ends : (line : List ℕ) (end : Exit) (w : Change) (answer : Answer) (v : Change) → RefusesWith line end w → IsUntouched v → EndsAs end answer v
refuses-ends line exit.Kept w answer v told h = absurd told
refuses-ends line exit.Found w answer v told h = absurd told
refuses-ends line exit.Doubted w answer v told h = absurd told
refuses-ends line exit.Refused w answer v told h = h
refuses-ends line exit.Memory w answer v told h = h
refuses-ends line (exit.Write n) w answer v told h = absurd told

pub refuses-by : (line : List ℕ) (end : Exit) (w : Change) (answer : List ℕ → Answer) (known : Option (List ℕ)) (v : Change) → RefusesWith line end w → IsUntouched v → EndsBy answer known end v
refuses-by line end w answer None v told h = tt
refuses-by line end w answer (Some bytes) v told h = refuses-ends line end w (answer bytes) v told h

pub refuses-leaves : (line : List ℕ) (end : Exit) (w v : Change) → RefusesWith line end w → IsUntouched v → Leaves end v
refuses-leaves line exit.Kept w v told h = absurd told
refuses-leaves line exit.Found w v told h = absurd told
refuses-leaves line exit.Doubted w v told h = absurd told
refuses-leaves line exit.Refused w v told h = h
refuses-leaves line exit.Memory w v told h = h
refuses-leaves line (exit.Write n) w v told h = absurd told

pub refuses-whole : (line : List ℕ) (end : Exit) (w : Change) (claim : Type 0) → RefusesWith line end w → OnWhole end claim
refuses-whole line exit.Kept w claim told = absurd told
refuses-whole line exit.Found w claim told = absurd told
refuses-whole line exit.Doubted w claim told = absurd told
refuses-whole line exit.Refused w claim told = tt
refuses-whole line exit.Memory w claim told = tt
refuses-whole line (exit.Write n) w claim told = absurd told

-- ---- by what a command over a target came to

module _ (answer : Answer) (w : Change) where
  pub found-ends : (found : Conclusion) → IsWritten answer w found → EndsAs (exit_of found) answer w
  found-ends Clean h = h
  found-ends Failed h = h
  found-ends Doubtful h = h

  module _ (v : Change) where
    unwritten-ends : (told : List ℕ) (end : Exit) → IsUntouched w → RefusesWith told end v → EndsAs end answer w
    unwritten-ends told exit.Kept short is = absurd is
    unwritten-ends told exit.Found short is = absurd is
    unwritten-ends told exit.Doubted short is = absurd is
    unwritten-ends told exit.Refused short is = short
    unwritten-ends told exit.Memory short is = short
    unwritten-ends told (exit.Write n) short is = absurd is

    pub fault-ends : (fault : CommandFault) (end : Exit) → FallsShort answer w fault → IsEndOf fault end v → EndsAs end answer w
    fault-ends (command.Scenario scenario.Memory) end short is = let P : Exit → Type 0 = λ e. EndsAs e answer w in subst P (sym is.0) short
    fault-ends (command.Scenario (scenario.Bad kind entry term)) end short is = unwritten-ends (scenario_line (scenario.Bad kind entry term)) end short.0 is
    fault-ends (command.Plan number) end short is = unwritten-ends (refusal_line (no_plan number)) end short.0 is
    fault-ends (command.Campaign campaign.TooManyPlans) end short is = let P : Exit → Type 0 = λ e. EndsAs e answer w in subst P (sym is.0) short.0
    fault-ends (command.Campaign campaign.Memory) end short is = let P : Exit → Type 0 = λ e. EndsAs e answer w in subst P (sym is.0) short
    fault-ends (command.Campaign (campaign.Write n)) end short is = let P : Exit → Type 0 = λ e. EndsAs e answer w in subst P (sym is.0) short
    fault-ends (command.Unlawful told) end short is = absurd short
    fault-ends command.Outside end short is = let P : Exit → Type 0 = λ e. EndsAs e answer w in subst P (sym is.0) short.0
    fault-ends command.OutsideWithDepth end short is = let P : Exit → Type 0 = λ e. EndsAs e answer w in subst P (sym is.0) short.0

    pub fault-tells : (fault : CommandFault) (end : Exit) → FallsShort answer w fault → IsEndOf fault end v → TellsAs end answer v
    fault-tells (command.Scenario scenario.Memory) end short is = let P : Exit → Type 0 = λ e. TellsAs e answer v in subst P (sym is.0) is.1
    fault-tells (command.Scenario (scenario.Bad kind entry term)) end short is =
        tells-of (TellsNotes answer v) (TellsRefusal answer v) (scenario_line (scenario.Bad kind entry term)) end v is
        (λ refused. tells-refusal answer (bad_scenario (record { kind = kind; entry = entry; term = term })) end v short.1 refused is)
    fault-tells (command.Plan number) end short is =
        tells-of (TellsNotes answer v) (TellsRefusal answer v) (refusal_line (no_plan number)) end v is
        (λ refused. tells-refusal answer (no_plan number) end v short.1 refused is)
    fault-tells (command.Campaign campaign.TooManyPlans) end short is =
        let P : Exit → Type 0 = λ e. TellsAs e answer v in
        let Q : Answer → Type 0 = λ a. TellsRefusal a v in
        subst P (sym is.0) (subst Q (sym short.1) is.1)
    fault-tells (command.Campaign campaign.Memory) end short is = let P : Exit → Type 0 = λ e. TellsAs e answer v in subst P (sym is.0) is.1
    fault-tells (command.Campaign (campaign.Write n)) end short is = let P : Exit → Type 0 = λ e. TellsAs e answer v in subst P (sym is.0) is.1
    fault-tells (command.Unlawful told) end short is = absurd short
    fault-tells command.Outside end short is =
        let P : Exit → Type 0 = λ e. TellsAs e answer v in
        let Q : Answer → Type 0 = λ a. TellsRefusal a v in
        subst P (sym is.0) (subst Q (sym short.1) is.1)
    fault-tells command.OutsideWithDepth end short is =
        let P : Exit → Type 0 = λ e. TellsAs e answer v in
        let Q : Answer → Type 0 = λ a. TellsRefusal a v in
        subst P (sym is.0) (subst Q (sym short.1) is.1)

-- a fault is no end of a text that was written whole
pub fault-whole : (v : Change) (claim : Type 0) (fault : CommandFault) (end : Exit) → IsEndOf fault end v → OnWhole end claim
fault-whole v claim (command.Scenario scenario.Memory) end is = let P : Exit → Type 0 = λ e. OnWhole e claim in subst P (sym is.0) tt
fault-whole v claim (command.Scenario (scenario.Bad kind entry term)) end is = refuses-whole (scenario_line (scenario.Bad kind entry term)) end v claim is
fault-whole v claim (command.Plan number) end is = refuses-whole (refusal_line (no_plan number)) end v claim is
fault-whole v claim (command.Campaign campaign.TooManyPlans) end is = let P : Exit → Type 0 = λ e. OnWhole e claim in subst P (sym is.0) tt
fault-whole v claim (command.Campaign campaign.Memory) end is = let P : Exit → Type 0 = λ e. OnWhole e claim in subst P (sym is.0) tt
fault-whole v claim (command.Campaign (campaign.Write n)) end is = let P : Exit → Type 0 = λ e. OnWhole e claim in subst P (sym is.0) tt
fault-whole v claim (command.Unlawful told) end is = let P : Exit → Type 0 = λ e. OnWhole e claim in subst P (sym is.0) tt
fault-whole v claim command.Outside end is = let P : Exit → Type 0 = λ e. OnWhole e claim in subst P (sym is.0) tt
fault-whole v claim command.OutsideWithDepth end is = let P : Exit → Type 0 = λ e. OnWhole e claim in subst P (sym is.0) tt

-- what holds of a text that was written whole
pub found-whole : (found : Conclusion) (claim : Type 0) → claim → OnWhole (exit_of found) claim
found-whole Clean claim h = h
found-whole Failed claim h = h
found-whole Doubtful claim h = h

pub whole-map : (end : Exit) (claim other : Type 0) → (claim → other) → OnWhole end claim → OnWhole end other
whole-map exit.Kept claim other f h = f h
whole-map exit.Found claim other f h = f h
whole-map exit.Doubted claim other f h = f h
whole-map exit.Refused claim other f h = tt
whole-map exit.Memory claim other f h = tt
whole-map (exit.Write n) claim other f h = tt

-- ---- by the outcome of a command

-- what is noted is told
notes-told : (answer : Answer) (notes : List ℕ) (v : Change) → HasNotes answer notes → IsNoted notes v → TellsNotes answer v
notes-told (Ok a) notes v has h = let P : List ℕ → Type 0 = λ n. IsNoted n v in subst P has h
notes-told (Err refusal) notes v has h = absurd has

pub outcome-ends : (outcome : Result Answered CommandFault) (end : Exit) (v : Change) (answer : Answer) (w : Change) → IsEndOfCommand outcome end v → ComesTo answer w outcome → EndsAs end answer w
outcome-ends (Ok done) end v answer w is came = let P : Exit → Type 0 = λ e. EndsAs e answer w in subst P (sym is.0) (found-ends answer w done.conclusion came.0)
outcome-ends (Err f) end v answer w is came = fault-ends answer w v f end came is

pub outcome-tells : (outcome : Result Answered CommandFault) (end : Exit) (v : Change) (answer : Answer) (w : Change) → IsEndOfCommand outcome end v → ComesTo answer w outcome → TellsAs end answer v
outcome-tells (Ok done) end v answer w is came =
    let P : Exit → Type 0 = λ e. TellsAs e answer v in
    subst P (sym is.0) (found-notes v answer done.conclusion (notes-told answer (string_bytes done.notes) v came.1 is.1))
outcome-tells (Err f) end v answer w is came = fault-tells answer w v f end came is

pub outcome-whole : (outcome : Result Answered CommandFault) (end : Exit) (v : Change) (claim : Type 0) → IsEndOfCommand outcome end v → OnOk outcome claim → OnWhole end claim
outcome-whole (Ok done) end v claim is kept = let P : Exit → Type 0 = λ e. OnWhole e claim in subst P (sym is.0) (found-whole done.conclusion claim kept)
outcome-whole (Err f) end v claim is kept = fault-whole v claim f end is

-- ---- by what the settings' text gives

-- a refusal of settings is the line of a cause
module _ {S : Type 0} (read : Read S) (end : Exit) (w : Change) (refused : end ≡ exit.Refused) where
  abbrev pub HasCause : Type 0
  HasCause = (cause : Cause) × (read ≡ Err cause) × RefusesWith (refusal_line (bad_settings cause)) end w

  pub settings-fault-cause : (f : SettingsFault) → RefusedBy read f → (f ≡ Memory → end ≡ exit.Memory) → RefusesWith (settings_line f) end w → HasCause
  settings-fault-cause TooLong h m told = (_, h, told)
  settings-fault-cause NotToml h m told = (_, h, told)
  settings-fault-cause (UnknownKey place name) h m told = (_, h, told)
  settings-fault-cause (Missing k) h m told = (_, h, told)
  settings-fault-cause (WrongType k) h m told = (_, h, told)
  settings-fault-cause (OutOfRange k) h m told = (_, h, told)
  settings-fault-cause (Scenario number kind entry term) h m told = (_, h, told)
  settings-fault-cause Memory h m told = memory-apart end (m refl) refused

-- what is answered where it is made of settings, and refuses what they refuse
module _ {S : Type 0} (answer : Read S → Answer) (refuses : (cause : Cause) → answer (Err cause) ≡ Err (bad_settings cause)) (read : Read S) where
  pub settings-tell : (end : Exit) (w : Change) → end ≡ exit.Refused → (f : SettingsFault) → RefusedBy read f → (f ≡ Memory → end ≡ exit.Memory)
      → RefusesWith (settings_line f) end w → TellsRefusal (answer read) w
  settings-tell end w refused f h m told =
      let c = settings-fault-cause read end w refused f h m told in
      tells-refusal (answer read) (bad_settings c.0) end w (ap answer c.1 ∙ refuses c.0) refused c.2

module _ (order : Order) (text : List ℕ) where
  pub settings-fault-tells : (end : Exit) (w : Change) → end ≡ exit.Refused → (f : SettingsFault) → RefusedBy (settings_of text) f → (f ≡ Memory → end ≡ exit.Memory)
      → RefusesWith (settings_line f) end w → TellsRefusal (text_answer order text) w
  unfolding text_answer
  settings-fault-tells end w refused f h m told = settings-tell (given_answer order) (λ _. refl) (settings_of text) end w refused f h m told

  module _ (s : Settings) (is : settings_of text ≡ Ok s) where
    pub answer-chosen : text_answer order text ≡ choice_answer order s.campaign s.choice
    unfolding text_answer
    answer-chosen = let f : Read Settings → Answer = given_answer order in ap f is

-- ---- by the bytes

module _ {A : Type 0} (meaning : List ℕ → Result A Refusal) (bytes : List ℕ) where
  pub text-meaning : length bytes ≤ 1048576 → IsUtf8 bytes → of_text meaning bytes ≡ meaning bytes
  text-meaning few utf8 =
      let rest : Result A Refusal = if is_utf8 bytes then meaning bytes else Err not_text in
      let f : Bool → Result A Refusal = λ b. if b then Err (bad_settings too_long) else rest in
      let g : Bool → Result A Refusal = λ b. if b then meaning bytes else Err not_text in
      ap f (le-ltb 1048576 (length bytes) few) ∙ ap g (is_utf8-from_IsUtf8 bytes utf8)

  pub long-meaning : 1048576 < length bytes → of_text meaning bytes ≡ Err (bad_settings too_long)
  long-meaning many =
      let rest : Result A Refusal = if is_utf8 bytes then meaning bytes else Err not_text in
      let f : Bool → Result A Refusal = λ b. if b then Err (bad_settings too_long) else rest in
      ap f (lt-ltb 1048576 (length bytes) many)

  pub broken-meaning : length bytes ≤ 1048576 → ¬ IsUtf8 bytes → of_text meaning bytes ≡ Err not_text
  broken-meaning few broken =
      let rest : Result A Refusal = if is_utf8 bytes then meaning bytes else Err not_text in
      let f : Bool → Result A Refusal = λ b. if b then Err (bad_settings too_long) else rest in
      let g : Bool → Result A Refusal = λ b. if b then meaning bytes else Err not_text in
      ap f (le-ltb 1048576 (length bytes) few) ∙ ap g (false_from_ne_true (is_utf8 bytes) (λ t. broken (IsUtf8-from_is_utf8 bytes t)))

-- what holds of every byte list of one kind
pub if_some : (known : Option (List ℕ)) (P Q : List ℕ → Type 0) → ((bytes : List ℕ) → P bytes → Q bytes) → IfSome known P → IfSome known Q
if_some None P Q f h = tt
if_some (Some bytes) P Q f h = f bytes h

-- what holds of what the text means that was read holds of what the bytes mean that the reader tells
pub read-meaning : {A : Type 0} (whole meaning : List ℕ → A) → ((bytes : List ℕ) → length bytes ≤ 1048576 → IsUtf8 bytes → whole bytes ≡ meaning bytes)
    → (known : Option (List ℕ)) (text shown : List ℕ) (P : A → Type 0) → shown ≡ text → IfSome known (λ bytes. text ≡ bytes)
    → length text ≤ 1048576 → IsUtf8 shown → P (meaning shown) → IfSome known (λ bytes. P (whole bytes))
read-meaning whole meaning agree known text shown P same is few utf8 h =
    let Q : List ℕ → Type 0 = λ t. P (meaning t) in
    let there : P (whole text) = subst P (sym (agree text few (subst IsUtf8 same utf8))) (subst Q same h) in
    let R : List ℕ → Type 0 = λ bytes. P (whole bytes) in
    if_some known (λ bytes. text ≡ bytes) R (λ bytes e. subst R e there) is

pub read-answer : (meaning : List ℕ → Answer) (known : Option (List ℕ)) (text shown : List ℕ) (P : Answer → Type 0) → shown ≡ text → IfSome known (λ bytes. text ≡ bytes)
    → length text ≤ 1048576 → IsUtf8 shown → P (meaning shown) → IfSome known (λ bytes. P (of_text meaning bytes))
read-answer meaning known text shown P same is few utf8 h = read-meaning (of_text meaning) meaning (text-meaning meaning) known text shown P same is few utf8 h

-- what holds of the text that was read holds of the bytes that the reader tells
pub read-whole : (known : Option (List ℕ)) (text shown : List ℕ) (P : List ℕ → Type 0) → shown ≡ text → IfSome known (λ bytes. text ≡ bytes) → P shown → IfSome known P
read-whole known text shown P same is h = if_some known (λ bytes. text ≡ bytes) P (λ bytes e. subst P e (subst P same h)) is

-- a reader that gave no text tells why
pub tells-read-fault : (o : Order) (fault : ReadFault) (end : Exit) (w : Change) → RefusesWith (read_fault_line fault) end w → (fault ≡ read.Memory → end ≡ exit.Memory)
    → Tells o end w
tells-read-fault o fault end w told memory = tells-of (TellsANote o w) (TellsARefusal w) (read_fault_line fault) end w told (which fault end told memory)
  where
    which : (fault : ReadFault) (end : Exit) → RefusesWith (read_fault_line fault) end w → (fault ≡ read.Memory → end ≡ exit.Memory) → end ≡ exit.Refused → TellsARefusal w
    which read.TooLong end told memory refused = let P : Exit → Type 0 = λ e. RefusesWith (read_fault_line read.TooLong) e w in inl (bad_settings too_long, subst P refused told)
    which read.NotUtf8 end told memory refused = let P : Exit → Type 0 = λ e. RefusesWith (read_fault_line read.NotUtf8) e w in inl (not_text, subst P refused told)
    which read.NotReadable end told memory refused = let P : Exit → Type 0 = λ e. RefusesWith (read_fault_line read.NotReadable) e w in inr (subst P refused told)
    which read.Memory end told memory refused = memory-apart end (memory refl) refused

-- a reader that gave no text
module _ (meaning : List ℕ → Answer) (known : Option (List ℕ)) (end : Exit) (w : Change) where
  pub read-fault-cause : (fault : ReadFault) → (fault ≡ read.TooLong → IfSome known (λ bytes. 1048576 < length bytes))
      → (fault ≡ read.NotUtf8 → IfSome known (λ bytes. (length bytes ≤ 1048576) × ¬ IsUtf8 bytes))
      → RefusesWith (read_fault_line fault) end w
      → (fault ≡ read.Memory → end ≡ exit.Memory) → end ≡ exit.Refused
      → IfSome known (λ bytes. IsRefused (of_text meaning bytes) w)
  read-fault-cause read.TooLong long broken told memory refused =
      if_some known _ (λ bytes. IsRefused (of_text meaning bytes) w)
      (λ bytes h. inl (tells-refusal _ _ end w (long-meaning meaning bytes h) refused told)) (long refl)
  read-fault-cause read.NotUtf8 long broken told memory refused =
      if_some known _ (λ bytes. IsRefused (of_text meaning bytes) w)
      (λ bytes h. inl (tells-refusal _ _ end w (broken-meaning meaning bytes h.0 h.1) refused told)) (broken refl)
  read-fault-cause read.NotReadable long broken told memory refused =
      let P : Exit → Type 0 = λ e. RefusesWith unreadable_line e w in
      elim known as (λ k. IfSome k (λ bytes. IsRefused (of_text meaning bytes) w)) [
        | None ↦ tt
        | Some bytes ↦ inr (subst P refused told)
      ]
  read-fault-cause read.Memory long broken told memory refused = memory-apart end (memory refl) refused
