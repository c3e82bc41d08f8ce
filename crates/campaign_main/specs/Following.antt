-- What `asks --follow` writes while answers come, and how it ends. It looks at the answers that came so far, again and again: each look asks by all of
-- them, and writes those lines that no look before it wrote.
use Rattle.std.specs.Prelude.{◌≡◌, ◌⊎◌, ◌==◌, ◌++◌, ◌∷◌, [], ℕ, true, false, List, Result, Ok, Err, fold, if◌then◌else◌}
use Rattle.std.specs.List.{concat}
use Rattle.std.specs.Io.BufRead.{ends_with_byte}
use Rattle.std.specs.Str.{bytes_eq}
use Rattle.indexmap.specs.IndexSet.{insert_key}
use Rattle.campaign_core.specs.Writes.{Change, WritesPart, WritesWhole}
use Rattle.command_words.specs.declared.words.Question.TheVariants.{Asks}
use Rattle.campaign_main.specs.declared.exit.Exit.{Exit}
use Rattle.campaign_main.specs.declared.exit.Exit.TheVariants.{Kept, Found, Refused, Memory, Write, Doubted}
use Rattle.campaign_main.specs.Commands.{Refusal}
use Rattle.campaign_main.specs.Ends.{IsNoted}
use Rattle.campaign_main.specs.QuestionNotes.{question_notes}
use Rattle.campaign_main.specs.Questions.{EndsUnanswered, IsAnswer, IsNotAnswered, Subject}

-- ---- lines

-- Lines with one byte more at the head of the first.
abbrev pub put_first : ℕ → List (List ℕ) → List (List ℕ)
put_first byte [] = (byte ∷ []) ∷ []
put_first byte (line ∷ more) = (byte ∷ line) ∷ more

-- The lines of a text, each with its line feed. The last one may have none.
abbrev pub lines_in : List ℕ → List (List ℕ)
lines_in [] = []
lines_in (byte ∷ more) = if byte == 10 then (byte ∷ []) ∷ lines_in more else put_first byte (lines_in more)

-- Lines, and behind them those of a text that aren't among them, each once.
abbrev pub lines_with : List (List ℕ) → List ℕ → List (List ℕ)
lines_with lines text = fold (insert_key bytes_eq) lines (lines_in text)

-- A text of whole lines: it is empty, or a line feed ends it.
abbrev pub IsOfLines : List ℕ → Type 0
IsOfLines text = (text ≡ []) ⊎ (ends_with_byte 10 text ≡ true)

-- ---- looks

-- A look: the answers that came so far, and the text that asks for what they leave to be tried.
pub record Look : Type 0 where
  pub answers : List ℕ
  pub text : List ℕ

-- The first text grew to the second.
abbrev pub GrewTo : List ℕ → List ℕ → Type 0
GrewTo before now = (more : List ℕ) × (now ≡ before ++ more)

-- These are looks at answers that grew to this text, the last look first. The first of them was at no answers at all.
abbrev pub AreLooks : Subject → List Look → List ℕ → Type 0
AreLooks s [] now = now ≡ []
AreLooks s (look ∷ earlier) now = GrewTo look.answers now × IsAnswer Asks s look.answers look.text false × AreLooks s earlier look.answers

-- The lines that the looks asked for, each once: a look adds those that none before it asked for.
abbrev pub told_by : List Look → List (List ℕ)
told_by [] = []
told_by (look ∷ earlier) = lines_with (told_by earlier) look.text

abbrev pub told_text : List Look → List ℕ
told_text looks = concat (told_by looks)

-- ---- ends, by the bytes that the reader of the answers had

-- These are looks at answers that grew to these bytes, or to a part of them.
abbrev pub WereLooks : Subject → List ℕ → List Look → Type 0
WereLooks s bytes looks = (now : List ℕ) × GrewTo now bytes × AreLooks s looks now

-- The last look was at all bytes, or it left nothing to be tried.
abbrev pub AreDone : List ℕ → List Look → Type 0
AreDone bytes [] = ⊥
AreDone bytes (look ∷ earlier) = (look.answers ≡ bytes) ⊎ (look.text ≡ [])

-- What some looks asked for was written.
abbrev pub TellsSome : Subject → List ℕ → Change → Type 0
TellsSome s bytes w = (looks : List Look) × WereLooks s bytes looks × WritesWhole (told_text looks) w

-- What an end says of the output if the settings describe a component. At Kept the looks came to an end; at Write the output failed at the last of
-- them, once this many bytes of all that they asked for were written.
abbrev pub EndsFollowed : Subject → List ℕ → Exit → Change → Type 0
EndsFollowed s bytes Kept w = (looks : List Look) × WereLooks s bytes looks × AreDone bytes looks × WritesWhole (told_text looks) w
EndsFollowed s bytes Found w = ⊥
EndsFollowed s bytes Doubted w = ⊥
EndsFollowed s bytes Refused w = TellsSome s bytes w
EndsFollowed s bytes Memory w = TellsSome s bytes w
EndsFollowed s bytes (Write written) w = (looks : List Look) × WereLooks s bytes looks × WritesPart (told_text looks) written w

-- The same by what the settings give. If they are refused, nothing was written.
abbrev pub EndsFollow : Result Subject Refusal → List ℕ → Exit → Change → Type 0
EndsFollow (Ok s) bytes end w = EndsFollowed s bytes end w
EndsFollow (Err refusal) bytes end w = EndsUnanswered end w

-- The last look was at this part of the bytes: at all of them, unless nothing was left to be tried.
abbrev pub IsLastLook : Subject → List ℕ → List ℕ → Type 0
IsLastLook s bytes answers = GrewTo answers bytes × ((answers ≡ bytes) ⊎ IsAnswer Asks s answers [] false)

-- The notes on the last look were written. If the settings are refused, there was none.
abbrev pub NotesFollow : Result Subject Refusal → List ℕ → Change → Type 0
NotesFollow (Ok s) bytes w = (answers : List ℕ) × IsLastLook s bytes answers × IsNoted (question_notes Asks s.0 s.1 answers) w
NotesFollow (Err refusal) bytes w = ⊥

-- A look may be at this part of the bytes: at whole lines, or at all of them.
abbrev pub IsLookedAt : List ℕ → List ℕ → Type 0
IsLookedAt bytes answers = GrewTo answers bytes × (IsOfLines answers ⊎ (answers ≡ bytes))

-- The line was written which says why a look had no answer, or one which says that the settings or the answers couldn't be read.
abbrev pub IsNotFollowed : Result Subject Refusal → List ℕ → Change → Type 0
IsNotFollowed read bytes w = (answers : List ℕ) × IsLookedAt bytes answers × IsNotAnswered Asks read answers w

-- What an end says of the output, whatever was read: it has failed at Write and only there.
abbrev pub LeavesFollow : Exit → Change → Type 0
LeavesFollow Kept w = w.failed ≡ false
LeavesFollow Found w = ⊥
LeavesFollow Doubted w = ⊥
LeavesFollow Refused w = w.failed ≡ false
LeavesFollow Memory w = w.failed ≡ false
LeavesFollow (Write written) w = w.failed ≡ true
