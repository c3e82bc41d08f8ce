-- What a look comes to, and what following comes to. Private contracts cite them.
use Rattle.std.specs.Prelude.{◌≡◌, ◌⊎◌, ◌∷◌, [], ℕ, false, List, Option, IfSome, Result, Ok, Err, String, string_bytes}
use Rattle.std.specs.List.{concat}
use Rattle.std.specs.Io.KnownBytes.{Appends, IsAtEnd}
use Rattle.campaign_core.specs.Writes.{Change, IsUntouched, WritesPart, WritesWhole}
use Rattle.campaign_core.specs.declared.ending.CampaignFault.TheVariants as campaign
use Rattle.command_words.specs.declared.words.Question.{Question}
use Rattle.outside_campaign.specs.declared.refusal.OutsideFault.TheVariants as outside
use Rattle.outside_campaign.specs.declared.with_depth.fault.QuestionFault.{QuestionFault}
use Rattle.outside_campaign.specs.declared.with_depth.fault.QuestionFault.TheVariants as fault
use Rattle.command_words.specs.declared.words.Question.TheVariants.{Asks}
use Rattle.campaign_main.specs.declared.exit.Exit.{Exit}
use Rattle.campaign_main.specs.declared.exit.Exit.TheVariants.{Refused}
use Rattle.campaign_main.specs.declared.following.FollowFault.{FollowFault}
use Rattle.campaign_main.specs.declared.following.FollowFault.TheVariants as follow
use Rattle.campaign_main.specs.declared.told.Told.{Told}
use Rattle.campaign_main.specs.Commands.{Refusal}
use Rattle.campaign_main.specs.Ends.{RefusesWith}
use Rattle.campaign_main.specs.Following.{AreLooks, IsOfLines, Look, lines_with, told_text}
use Rattle.campaign_main.specs.QuestionNotes.{question_notes}
use Rattle.campaign_main.specs.Questions.{IsAnswer, IsNotAnswered, IsUnanswered, Subject, subject_of}

-- The text is that of the lines.
abbrev pub IsOfItsLines : Told → Type 0
IsOfItsLines told = told.text.items ≡ concat told.lines.keys

-- The sink took this text since it held what `start` is, whether it reveals its bytes or not.
abbrev pub since : Option (List ℕ) → Change → Change
since start w = record { old = start; new = w.new; failed = w.failed }

-- Why lines of a text weren't written behind these. If the output failed, a part of all lines was.
abbrev pub TellFails : List (List ℕ) → List ℕ → Change → QuestionFault → Type 0
TellFails lines text w (fault.Outside (outside.Campaign (campaign.Write n))) =
    (start : Option (List ℕ)) → Appends start w.old (concat lines) → WritesPart (concat (lines_with lines text)) n (since start w)
TellFails lines text w why = IsUntouched w × (why ≡ fault.Outside (outside.Campaign campaign.Memory))

-- Why a look at these answers failed, after looks which told these lines. If the output failed, a part of all that was to be written was.
abbrev pub LookFails : Subject → List ℕ → List (List ℕ) → Change → QuestionFault → Type 0
LookFails s answers lines w (fault.Outside (outside.Campaign (campaign.Write n))) =
    (text : List ℕ) × IsAnswer Asks s answers text false
    × ((start : Option (List ℕ)) → Appends start w.old (concat lines) → WritesPart (concat (lines_with lines text)) n (since start w))
LookFails s answers lines w why = IsUntouched w × IsUnanswered Asks s answers why

-- Looks were at answers that grew to `read`, and what they asked for was written.
abbrev pub HaveTold : Subject → List ℕ → List Look → Change → Type 0
HaveTold s read looks w = AreLooks s looks read × WritesWhole (told_text looks) w

-- Why the last look failed, which was at `read`.
abbrev pub FailsAt : Subject → List ℕ → Option (List ℕ) → Change → QuestionFault → Type 0
FailsAt s read rest w (fault.Outside (outside.Campaign (campaign.Write n))) =
    (looks : List Look) × AreLooks s looks read × WritesPart (told_text looks) n w
FailsAt s read rest w why =
    ((looks : List Look) × HaveTold s read looks w) × IsUnanswered Asks s read why × (IsOfLines read ⊎ IsAtEnd rest)

-- Why following came to no end.
abbrev pub FailsFollow : Subject → List ℕ → Option (List ℕ) → Change → FollowFault → Type 0
FailsFollow s read rest w (follow.Question why) = FailsAt s read rest w why
FailsFollow s read rest w (follow.Unread why) = (looks : List Look) × HaveTold s read looks w

-- What following came to, when `read` was read of the answers and `rest` is left: the notes on the last look, or a fault.
abbrev pub ComesToFollow : {A : Type 0} → Subject → List ℕ → Option (List ℕ) → Change → Result (String A) FollowFault → Type 0
ComesToFollow s read rest w (Ok notes) =
    (text : List ℕ) × (earlier : List Look) × HaveTold s read (record { answers = read; text = text } ∷ earlier) w × ((text ≡ []) ⊎ IsAtEnd rest)
    × (string_bytes notes ≡ question_notes Asks s.0 s.1 read)
ComesToFollow s read rest w (Err why) = FailsFollow s read rest w why

-- What settings came to is refused, and this end says why, whatever was to be asked.
abbrev pub IsRefusedSubject : Result Subject Refusal → Exit → Change → Type 0
IsRefusedSubject read end w = (question : Question) → (known : Option (List ℕ)) → end ≡ Refused
    → IfSome known (λ answers. IsNotAnswered question read answers w)

-- The same for settings of which these bytes are known.
abbrev pub IsNoSubject : Option (List ℕ) → Exit → Change → Type 0
IsNoSubject given end w = (question : Question) → (known : Option (List ℕ)) → end ≡ Refused
    → IfSome given (λ bytes. IfSome known (λ answers. IsNotAnswered question (subject_of bytes) answers w))

-- The end refuses with some line, or memory was refused.
abbrev pub RefusesSome : Exit → Change → Type 0
RefusesSome end w = (line : List ℕ) × RefusesWith line end w
