-- How a command ends, by its answer and by what it wrote.
use Rattle.std.specs.Prelude.{◌≡◌, ◌⊎◌, ◌∷◌, [], ℕ, true, false, List, Option, IfSome, Result, Ok, Err, IsErrAnd, IsOkAnd, string_bytes}
use Rattle.scenario_grammar.specs.declared.fault.ScenarioFault.TheVariants as scenario
use Rattle.scenario_values.specs.Scenario.{Entries}
use Rattle.campaign_core.specs.Writes.{Change, IsUntouched, WritesPart, WritesWhole}
use Rattle.campaign_core.specs.declared.ending.CampaignFault.TheVariants as campaign
use Rattle.command_words.specs.Words.{AsksToSee}
use Rattle.command_words.specs.declared.words.Order.{Order}
use Rattle.command_words.specs.declared.words.WordsFault.{WordsFault}
use Rattle.campaign_main.specs.declared.exit.Answered.{Answered}
use Rattle.campaign_main.specs.declared.exit.Exit.{Exit}
use Rattle.campaign_main.specs.declared.exit.Exit.TheVariants.{Kept, Found, Refused, Memory, Write, Doubted}
use Rattle.campaign_main.specs.declared.exit.Conclusion.{Conclusion}
use Rattle.campaign_main.specs.declared.exit.Conclusion.TheVariants.{Clean, Failed, Doubtful}
use Rattle.campaign_main.specs.declared.fault.CommandFault.{CommandFault}
use Rattle.campaign_main.specs.declared.fault.CommandFault.TheVariants.{Scenario, Plan, Campaign, Unlawful, Outside, OutsideWithDepth}
use Rattle.campaign_main.specs.Exit.{exit_of}
use Rattle.campaign_main.specs.Commands.{Answer, Refusal, bad_scenario, no_plan, outside_target, outside_with_depth, too_many_plans}
use Rattle.campaign_main.specs.Notes.{MayNote}
use Rattle.campaign_main.specs.FaultLines.{cut_off_line, memory_line, refusal_line, scenario_line, unreadable_line}

-- The answer's whole text was written, and this is what it comes to.
abbrev pub IsWritten : Answer → Change → Conclusion → Type 0
IsWritten answer w found = IsOkAnd answer (λ a. WritesWhole a.0 w × (a.1 ≡ found))

-- This many bytes of the answer's text were written, fewer than all, and then the output failed.
abbrev pub IsCutOff : Answer → Change → ℕ → Type 0
IsCutOff answer w written = IsOkAnd answer (λ a. WritesPart a.0 written w)

-- What an end says of the output. At Kept, Found and Doubted the whole text was written, and comes to this; at Write a part of it was; at Refused and
-- Memory nothing was.
abbrev pub EndsAs : Exit → Answer → Change → Type 0
EndsAs Kept answer w = IsWritten answer w Clean
EndsAs Found answer w = IsWritten answer w Failed
EndsAs Doubted answer w = IsWritten answer w Doubtful
EndsAs Refused answer w = IsUntouched w
EndsAs Memory answer w = IsUntouched w
EndsAs (Write written) answer w = IsCutOff answer w written

-- What an end says of the output, whatever was read. The output has failed at Write and only there; at Refused and Memory nothing was written.
abbrev pub Leaves : Exit → Change → Type 0
Leaves Kept w = w.failed ≡ false
Leaves Found w = w.failed ≡ false
Leaves Doubted w = w.failed ≡ false
Leaves Refused w = IsUntouched w
Leaves Memory w = IsUntouched w
Leaves (Write written) w = w.failed ≡ true

-- The claim holds if the end says that the whole text was written.
abbrev pub OnWhole : Exit → Type 0 → Type 0
OnWhole Kept claim = claim
OnWhole Found claim = claim
OnWhole Doubted claim = claim
OnWhole _ claim = Unit {0}

-- ---- a command over a target

-- What a command's fault says: what was written, and which refusal the answer is. A proved target breaks no law.
abbrev pub FallsShort : Answer → Change → CommandFault → Type 0
FallsShort answer w (Scenario scenario.Memory) = IsUntouched w
FallsShort answer w (Scenario (scenario.Bad kind entry term)) =
    IsUntouched w × (answer ≡ Err (bad_scenario (record { kind = kind; entry = entry; term = term })))
FallsShort answer w (Plan number) = IsUntouched w × (answer ≡ Err (no_plan number))
FallsShort answer w (Campaign campaign.TooManyPlans) = IsUntouched w × (answer ≡ Err too_many_plans)
FallsShort answer w (Campaign campaign.Memory) = IsUntouched w
FallsShort answer w (Campaign (campaign.Write written)) = IsCutOff answer w written
FallsShort answer w (Unlawful line) = ⊥
FallsShort answer w Outside = IsUntouched w × (answer ≡ Err outside_target)
FallsShort answer w OutsideWithDepth = IsUntouched w × (answer ≡ Err outside_with_depth)

-- The fault says why a command takes no scenario.
abbrev pub IsUntaken : Result (ℕ × Entries) Refusal → CommandFault → Type 0
IsUntaken taken (Scenario scenario.Memory) = Unit {0}
IsUntaken taken (Scenario (scenario.Bad kind entry term)) = taken ≡ Err (bad_scenario (record { kind = kind; entry = entry; term = term }))
IsUntaken taken (Plan number) = taken ≡ Err (no_plan number)
IsUntaken taken (Campaign campaign.TooManyPlans) = taken ≡ Err too_many_plans
IsUntaken taken (Campaign campaign.Memory) = Unit {0}
IsUntaken taken (Campaign (campaign.Write written)) = ⊥
IsUntaken taken (Unlawful line) = ⊥
IsUntaken taken Outside = ⊥
IsUntaken taken OutsideWithDepth = ⊥

-- The answer has a text with these notes.
abbrev pub HasNotes : Answer → List ℕ → Type 0
HasNotes answer notes = IsOkAnd answer (λ a. notes ≡ a.2)

-- What a command came to: the whole text was written, with what it comes to and its notes; or there was a fault.
abbrev pub ComesTo : Answer → Change → Result Answered CommandFault → Type 0
ComesTo answer w (Ok done) = IsWritten answer w done.conclusion × HasNotes answer (string_bytes done.notes)
ComesTo answer w (Err fault) = FallsShort answer w fault

-- ---- lines on the sink of faults

-- The whole line was written, or a part of it before the sink failed.
abbrev pub IsTold : List ℕ → Change → Type 0
IsTold line w = WritesWhole line w ⊎ ((written : ℕ) × WritesPart line written w)

-- The notes were written, or a part of them before the sink failed. If there are none, nothing was written.
abbrev pub IsNoted : List ℕ → Change → Type 0
IsNoted [] w = IsUntouched w
IsNoted (byte ∷ more) w = IsTold (byte ∷ more) w

-- The answer has a text, and the notes on it were written.
abbrev pub TellsNotes : Answer → Change → Type 0
TellsNotes answer w = IsOkAnd answer (λ a. IsNoted a.2 w)

-- Notes that the order may have were written.
abbrev pub TellsANote : Order → Change → Type 0
TellsANote order w = (notes : List ℕ) × MayNote order notes × IsNoted notes w

-- The answer is a refusal, and its line was written.
abbrev pub TellsRefusal : Answer → Change → Type 0
TellsRefusal answer w = IsErrAnd answer (λ refusal. IsTold (refusal_line refusal) w)

-- The answer is a refusal and its line was written, or the line was written which says that the settings couldn't be read.
abbrev pub IsRefused : Answer → Change → Type 0
IsRefused answer w = TellsRefusal answer w ⊎ IsTold unreadable_line w

-- The line of some refusal was written, or the one which says that the settings couldn't be read.
abbrev pub TellsARefusal : Change → Type 0
TellsARefusal w = ((refusal : Refusal) × IsTold (refusal_line refusal) w) ⊎ IsTold unreadable_line w

-- What an end says of the sink of faults: `noted` if the whole text was written, `refusal` if the command was refused, or else one line.
abbrev pub TellsOf : Type 0 → Type 0 → Exit → Change → Type 0
TellsOf noted refusal Kept w = noted
TellsOf noted refusal Found w = noted
TellsOf noted refusal Doubted w = noted
TellsOf noted refusal Refused w = refusal
TellsOf noted refusal Memory w = IsTold memory_line w
TellsOf noted refusal (Write written) w = IsTold (cut_off_line written) w

-- The same for a text without notes.
abbrev pub TellsBy : Type 0 → Exit → Change → Type 0
TellsBy refusal end w = TellsOf (IsUntouched w) refusal end w

-- The same for a command, by its answer.
abbrev pub TellsAs : Exit → Answer → Change → Type 0
TellsAs end answer w = TellsOf (TellsNotes answer w) (TellsRefusal answer w) end w

-- The same for a command, whatever was read: some notes that the order may have, or the line of some refusal.
abbrev pub Tells : Order → Exit → Change → Type 0
Tells order end w = TellsOf (TellsANote order w) (TellsARefusal w) end w

-- The command was refused and this line was written, or memory was refused and the line that says so was written.
abbrev pub RefusesWith : List ℕ → Exit → Change → Type 0
RefusesWith line Refused w = IsTold line w
RefusesWith line Memory w = IsTold memory_line w
RefusesWith line _ w = ⊥

-- How a command ends after a fault, and which line was written. The line on a scenario or a plan takes memory, which may be refused.
abbrev pub IsEndOf : CommandFault → Exit → Change → Type 0
IsEndOf (Scenario scenario.Memory) end w = (end ≡ Memory) × IsTold memory_line w
IsEndOf (Scenario (scenario.Bad kind entry term)) end w =
    RefusesWith (scenario_line (scenario.Bad kind entry term)) end w
IsEndOf (Plan number) end w = RefusesWith (refusal_line (no_plan number)) end w
IsEndOf (Campaign campaign.TooManyPlans) end w = (end ≡ Refused) × IsTold (refusal_line too_many_plans) w
IsEndOf (Campaign campaign.Memory) end w = (end ≡ Memory) × IsTold memory_line w
IsEndOf (Campaign (campaign.Write written)) end w = (end ≡ Write written) × IsTold (cut_off_line written) w
IsEndOf (Unlawful line) end w = (end ≡ Refused) × IsTold (string_bytes line) w
IsEndOf Outside end w = (end ≡ Refused) × IsTold (refusal_line outside_target) w
IsEndOf OutsideWithDepth end w = (end ≡ Refused) × IsTold (refusal_line outside_with_depth) w

-- How a command ends by what it came to, and what was written to the sink of faults.
abbrev pub IsEndOfCommand : Result Answered CommandFault → Exit → Change → Type 0
IsEndOfCommand (Ok done) end w = (end ≡ exit_of done.conclusion) × IsNoted (string_bytes done.notes) w
IsEndOfCommand (Err fault) end w = IsEndOf fault end w

-- ---- by the bytes of the settings, if contracts see them

-- What an end says of the output.
abbrev pub EndsBy : (List ℕ → Answer) → Option (List ℕ) → Exit → Change → Type 0
EndsBy answer settings end w = IfSome settings (λ bytes. EndsAs end (answer bytes) w)

-- If the whole text was written, the notes on it were written.
abbrev pub NotesBy : (List ℕ → Answer) → Option (List ℕ) → Exit → Change → Type 0
NotesBy answer settings end w = OnWhole end (IfSome settings (λ bytes. TellsNotes (answer bytes) w))

-- If the command was refused, the answer says why, or the settings couldn't be read.
abbrev pub RefusesBy : (List ℕ → Answer) → Option (List ℕ) → Exit → Change → Type 0
RefusesBy answer settings end w = end ≡ Refused → IfSome settings (λ bytes. IsRefused (answer bytes) w)

-- ---- words

-- How the program ends if its words are no command with its settings. If they ask for help or the version, this was written, or a part of it before
-- the output failed. Otherwise nothing was written to the output. The texts are those of clap, which has no definition of them.
abbrev pub EndsWords : Exit → WordsFault → Change → Type 0
EndsWords Kept fault w = AsksToSee fault × ((help : List ℕ) × WritesWhole help w)
EndsWords Found fault w = ⊥
EndsWords Doubted fault w = ⊥
EndsWords Refused fault w = (¬ AsksToSee fault) × IsUntouched w
EndsWords Memory fault w = IsUntouched w
EndsWords (Write written) fault w = AsksToSee fault × ((help : List ℕ) × WritesPart help written w)

-- What such an end says of the sink of faults. If the words were refused, some lines were written.
abbrev pub TellsWords : Exit → Change → Type 0
TellsWords end w = TellsBy ((lines : List ℕ) × IsTold lines w) end w
