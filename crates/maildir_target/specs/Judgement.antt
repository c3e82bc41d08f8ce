-- The judgement of a run, by what the names under `new/` hold after a power cut.
use Rattle.std.specs.Prelude.{ℕ, ◌+◌, Bool, false, ◌||◌, not, if◌then◌else◌, List, [], ◌∷◌, Option, Some, None, is_none, option_map}
use Rattle.std.specs.List.{list_any}
use Rattle.std.specs.Str.{bytes_eq}
use Rattle.sim_device.specs.FileEffects.{Effect, PowerCut, Live, contents, leads}
use Rattle.target_trait.specs.declared.judgement.Judgement.{Judgement}
use Rattle.target_trait.specs.declared.judgement.Judgement.TheVariants.{Kept, Broken}
use Rattle.scenario_values.specs.chunked.Chunks.{joined}
use Rattle.maildir_target.specs.declared.name.Attempt.TheVariants.{First, Second}
use Rattle.maildir_target.specs.Words.{new_name, torn, lost}

-- What is on a device: the file that each name leads to, and what each file holds.
pub record Standing : Type 0 where
  pub leads : ℕ → Option ℕ
  pub contents : ℕ → List ℕ

-- What a name holds, if it leads to a file.
abbrev pub held_in : Standing → ℕ → Option (List ℕ)
held_in s name = option_map s.contents (s.leads name)

-- What is on the device after these effects.
abbrev pub standing : List Effect → Standing
standing effects = record { leads = leads effects Live; contents = contents effects Live }

-- The name exists and holds anything other than these contents.
abbrev pub differs : List ℕ → Option (List ℕ) → Bool
differs whole None = false
differs whole (Some x) = not (bytes_eq x whole)

-- A name of this message under `new/` holds anything other than the whole message.
abbrev pub is_torn : Standing → ℕ → List ℕ → Bool
is_torn s message whole = differs whole (held_in s (new_name message First)) || differs whole (held_in s (new_name message Second))

-- The same for one of these messages, each given by its chunks. They are numbered from this number on.
abbrev pub has_torn : Standing → ℕ → List (List (List ℕ)) → Bool
has_torn s number [] = false
has_torn s number (chunks ∷ more) = is_torn s number (joined chunks) || has_torn s (number + 1) more

-- The message has a name under `new/`.
abbrev pub is_delivered : Standing → ℕ → Bool
is_delivered s message = not (is_none (s.leads (new_name message First))) || not (is_none (s.leads (new_name message Second)))

-- One of the messages with these numbers has no name under `new/`.
abbrev pub has_lost : Standing → List ℕ → Bool
has_lost s messages = list_any (λ message. not (is_delivered s message)) messages

abbrev pub judged_by : Bool → Bool → Judgement
judged_by is_one_torn is_one_lost = if is_one_torn then Broken torn else (if is_one_lost then Broken lost else Kept)

-- A run in which one message is torn and another lost is judged to be torn.
abbrev pub judged_now : List (List (List ℕ)) → List ℕ → Standing → Judgement
judged_now messages acknowledged s = judged_by (has_torn s 1 messages) (has_lost s acknowledged)

-- The judgement of a run with these messages, of which these were acknowledged, by what is on the device after a power cut.
abbrev pub judged : List (List (List ℕ)) → List ℕ → List Effect → Judgement
judged messages acknowledged effects = judged_now messages acknowledged (standing (PowerCut [] ∷ effects))
