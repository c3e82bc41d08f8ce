-- The meaning of the value of a single key, by its kind and range.
use Rattle.std.specs.Prelude.{◌&&◌, ℕ, ℤ, pos, negsuc, Bool, List, [], length, Option, Some, None, Result, Ok, Err, codes, nat_le, if◌then◌else◌}
use Rattle.std.specs.Option.{option_map_or}
use Rattle.std.specs.Result.{result_map_both}
use Rattle.std.specs.Str.{bytes_eq}
use Rattle.toml.specs.Data.{Data, Members, as_array, as_bool, as_integer, as_str, as_table}
use Rattle.campaign_settings.specs.Keys.{Text}
use Rattle.campaign_settings.specs.Lists.{each, lists_in, texts_in}
use Rattle.campaign_settings.specs.declared.keys.KeyFault.{KeyFault}
use Rattle.campaign_settings.specs.declared.keys.KeyFault.TheVariants.{Missing, WrongType, OutOfRange}
use Rattle.campaign_settings.specs.declared.keys.TargetName.{TargetName}
use Rattle.campaign_settings.specs.declared.keys.TargetName.TheVariants.{Replace, Maildir, Commit, Outside}
use Rattle.file_replace.specs.declared.variant.Variant.TheVariants as replace
use Rattle.maildir_target.specs.declared.variant.Variant.TheVariants as maildir
use Rattle.commit_target.specs.declared.variant.Variant.TheVariants as commit
use Rattle.campaign_settings.specs.declared.choice.Setup.{Setup}
use Rattle.campaign_settings.specs.declared.choice.Setup.TheVariants as setup

-- What f makes of a value, or the fault that its type is wrong.
abbrev pub typed : {X Y : Type 0} → (X → Result Y KeyFault) → Option X → Result Y KeyFault
typed f o = option_map_or f o (Err WrongType)

-- A number from low to high; and below, what it is if the key is missing.
abbrev pub within : ℕ → ℕ → ℕ → Result ℕ KeyFault
within low high n = if nat_le low n && nat_le n high then Ok n else Err OutOfRange

abbrev pub in_range : ℕ → ℕ → ℤ → Result ℕ KeyFault
in_range low high (pos n) = within low high n
in_range low high (negsuc n) = Err OutOfRange

abbrev pub number_at : Result ℕ KeyFault → ℕ → ℕ → Option Data → Result ℕ KeyFault
number_at missing low high None = missing
number_at missing low high (Some d) = typed (in_range low high) (as_integer d)

-- The same for a number that may be missing.
abbrev pub optional_at : ℕ → ℕ → Option Data → Result (Option ℕ) KeyFault
optional_at low high None = Ok None
optional_at low high (Some d) = result_map_both (λ n. Some n) (λ fault. fault) (number_at (Err Missing) low high (Some d))

abbrev pub boolean_at : Bool → Option Data → Result Bool KeyFault
boolean_at missing None = Ok missing
boolean_at missing (Some d) = typed (λ b. Ok b) (as_bool d)

-- One of the targets.
abbrev pub target_named : Text → Result TargetName KeyFault
target_named name = if bytes_eq name (codes "replace") then Ok Replace
    else (if bytes_eq name (codes "maildir") then Ok Maildir
    else (if bytes_eq name (codes "commit") then Ok Commit
    else (if bytes_eq name (codes "outside") then Ok Outside else Err OutOfRange)))

abbrev pub target_at : Option Data → Result TargetName KeyFault
target_at None = Err Missing
target_at (Some d) = typed target_named (as_str d)

-- One of the target's variants. It is `sound` if none is given.
abbrev pub replace_named : Text → Result Setup KeyFault
replace_named name = if bytes_eq name (codes "sound") then Ok (setup.Replace replace.Sound)
    else (if bytes_eq name (codes "late_sync") then Ok (setup.Replace replace.LateSync)
    else (if bytes_eq name (codes "ignore_sync") then Ok (setup.Replace replace.IgnoreSync)
    else (if bytes_eq name (codes "retry_write") then Ok (setup.Replace replace.RetryWrite)
    else (if bytes_eq name (codes "rename_first") then Ok (setup.Replace replace.RenameFirst)
    else (if bytes_eq name (codes "in_place") then Ok (setup.Replace replace.InPlace) else Err OutOfRange)))))

abbrev pub maildir_named : Text → Result Setup KeyFault
maildir_named name = if bytes_eq name (codes "sound") then Ok (setup.Maildir maildir.Sound)
    else (if bytes_eq name (codes "link_first") then Ok (setup.Maildir maildir.LinkFirst)
    else (if bytes_eq name (codes "ignore_write") then Ok (setup.Maildir maildir.IgnoreWrite)
    else (if bytes_eq name (codes "append_tmp") then Ok (setup.Maildir maildir.AppendTmp)
    else (if bytes_eq name (codes "deliver_in_new") then Ok (setup.Maildir maildir.DeliverInNew) else Err OutOfRange))))

abbrev pub commit_named : Text → Result Setup KeyFault
commit_named name = if bytes_eq name (codes "sound") then Ok (setup.Commit commit.Sound)
    else (if bytes_eq name (codes "lazy_prepare") then Ok (setup.Commit commit.LazyPrepare)
    else (if bytes_eq name (codes "early_end") then Ok (setup.Commit commit.EarlyEnd)
    else (if bytes_eq name (codes "two_tries") then Ok (setup.Commit commit.TwoTries)
    else (if bytes_eq name (codes "end_first") then Ok (setup.Commit commit.EndFirst) else Err OutOfRange))))

-- An outside target has no variants: its settings have no such key.
abbrev pub setup_named : TargetName → Text → Result Setup KeyFault
setup_named Replace name = replace_named name
setup_named Maildir name = maildir_named name
setup_named Commit name = commit_named name
setup_named Outside name = Ok setup.Outside

abbrev pub setup_at : TargetName → Option Data → Result Setup KeyFault
setup_at target None = setup_named target (codes "sound")
setup_at target (Some d) = typed (setup_named target) (as_str d)

-- A value that is in its range.
abbrev pub ranged : {X : Type 0} → (X → Bool) → X → Result X KeyFault
ranged fits x = if fits x then Ok x else Err OutOfRange

-- A list of up to `most` members.
abbrev pub at_most : {X : Type 0} → ℕ → List X → Result (List X) KeyFault
at_most most xs = if nat_le (length xs) most then Ok xs else Err OutOfRange

-- Up to `most` texts. If there is no list, there are none.
abbrev pub texts_at : ℕ → Option Data → Result (List Text) KeyFault
texts_at most None = Ok []
texts_at most (Some d) = typed (λ ds. typed (at_most most) (texts_in ds)) (as_array d)

-- A text of up to `most` bytes, which is required.
abbrev pub text_at : ℕ → Option Data → Result Text KeyFault
text_at most None = Err Missing
text_at most (Some d) = typed (at_most most) (as_str d)

-- Values that are each in their range, and whose list as a whole is in its range too.
abbrev pub in_ranges : {X Y : Type 0} → (Y → Option X) → (List X → Result (List X) KeyFault) → List Y → Result (List X) KeyFault
in_ranges f together ys = option_map_or together (each f ys) (Err OutOfRange)

-- Up to `most` lists of texts, each in its range, which are required. The types of all are checked before any range.

abbrev pub lists_at : {X : Type 0} → (List Text → Option X) → ℕ → Option Data → Result (List X) KeyFault
lists_at f most None = Err Missing
lists_at f most (Some d) = typed (λ ds. typed (in_ranges f (at_most most)) (lists_in ds)) (as_array d)

-- A table, which is required.
abbrev pub table_at : Option Data → Result Members KeyFault
table_at None = Err Missing
table_at (Some d) = typed (λ ms. Ok ms) (as_table d)
