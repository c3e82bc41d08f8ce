-- The meaning of a settings text for a program that brings its own target. Such settings have no key about the target; if the target takes words,
-- they have a variant and a table `own`.
use Rattle.std.specs.Prelude.{Option, Some, None, List, [], Result, Ok, codes, option_map}
use Rattle.toml.specs.Data.{Data, string, integer, float, boolean, datetime, array, table, Members, member, no_members, as_str, as_table, get_member}
use Rattle.campaign_given.specs.Given.{Given, read_from}
use Rattle.campaign_settings.specs.Keys.{Text}
use Rattle.campaign_settings.specs.Lists.{before}
use Rattle.campaign_settings.specs.Values.{typed}
use Rattle.campaign_settings.specs.Settings.{Read, after, campaign_of, keyed, known_in, members_of, planning_in, running_in, spelled_at}
use Rattle.campaign_settings.specs.declared.keys.Key.TheVariants as key
use Rattle.campaign_settings.specs.declared.keys.KeyFault.{KeyFault}
use Rattle.campaign_settings.specs.declared.keys.Place.TheVariants.{Own, Worded}
use Rattle.campaign_settings.specs.declared.own.OwnSettings.{OwnSettings}
use Rattle.campaign_settings.specs.declared.own.OwnValue.{OwnValue}
use Rattle.campaign_settings.specs.declared.own.OwnValue.TheVariants as value
use Rattle.campaign_settings.specs.declared.own.OwnWord.{OwnWord}

-- What a campaign is given apart from its target, or the first fault in the order in which faults are looked for.
abbrev pub given_in : Members → Read Given
given_in ms =
    after (running_in ms) (λ running.
    after (planning_in ms) (λ planning.
    after (spelled_at (get_member (codes "scenarios") ms)) (λ scenarios.
    Ok (campaign_of running planning scenarios))))

-- The settings for a target without words. Unknown keys are looked for first.
abbrev pub own_settings_in : Members → Read Given
own_settings_in ms = after (known_in Own ms) (λ _. given_in ms)

-- The settings of a text, or its first fault.
abbrev pub own_settings_of : Text → Read Given
own_settings_of text = after (after (members_of text) own_settings_in) (λ given. Ok (read_from text given))

-- ---- words

-- The value of a word: a text, a whole number or a flag. No other value is allowed.
abbrev pub own_value : Data → Option OwnValue
own_value (string text) = Some (value.Text text)
own_value (integer number) = Some (value.Number number)
own_value (boolean flag) = Some (value.Flag flag)
own_value (float x) = None
own_value (datetime x) = None
own_value (array x) = None
own_value (table x) = None

abbrev pub own_word : Text → Data → Option OwnWord
own_word name d = option_map (λ v. record { name = name; value = v }) (own_value d)

-- All words of a table, in its order; none if a value isn't one of a word.
abbrev pub own_table : Members → Option (List OwnWord)
own_table no_members = Some []
own_table (member name d ms) = before (own_word name d) (own_table ms)

-- The words of the table. If there is no table, there are no words.
abbrev pub words_at : Option Data → Result (List OwnWord) KeyFault
words_at None = Ok []
words_at (Some d) = typed (λ ms. typed (λ words. Ok words) (own_table ms)) (as_table d)

-- The variant, if one is named.
abbrev pub variant_at : Option Data → Result (Option Text) KeyFault
variant_at None = Ok None
variant_at (Some d) = typed (λ name. Ok (Some name)) (as_str d)

-- The settings for a target that takes words. Unknown keys are looked for first, then the variant is checked, and the table last.
abbrev pub worded_settings_in : Members → Read OwnSettings
worded_settings_in ms =
    after (known_in Worded ms) (λ _.
    after (keyed key.Variant (variant_at (get_member (codes "variant") ms))) (λ variant.
    after (given_in ms) (λ campaign.
    after (keyed key.Own (words_at (get_member (codes "own") ms))) (λ words.
    Ok (record { words = record { variant = variant; table = words }; campaign = campaign })))))

-- The settings with the text that they were read from.
abbrev pub worded_from : Text → OwnSettings → OwnSettings
worded_from text s = record { words = s.words; campaign = read_from text s.campaign }

-- The settings of a text with its words, or its first fault.
abbrev pub worded_settings_of : Text → Read OwnSettings
worded_settings_of text = after (after (members_of text) worded_settings_in) (λ s. Ok (worded_from text s))
