-- The line of each refusal of settings, without its line feed. The lines are this project's own.
use Rattle.std.specs.Prelude.{◌++◌, codes, string_bytes}
use Rattle.std.specs.Fmt.{decimal}
use Rattle.scenario_grammar.specs.FaultText.{kind_text}
use Rattle.campaign_settings.specs.Keys.{Text, full_name, key_name}
use Rattle.campaign_settings.specs.declared.fault.SettingsFault.{SettingsFault}
use Rattle.campaign_settings.specs.declared.fault.SettingsFault.TheVariants.{TooLong, NotToml, UnknownKey, Missing, WrongType, OutOfRange, Scenario, Memory}

abbrev pub line_of : SettingsFault → Text
line_of TooLong = codes "settings: too long"
line_of NotToml = codes "settings: not TOML"
line_of (UnknownKey place name) = codes "settings: unknown key " ++ full_name place (string_bytes name)
line_of (Missing key) = codes "settings: missing " ++ key_name key
line_of (WrongType key) = codes "settings: wrong type " ++ key_name key
line_of (OutOfRange key) = codes "settings: out of range " ++ key_name key
line_of (Scenario number kind entry term) = codes "settings: scenario " ++ (decimal number
    ++ (codes ": " ++ (kind_text kind ++ (codes " entry " ++ (decimal entry
    ++ (codes " term " ++ decimal term))))))
line_of Memory = codes "no memory"
