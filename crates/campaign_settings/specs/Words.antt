-- The words of a target that a program brings itself, as contracts see them, and how to find one of them.
use Rattle.std.specs.Prelude.{List, [], ◌∷◌, Option, Some, None, if◌then◌else◌}
use Rattle.std.specs.Str.{bytes_eq}
use Rattle.campaign_settings.specs.Keys.{Text}
use Rattle.campaign_settings.specs.declared.own.OwnValue.{OwnValue}
use Rattle.campaign_settings.specs.declared.own.OwnWord.{OwnWord}

-- The variant that is named, and the table `own`.
pub record Words : Type 0 where
  pub variant : Option Text
  pub table : List OwnWord

-- The value of the word with this name.
abbrev pub word_at : Text → List OwnWord → Option OwnValue
word_at name [] = None
word_at name (w ∷ ws) = if bytes_eq w.name name then Some w.value else word_at name ws
