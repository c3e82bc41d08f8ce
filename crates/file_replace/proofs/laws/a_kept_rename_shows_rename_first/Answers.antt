use Rattle.file_replace.proofs.Kept.{rename_first_renamed_unsynced, rename_first_loses_all}
use Rattle.file_replace.proofs.laws.a_kept_rename_shows_rename_first.Goals as goal

pub returns : goal.returns
returns c = record { renamed = rename_first_renamed_unsynced; lost = rename_first_loses_all }
