use Rattle.file_replace.proofs.Kept.{late_sync_renamed_alone, late_sync_without_the_first_chunk, sound_renamed_unnamed}
use Rattle.file_replace.proofs.laws.a_kept_rename_shows_late_sync.Goals as goal

pub returns : goal.returns
returns c = record { renamed = late_sync_renamed_alone; chunk = late_sync_without_the_first_chunk; sound = sound_renamed_unnamed }
