use Rattle.file_replace.proofs.Kept.{in_place_unlinked_alone, in_place_loses_all}
use Rattle.file_replace.proofs.laws.a_kept_unlink_shows_in_place.Goals as goal

pub returns : goal.returns
returns c = record { unlinked = in_place_unlinked_alone; lost = in_place_loses_all }
