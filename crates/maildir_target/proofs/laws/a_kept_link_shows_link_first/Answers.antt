use Rattle.maildir_target.proofs.Kept.{link_first_linked_alone, link_first_loses_all, sound_keeps_tmp}
use Rattle.maildir_target.proofs.laws.a_kept_link_shows_link_first.Goals as goal

pub returns : goal.returns
returns c = record { linked = link_first_linked_alone; lost = link_first_loses_all; sound = sound_keeps_tmp }
