use Rattle.maildir_target.proofs.Kept.{in_new_named_alone, in_new_loses_all, in_new_unsynced_named, in_new_unsynced_lost, in_new_unsynced_kept, sound_keeps_the_first}
use Rattle.maildir_target.proofs.laws.a_kept_name_shows_deliver_in_new.Goals as goal

pub returns : goal.returns
returns c = record {
  named = in_new_named_alone;
  lost = in_new_loses_all;
  unsynced = in_new_unsynced_named;
  unsynced_lost = in_new_unsynced_lost;
  unsynced_kept = in_new_unsynced_kept;
  sound = sound_keeps_the_first;
}
