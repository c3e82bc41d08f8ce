use Rattle.commit_target.proofs.Kept.{end_kept_is_split, end_kept_is_lost, end_lost_passes, outcome_never_sent_passes}
use Rattle.commit_target.proofs.laws.a_kept_end_shows_end_first.Goals as goal

pub returns : goal.returns
returns c = record { split = end_kept_is_split; lost = end_kept_is_lost; outcome_lost = end_lost_passes; outcome_never_sent = outcome_never_sent_passes }
