-- What a power cut that keeps some writes shows of link_first and deliver_in_new: worked out.
use Rattle.std.proofs.Common.{◌≡◌, ℕ, refl}
use Rattle.action_eval.specs.Answers.{given_of}
use Rattle.target_trait.specs.Outcomes.{play, outcome}
use Rattle.target_trait.specs.Cuts.{with_keep, asks_with}
use Rattle.target_trait.specs.declared.judgement.Verdict.TheVariants.{Fail, Pass}
use Rattle.maildir_target.specs.declared.variant.Variant.TheVariants.{Sound, LinkFirst, DeliverInNew}
use Rattle.maildir_target.specs.Words.{point_names, torn}
use Rattle.maildir_target.specs.Steps.{asks_of}
use Rattle.maildir_target.specs.Flaws.{hi, sync_and_unlink_fail}
use Rattle.maildir_target.specs.Crash.{cut_of, write_panics, first_kept, second_kept, unsynced_named, unsynced_kept}

pub link_first_linked_alone : (seed stream : ℕ)
    → (outcome (asks_with (asks_of LinkFirst hi) (cut_of LinkFirst hi) 7) (given_of second_kept (with_keep point_names) seed stream 1000)).verdict ≡ Fail torn
unfolding play
link_first_linked_alone seed stream = refl

pub link_first_loses_all : (seed stream : ℕ)
    → (outcome (asks_with (asks_of LinkFirst hi) (cut_of LinkFirst hi) 7) (given_of write_panics (with_keep point_names) seed stream 1000)).verdict ≡ Pass
unfolding play
link_first_loses_all seed stream = refl

pub sound_keeps_tmp : (seed stream : ℕ)
    → (outcome (asks_with (asks_of Sound hi) (cut_of Sound hi) 7) (given_of second_kept (with_keep point_names) seed stream 1000)).verdict ≡ Pass
unfolding play
sound_keeps_tmp seed stream = refl

pub in_new_named_alone : (seed stream : ℕ)
    → (outcome (asks_with (asks_of DeliverInNew hi) (cut_of DeliverInNew hi) 7) (given_of first_kept (with_keep point_names) seed stream 1000)).verdict ≡ Fail torn
unfolding play
in_new_named_alone seed stream = refl

pub in_new_loses_all : (seed stream : ℕ)
    → (outcome (asks_with (asks_of DeliverInNew hi) (cut_of DeliverInNew hi) 7) (given_of write_panics (with_keep point_names) seed stream 1000)).verdict ≡ Pass
unfolding play
in_new_loses_all seed stream = refl

pub in_new_unsynced_named : (seed stream : ℕ)
    → (outcome (asks_with (asks_of DeliverInNew hi) (cut_of DeliverInNew hi) 7) (given_of unsynced_named (with_keep point_names) seed stream 1000)).verdict ≡ Fail torn
unfolding play
in_new_unsynced_named seed stream = refl

pub in_new_unsynced_lost : (seed stream : ℕ)
    → (outcome (asks_with (asks_of DeliverInNew hi) (cut_of DeliverInNew hi) 7) (given_of sync_and_unlink_fail (with_keep point_names) seed stream 1000)).verdict ≡ Pass
unfolding play
in_new_unsynced_lost seed stream = refl

pub in_new_unsynced_kept : (seed stream : ℕ)
    → (outcome (asks_with (asks_of DeliverInNew hi) (cut_of DeliverInNew hi) 7) (given_of unsynced_kept (with_keep point_names) seed stream 1000)).verdict ≡ Pass
unfolding play
in_new_unsynced_kept seed stream = refl

pub sound_keeps_the_first : (seed stream : ℕ)
    → (outcome (asks_with (asks_of Sound hi) (cut_of Sound hi) 7) (given_of first_kept (with_keep point_names) seed stream 1000)).verdict ≡ Pass
unfolding play
sound_keeps_the_first seed stream = refl
