-- What a power cut that keeps some writes shows of late_sync: worked out.
use Rattle.std.proofs.Common.{◌≡◌, ℕ, refl}
use Rattle.action_eval.specs.Answers.{given_of}
use Rattle.target_trait.specs.Outcomes.{play, outcome}
use Rattle.target_trait.specs.Cuts.{with_keep, asks_with}
use Rattle.target_trait.specs.declared.judgement.Verdict.TheVariants.{Fail, Pass}
use Rattle.file_replace.specs.declared.variant.Variant.TheVariants.{Sound, LateSync, RenameFirst, InPlace}
use Rattle.file_replace.specs.Words.{point_names, torn}
use Rattle.file_replace.specs.Steps.{asks_of}
use Rattle.file_replace.specs.Flaws.{old_to_new, sync_fails}
use Rattle.file_replace.specs.Crash.{cut_of, renamed_alone, renamed_without_the_first_chunk, renamed_unsynced, renamed_unnamed, unlinked_alone, create_fails}

pub late_sync_renamed_alone : (seed stream : ℕ)
    → (outcome (asks_with (asks_of LateSync old_to_new) (cut_of LateSync old_to_new) 7) (given_of renamed_alone (with_keep point_names) seed stream 1000)).verdict ≡ Fail torn
unfolding play
late_sync_renamed_alone seed stream = refl

pub late_sync_without_the_first_chunk : (seed stream : ℕ)
    → (outcome (asks_with (asks_of LateSync old_to_new) (cut_of LateSync old_to_new) 7) (given_of renamed_without_the_first_chunk (with_keep point_names) seed stream 1000)).verdict ≡ Fail torn
unfolding play
late_sync_without_the_first_chunk seed stream = refl

pub sound_renamed_unnamed : (seed stream : ℕ)
    → (outcome (asks_with (asks_of Sound old_to_new) (cut_of Sound old_to_new) 7) (given_of renamed_unnamed (with_keep point_names) seed stream 1000)).verdict ≡ Pass
unfolding play
sound_renamed_unnamed seed stream = refl

pub rename_first_renamed_unsynced : (seed stream : ℕ)
    → (outcome (asks_with (asks_of RenameFirst old_to_new) (cut_of RenameFirst old_to_new) 7) (given_of renamed_unsynced (with_keep point_names) seed stream 1000)).verdict ≡ Fail torn
unfolding play
rename_first_renamed_unsynced seed stream = refl

pub rename_first_loses_all : (seed stream : ℕ)
    → (outcome (asks_with (asks_of RenameFirst old_to_new) (cut_of RenameFirst old_to_new) 7) (given_of sync_fails (with_keep point_names) seed stream 1000)).verdict ≡ Pass
unfolding play
rename_first_loses_all seed stream = refl

pub in_place_unlinked_alone : (seed stream : ℕ)
    → (outcome (asks_with (asks_of InPlace old_to_new) (cut_of InPlace old_to_new) 7) (given_of unlinked_alone (with_keep point_names) seed stream 1000)).verdict ≡ Fail torn
unfolding play
in_place_unlinked_alone seed stream = refl

pub in_place_loses_all : (seed stream : ℕ)
    → (outcome (asks_with (asks_of InPlace old_to_new) (cut_of InPlace old_to_new) 7) (given_of create_fails (with_keep point_names) seed stream 1000)).verdict ≡ Pass
unfolding play
in_place_loses_all seed stream = refl
