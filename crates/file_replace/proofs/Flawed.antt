-- Why the flawed variants fail: each by one run, worked out.
use Rattle.std.proofs.Common.{◌≡◌, ℕ, [], Some, refl}
use Rattle.std.specs.Prelude.{codes}
use Rattle.action_eval.specs.Answers.{given_of}
use Rattle.target_trait.specs.Outcomes.{play, outcome}
use Rattle.target_trait.specs.declared.judgement.Verdict.TheVariants.{Fail}
use Rattle.file_replace.specs.declared.variant.Variant.TheVariants.{LateSync, IgnoreSync, RetryWrite}
use Rattle.file_replace.specs.Words.{point_names, torn, stale}
use Rattle.file_replace.specs.Steps.{asks_of}
use Rattle.file_replace.specs.Flaws.{old_to_new, empty_to_new, sync_fails, write_fails, left_by}

pub late_sync_is_torn : (seed stream : ℕ) → (outcome (asks_of LateSync old_to_new) (given_of sync_fails point_names seed stream 1000)).verdict ≡ Fail torn
unfolding play
late_sync_is_torn seed stream = refl

pub retry_write_is_torn : (seed stream : ℕ) → (outcome (asks_of RetryWrite old_to_new) (given_of write_fails point_names seed stream 1000)).verdict ≡ Fail torn
unfolding play
retry_write_is_torn seed stream = refl

pub ignore_sync_is_stale : (seed stream : ℕ) → (outcome (asks_of IgnoreSync empty_to_new) (given_of sync_fails point_names seed stream 1000)).verdict ≡ Fail stale
unfolding play
ignore_sync_is_stale seed stream = refl

pub late_sync_leaves : (seed stream : ℕ) → left_by LateSync old_to_new (given_of sync_fails point_names seed stream 1000) ≡ Some []
unfolding play
late_sync_leaves seed stream = refl

pub retry_write_leaves : (seed stream : ℕ) → left_by RetryWrite old_to_new (given_of write_fails point_names seed stream 1000) ≡ Some (codes "nnew")
unfolding play
retry_write_leaves seed stream = refl

pub ignore_sync_leaves : (seed stream : ℕ) → left_by IgnoreSync empty_to_new (given_of sync_fails point_names seed stream 1000) ≡ Some []
unfolding play
ignore_sync_leaves seed stream = refl
