-- Why the flawed variants fail: each by one run, worked out.
use Rattle.std.proofs.Common.{◌≡◌, ℕ, refl}
use Rattle.action_eval.specs.Answers.{given_of}
use Rattle.target_trait.specs.Outcomes.{play, outcome}
use Rattle.target_trait.specs.declared.judgement.Verdict.TheVariants.{Fail}
use Rattle.maildir_target.specs.declared.variant.Variant.TheVariants.{LinkFirst, IgnoreWrite, AppendTmp}
use Rattle.maildir_target.specs.Words.{point_names, torn}
use Rattle.maildir_target.specs.Steps.{asks_of}
use Rattle.maildir_target.specs.Flaws.{hi, m, write_fails, sync_and_unlink_fail}

pub link_first_is_torn : (seed stream : ℕ) → (outcome (asks_of LinkFirst hi) (given_of write_fails point_names seed stream 1000)).verdict ≡ Fail torn
unfolding play
link_first_is_torn seed stream = refl

pub ignore_write_is_torn : (seed stream : ℕ) → (outcome (asks_of IgnoreWrite hi) (given_of write_fails point_names seed stream 1000)).verdict ≡ Fail torn
unfolding play
ignore_write_is_torn seed stream = refl

pub append_tmp_is_torn : (seed stream : ℕ) → (outcome (asks_of AppendTmp m) (given_of sync_and_unlink_fail point_names seed stream 1000)).verdict ≡ Fail torn
unfolding play
append_tmp_is_torn seed stream = refl
