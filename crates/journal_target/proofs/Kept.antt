-- What a power cut that keeps some writes shows of one_sync: worked out.
use Rattle.std.proofs.Common.{◌≡◌, ℕ, refl}
use Rattle.action_eval.specs.Answers.{given_of}
use Rattle.target_trait.specs.Outcomes.{play, outcome}
use Rattle.target_trait.specs.Cuts.{with_keep, asks_with}
use Rattle.target_trait.specs.declared.judgement.Verdict.TheVariants.{Fail, Pass}
use Rattle.journal_target.specs.declared.variant.Variant.TheVariants.{OneSync}
use Rattle.journal_target.specs.Words.{point_names, torn}
use Rattle.journal_target.specs.Crash.{asks_of, cut_of, two_records, sync_panics, commit_alone}

pub one_sync_commit_alone : (seed stream : ℕ)
    → (outcome (asks_with (asks_of OneSync two_records) (cut_of OneSync two_records) 3) (given_of commit_alone (with_keep point_names) seed stream 1000)).verdict ≡ Fail torn
unfolding play
one_sync_commit_alone seed stream = refl

pub one_sync_loses_all : (seed stream : ℕ)
    → (outcome (asks_with (asks_of OneSync two_records) (cut_of OneSync two_records) 3) (given_of sync_panics (with_keep point_names) seed stream 1000)).verdict ≡ Pass
unfolding play
one_sync_loses_all seed stream = refl
