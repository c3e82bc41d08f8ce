-- Why the flawed variants fail: each by a run, worked out.
use Rattle.std.proofs.Common.{◌≡◌, ℕ, refl}
use Rattle.action_eval.specs.Answers.{given_of}
use Rattle.target_trait.specs.Outcomes.{play, outcome}
use Rattle.target_trait.specs.declared.judgement.Verdict.TheVariants.{Fail}
use Rattle.commit_target.specs.declared.variant.Variant.TheVariants.{LazyPrepare, EarlyEnd, TwoTries}
use Rattle.commit_target.specs.Words.{point_names, split, lost}
use Rattle.commit_target.specs.Steps.{asks_of}
use Rattle.commit_target.specs.Flaws.{both_wish_yes, first_outcome_is_lost, each_outcome_is_lost, no_commit_record}

pub lazy_prepare_is_split : (seed stream : ℕ)
    → (outcome (asks_of LazyPrepare both_wish_yes) (given_of first_outcome_is_lost point_names seed stream 1000)).verdict ≡ Fail split
unfolding play
lazy_prepare_is_split seed stream = refl

pub lazy_prepare_is_lost : (seed stream : ℕ)
    → (outcome (asks_of LazyPrepare both_wish_yes) (given_of each_outcome_is_lost point_names seed stream 1000)).verdict ≡ Fail lost
unfolding play
lazy_prepare_is_lost seed stream = refl

pub early_end_is_split : (seed stream : ℕ)
    → (outcome (asks_of EarlyEnd both_wish_yes) (given_of first_outcome_is_lost point_names seed stream 1000)).verdict ≡ Fail split
unfolding play
early_end_is_split seed stream = refl

pub two_tries_is_split : (seed stream : ℕ)
    → (outcome (asks_of TwoTries both_wish_yes) (given_of no_commit_record point_names seed stream 1000)).verdict ≡ Fail split
unfolding play
two_tries_is_split seed stream = refl
