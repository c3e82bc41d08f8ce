-- What a power cut that keeps the end record shows of end_first: worked out.
use Rattle.std.proofs.Common.{◌≡◌, ℕ, refl}
use Rattle.scenario_values.specs.Scenario.{Entries}
use Rattle.action_eval.specs.Answers.{given_of}
use Rattle.target_trait.specs.Outcomes.{play, outcome}
use Rattle.target_trait.specs.Cuts.{with_keep, asks_with}
use Rattle.target_trait.specs.declared.judgement.Verdict.{Verdict}
use Rattle.target_trait.specs.declared.judgement.Verdict.TheVariants.{Fail, Pass}
use Rattle.commit_target.specs.declared.variant.Variant.TheVariants.{EndFirst}
use Rattle.commit_target.specs.Words.{point_names, split, lost}
use Rattle.commit_target.specs.Steps.{asks_of}
use Rattle.commit_target.specs.Flaws.{both_wish_yes, first_outcome_is_lost}
use Rattle.commit_target.specs.Crash.{cut_of, outcome_lost_end_kept, outcome_never_sent_end_kept, outcome_never_sent}

abbrev ComesTo : Entries → Verdict → Type 0
ComesTo scenario verdict = (seed stream : ℕ)
    → (outcome (asks_with (asks_of EndFirst both_wish_yes) (cut_of EndFirst both_wish_yes) 7) (given_of scenario (with_keep point_names) seed stream 1000)).verdict ≡ verdict

pub end_kept_is_split : ComesTo outcome_lost_end_kept (Fail split)
unfolding play
end_kept_is_split seed stream = refl

pub end_kept_is_lost : ComesTo outcome_never_sent_end_kept (Fail lost)
unfolding play
end_kept_is_lost seed stream = refl

pub end_lost_passes : ComesTo first_outcome_is_lost Pass
unfolding play
end_lost_passes seed stream = refl

pub outcome_never_sent_passes : ComesTo outcome_never_sent Pass
unfolding play
outcome_never_sent_passes seed stream = refl
