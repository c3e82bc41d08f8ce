-- The workload, and the scenarios that a flawed commit fails. They are the smallest that a campaign finds and reduces to.
use Rattle.std.specs.Prelude.{[], ◌∷◌, Some, None, codes}
use Rattle.scenario_values.specs.Scenario.{Entries}
use Rattle.target_trait.specs.Failing.{fails, fails_once}
use Rattle.commit_target.specs.declared.work.Vote.TheVariants.{Yes}
use Rattle.commit_target.specs.Work.{Work}

-- One transaction of two participants that both wish yes.
abbrev pub both_wish_yes : Work
both_wish_yes = record { participants = 2; transactions = (Yes ∷ Yes ∷ []) ∷ [] }

-- The outcome is lost on its way to the first participant.
abbrev pub first_outcome_is_lost : Entries
first_outcome_is_lost = fails_once (codes "commit::send_outcome") ∷ []

-- The outcome is lost on its way to each participant.
abbrev pub each_outcome_is_lost : Entries
each_outcome_is_lost = fails (codes "commit::send_outcome") None ∷ []

-- Both tries to force the commit record fail, and the outcome is lost on its way to the first participant.
abbrev pub no_commit_record : Entries
no_commit_record = fails (codes "commit::force_commit") (Some 2) ∷ first_outcome_is_lost
