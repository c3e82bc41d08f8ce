use Rattle.target_trait.proofs.Verdicts.{outcome_same, verdict_same}
use Rattle.target_trait.proofs.laws.same_meaning_same_outcome.Goals as goal

pub returns-clause-outcome : goal.returns-clause-outcome
returns-clause-outcome c = outcome_same

pub returns-clause-verdicts : goal.returns-clause-verdicts
returns-clause-verdicts c = verdict_same
