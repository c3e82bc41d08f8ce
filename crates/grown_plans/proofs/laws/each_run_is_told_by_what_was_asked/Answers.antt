use Rattle.grown_plans.proofs.AskedSites.{goes_onward_by_asked, reaches_by_asked, asked_within}
use Rattle.grown_plans.proofs.laws.each_run_is_told_by_what_was_asked.Goals as goal

pub returns-clause-onward : goal.returns-clause-onward
returns-clause-onward c = goes_onward_by_asked

pub returns-clause-reached : goal.returns-clause-reached
returns-clause-reached c = reaches_by_asked

pub returns-clause-within : goal.returns-clause-within
returns-clause-within c = asked_within
