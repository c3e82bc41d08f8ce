use Rattle.answered_runs.proofs.EndedRuns.{agrees, is_component}
use Rattle.answered_runs.proofs.laws.ended_runs_have_a_component.Goals as goal

pub returns-clause-component : goal.returns-clause-component
returns-clause-component c = is_component

pub returns-clause-agrees : goal.returns-clause-agrees
returns-clause-agrees c = agrees
