use Rattle.answered_runs.proofs.SomeComponent.{agreeing}
use Rattle.answered_runs.proofs.laws.agreeing_lines_have_a_component.Goals as goal

pub returns : goal.returns
returns c = agreeing
