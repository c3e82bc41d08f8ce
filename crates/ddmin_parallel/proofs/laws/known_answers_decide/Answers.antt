use Rattle.ddmin_parallel.proofs.Walk.{passes, ends}
use Rattle.ddmin_parallel.proofs.laws.known_answers_decide.Goals as goal

pub returns : goal.returns
returns c = record { leads = passes; ends = ends }
