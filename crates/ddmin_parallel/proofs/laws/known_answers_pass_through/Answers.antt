use Rattle.ddmin_parallel.proofs.Walk.{whole, passes_through}
use Rattle.ddmin_parallel.proofs.laws.known_answers_pass_through.Goals as goal

pub returns : goal.returns
returns c = record { whole = whole; passes = passes_through }
