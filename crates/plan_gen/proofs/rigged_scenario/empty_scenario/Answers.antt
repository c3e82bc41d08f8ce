use Rattle.plan_gen.proofs.Rigged.{nothing_keeps}
use Rattle.plan_gen.proofs.rigged_scenario.empty_scenario.Goals as goal

pub from_entries-requires : goal.from_entries-requires
from_entries-requires c = nothing_keeps c.new.result.entries c.new.ensures.empty
