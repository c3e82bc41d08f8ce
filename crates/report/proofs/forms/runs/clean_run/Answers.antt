use Rattle.action_eval.proofs.Rigged.{nothing_keeps}
use Rattle.report.proofs.forms.runs.clean_run.Goals as goal

pub from_entries-none-requires : goal.from_entries-none-requires
from_entries-none-requires g c = nothing_keeps c.new.result.entries c.new.ensures.empty
