use Rattle.std.proofs.Common.{sym, ◌∙◌}
use Rattle.action_eval.proofs.NamedCounts.{found}
use Rattle.answered_runs.proofs.rigged.push_point.Goals as goal

pub chain-requires : goal.chain-requires
chain-requires c = (found c.args.scenario.now c.args.name.now c.in-Some.entry (sym c.entry_of.ensures ∙ c.in-Some.is)).within
