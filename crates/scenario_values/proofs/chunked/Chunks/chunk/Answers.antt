use Rattle.std.proofs.Common.{◌∙◌}
use Rattle.scenario_values.proofs.ChunkedLemmas.Flat.{one_between}
use Rattle.scenario_values.proofs.chunked.Chunks.chunk.Goals as goal

pub returns : goal.returns
returns c = c.between.ensures ∙ one_between c.args.self.now c.args.number c.requires
