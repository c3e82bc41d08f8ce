use Rattle.std.proofs.Common.{rules}
use Rattle.std.proofs.lemmas.List.Elements.{filter_from_retain}
use Rattle.sim_device.specs.Pending.{Pending, is_of_contents}
use Rattle.sim_device.proofs.pending.drop_names.Goals as goal

pub returns : goal.returns
returns c = filter_from_retain _ (λ (p : Pending). is_of_contents p.call) (λ p x b q h. search rules) _ _ _ c.retain.ensures.filtered
