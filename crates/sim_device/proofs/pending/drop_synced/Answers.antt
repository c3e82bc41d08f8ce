use Rattle.std.proofs.Common.{rules, not, Some}
use Rattle.std.proofs.lemmas.Fn.{filter_same}
use Rattle.sim_device.specs.Pending.{Pending, is_to}
use Rattle.sim_device.proofs.pending.drop_synced.Goals as goal

pub returns : goal.returns
returns c = filter_same _ (λ (p : Pending). not (is_to (Some c.args.file) p)) _ (λ x b q h. search rules) _ _ c.retain.ensures.filtered
