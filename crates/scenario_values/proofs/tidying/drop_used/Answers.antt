use Rattle.std.proofs.Common.{rules}
use Rattle.std.proofs.lemmas.List.Elements.{filter_from_retain}
use Rattle.scenario_values.specs.Tidied.{is_live}
use Rattle.scenario_values.proofs.tidying.drop_used.Goals as goal

pub returns : goal.returns
returns c = filter_from_retain _ is_live (λ p x b q h. search rules) _ _ _ c.retain.ensures.filtered
