use Rattle.std.proofs.Common.{ap, sym, subst, arith, ◌∙◌}
use Rattle.std.specs.Prelude.{IsUtf8}
use Rattle.scenario_values.specs.Scenario.{is_argument}
use Rattle.action_eval.proofs.Arguments.{is_kept}
use Rattle.action_eval.proofs.argument.Argument.of.Goals as goal

pub invariant_of-result : goal.invariant_of-result
invariant_of-result c =
    is_kept c.as_bytes-source.result.now c.copy_from_slice.new.self c.copy_from_slice.ensures.after (omega arith) (subst IsUtf8 (sym c.as_bytes-source.ensures.value) c.utf8.text)
    (ap is_argument c.as_bytes-source.ensures.value ∙ c.requires)
