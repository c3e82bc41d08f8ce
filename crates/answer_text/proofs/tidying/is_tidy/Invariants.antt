use Rattle.std.proofs.Common.{◌≡◌}
use Rattle.answer_text.specs.inside.Tidy.{is_tidy}
use Rattle.answer_text.proofs.tidying.is_tidy.Given as goal

abbrev pub invariant-loop-chain : goal.invariant-loop-chain
invariant-loop-chain l = is_tidy l.chain-iterator ≡ is_tidy l.scenario
