use Rattle.std.proofs.Common.{arith, rules}
use Rattle.std.proofs.lemmas.List.{take_all}
use Rattle.std.proofs.lemmas.List.Sums.{suffix_len-take_yes, suffix_len-take_no}
use Rattle.scenario_grammar.proofs.cuts.len_without_blank_end.Goals as goal

pub loop-n-init : goal.loop-n-init
loop-n-init c = search (rules, take_all)

pub loop-n-preserved : goal.loop-n-preserved
loop-n-preserved c = grind (arith, suffix_len-take_yes)

pub returns-else-is_blank-clause-value : goal.returns-else-is_blank-clause-value
returns-else-is_blank-clause-value c = grind (arith, suffix_len-take_no)
