use Rattle.std.proofs.Common.{◌≡◌, ◌++◌, drop, map}
use Rattle.report.specs.json_form.Values.{whole}
use Rattle.report.specs.json_form.inside.Tokens.{all_tokens}
use Rattle.report.proofs.json_form.growth.write_each_level.Given as goal

abbrev pub invariant-loop-plans : goal.invariant-loop-plans
invariant-loop-plans l = l.out ++ all_tokens (map whole (drop l.plans-index l.levels)) ≡ l.initial.out ++ all_tokens (map whole l.levels)
