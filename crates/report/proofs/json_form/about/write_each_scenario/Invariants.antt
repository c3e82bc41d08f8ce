use Rattle.std.proofs.Common.{◌≡◌, ◌++◌, drop, map, take}
use Rattle.report.specs.json_form.Values.{scenario_value}
use Rattle.report.specs.json_form.inside.Tokens.{all_tokens}
use Rattle.report.proofs.json_form.about.write_each_scenario.Given as goal

abbrev pub invariant-loop-number : goal.invariant-loop-number
invariant-loop-number l =
    l.out ++ all_tokens (map scenario_value (drop l.number (take l.end l.plans)))
    ≡ l.initial.out ++ all_tokens (map scenario_value (drop l.first (take l.end l.plans)))
