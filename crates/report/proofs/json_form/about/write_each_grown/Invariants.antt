use Rattle.std.proofs.Common.{◌≡◌, ◌++◌, drop, map}
use Rattle.report.specs.json_form.About.{grown_value}
use Rattle.report.specs.json_form.inside.Tokens.{all_tokens}
use Rattle.report.proofs.json_form.about.write_each_grown.Given as goal

abbrev pub invariant-loop-number : goal.invariant-loop-number
invariant-loop-number l =
    l.out ++ all_tokens (map grown_value (drop l.number l.grown)) ≡ l.initial.out ++ all_tokens (map grown_value l.grown)
