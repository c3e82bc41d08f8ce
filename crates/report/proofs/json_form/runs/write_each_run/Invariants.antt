use Rattle.std.proofs.Common.{◌≡◌, ◌++◌, drop, map}
use Rattle.report.specs.json_form.Runs.{or_null, shown_value}
use Rattle.report.specs.json_form.inside.Tokens.{all_tokens}
use Rattle.report.proofs.json_form.runs.write_each_run.Given as goal

abbrev pub invariant-loop-run : goal.invariant-loop-run
invariant-loop-run l = l.out ++ all_tokens (map (or_null shown_value) (drop l.run-index l.runs)) ≡ l.initial.out ++ all_tokens (map (or_null shown_value) l.runs)
