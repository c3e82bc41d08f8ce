use Rattle.std.proofs.Common.{◌≡◌, ◌++◌, drop}
use Rattle.report.specs.json_form.Document.{reported_values}
use Rattle.report.specs.json_form.inside.Tokens.{all_tokens}
use Rattle.report.proofs.json_form.plans.write_each_reported.Given as goal

abbrev pub invariant-loop-number : goal.invariant-loop-number
invariant-loop-number g l =
    l.out ++ all_tokens (reported_values (g.N.Names.code_text l.names) l.number (drop l.number l.verdicts) (drop l.number l.plans))
    ≡ l.initial.out ++ all_tokens (reported_values (g.N.Names.code_text l.names) 0 l.verdicts l.plans)
