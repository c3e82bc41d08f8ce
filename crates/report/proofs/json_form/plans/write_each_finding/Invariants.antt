use Rattle.std.proofs.Common.{◌≡◌, ◌++◌, drop, map}
use Rattle.report.specs.json_form.Document.{finding_value}
use Rattle.report.specs.json_form.inside.Tokens.{all_tokens}
use Rattle.report.proofs.json_form.plans.write_each_finding.Given as goal

abbrev pub invariant-loop-finding : goal.invariant-loop-finding
invariant-loop-finding g l =
    l.out ++ all_tokens (map (finding_value (g.N.Names.code_text l.names)) (drop l.finding-index l.findings))
    ≡ l.initial.out ++ all_tokens (map (finding_value (g.N.Names.code_text l.names)) l.findings)
