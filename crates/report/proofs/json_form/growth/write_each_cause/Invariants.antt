use Rattle.std.proofs.Common.{◌≡◌, ◌++◌, drop, map}
use Rattle.report.specs.json_form.Document.{cause_value}
use Rattle.report.specs.json_form.inside.Tokens.{all_tokens}
use Rattle.report.proofs.json_form.growth.write_each_cause.Given as goal

abbrev pub invariant-loop-cause : goal.invariant-loop-cause
invariant-loop-cause g l =
    l.out ++ all_tokens (map (cause_value (g.N.Names.code_text l.names)) (drop l.cause-index l.causes))
    ≡ l.initial.out ++ all_tokens (map (cause_value (g.N.Names.code_text l.names)) l.causes)
