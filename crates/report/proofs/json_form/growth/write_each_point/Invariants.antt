use Rattle.std.proofs.Common.{◌≡◌, ◌++◌, drop}
use Rattle.report.specs.json_form.Document.{point_values}
use Rattle.report.specs.json_form.inside.Tokens.{all_tokens}
use Rattle.report.proofs.json_form.growth.write_each_point.Given as goal

abbrev pub invariant-loop-number : goal.invariant-loop-number
invariant-loop-number g l =
    l.out ++ all_tokens (point_values (drop l.number (g.N.Names.points l.names)) (drop l.number l.counts))
    ≡ l.initial.out ++ all_tokens (point_values (g.N.Names.points l.names) l.counts)
