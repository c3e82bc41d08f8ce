use Rattle.std.proofs.Common.{◌≡◌, ◌++◌, drop}
use Rattle.std.specs.List.{flat_map}
use Rattle.std.specs.String.{string_bytes}
use Rattle.report.specs.BriefText.{code_count}
use Rattle.report.proofs.brief.write_code_counts.Given as goal

abbrev pub invariant-loop-finding : goal.invariant-loop-finding
invariant-loop-finding g l =
    string_bytes l.out ++ flat_map (code_count (g.N.Names.code_text l.names) l.verdicts) (drop l.finding-index l.findings)
    ≡ string_bytes l.initial.out ++ flat_map (code_count (g.N.Names.code_text l.names) l.verdicts) l.findings
