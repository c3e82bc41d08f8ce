use Rattle.std.proofs.Common.{◌≡◌, ◌++◌, drop}
use Rattle.std.specs.String.{string_bytes}
use Rattle.report.specs.junit_form.Junit.{cases_text}
use Rattle.report.proofs.junit_form.document.write_cases.Given as goal

abbrev pub invariant-loop-number : goal.invariant-loop-number
invariant-loop-number g l =
    string_bytes l.out ++ cases_text (g.N.Names.code_text l.names) l.report l.number (drop l.number l.report.verdicts) (drop l.number l.plans)
    ≡ string_bytes l.initial.out ++ cases_text (g.N.Names.code_text l.names) l.report 0 l.report.verdicts l.plans
