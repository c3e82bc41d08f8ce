use Rattle.std.proofs.Common.{◌≡◌, ◌++◌, drop}
use Rattle.std.specs.String.{string_bytes}
use Rattle.report.specs.ReportText.{text_of}
use Rattle.report.specs.explained.Explained.{idle_in}
use Rattle.report.proofs.explained.idle.write_idle_in.Given as goal

abbrev pub invariant-loop-place : goal.invariant-loop-place
invariant-loop-place l =
    string_bytes l.out ++ text_of (idle_in l.hits l.name l.place (drop l.place l.terms))
    ≡ string_bytes l.initial.out ++ text_of (idle_in l.hits l.name 0 l.terms)
