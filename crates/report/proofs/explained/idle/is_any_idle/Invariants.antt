use Rattle.std.proofs.Common.{◌≡◌, drop}
use Rattle.report.specs.explained.Explained.{idle_in}
use Rattle.report.proofs.explained.idle.is_any_idle.Given as goal

abbrev pub invariant-loop-place : goal.invariant-loop-place
invariant-loop-place l = idle_in l.hits l.name l.place (drop l.place l.terms) ≡ idle_in l.hits l.name 0 l.terms
