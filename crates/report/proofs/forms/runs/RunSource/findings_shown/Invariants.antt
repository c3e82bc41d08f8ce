use Rattle.std.proofs.Common.{◌≡◌, map, take}
use Rattle.report.specs.forms.Runs.{finding_shown}
use Rattle.report.proofs.forms.runs.RunSource.findings_shown.Given as goal

abbrev pub invariant-loop-finding : goal.invariant-loop-finding
invariant-loop-finding g l =
    l.runs.items ≡ map (finding_shown (g.N.Names.points l.fn.self.names.now) (g.T.Teller.told_runs l.fn.self.teller.now) l.fn.self.shown.now.grown) (take l.finding-index l.findings)
