use Rattle.std.proofs.Common.{◌≡◌, map, take}
use Rattle.report.specs.forms.Runs.{cause_shown}
use Rattle.report.proofs.forms.runs.RunSource.each_shown.Given as goal

abbrev pub invariant-loop-cause : goal.invariant-loop-cause
invariant-loop-cause g l =
    l.runs.items ≡ map (cause_shown (g.N.Names.points l.fn.self.names.now) (g.T.Teller.told_runs l.fn.self.teller.now) l.fn.self.shown.now.grown) (take l.cause-index l.causes)
