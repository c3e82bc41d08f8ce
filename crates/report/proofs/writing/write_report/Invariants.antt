use Rattle.std.proofs.Common.{◌≤◌, ◌-◌, ◌≡◌, length, take, false}
use Rattle.std.specs.Io.KnownBytes.{Appends}
use Rattle.report.proofs.writing.write_report.Given as goal

abbrev pub invariant-loop-written : goal.invariant-loop-written
invariant-loop-written g l =
    (l.written ≤ length l.text)
    × (g.W.Sink.has_failed l.sink ≡ false)
    × Appends (g.W.Sink.told l.initial.sink) (g.W.Sink.told l.sink) (take l.written l.text)

abbrev pub decreases-loop-written : goal.decreases-loop-written
decreases-loop-written g l = length l.text - l.written
