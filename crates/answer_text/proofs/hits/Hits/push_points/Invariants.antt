use Rattle.std.proofs.Common.{◌≡◌, ◌++◌, drop}
use Rattle.std.specs.Io.{StartsWith}
use Rattle.answer_text.specs.Hits.{points_of}
use Rattle.answer_text.proofs.hits.Hits.push_points.Given as goal

abbrev pub invariant-loop-stretch : goal.invariant-loop-stretch
invariant-loop-stretch l =
    StartsWith l.points.items l.fn.points.items × (l.points.items ++ points_of (drop l.stretch-index l.stretch-items) ≡ l.fn.points.items ++ points_of l.self)
