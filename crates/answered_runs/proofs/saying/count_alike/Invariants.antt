use Rattle.std.proofs.Common.{◌≡◌, ◌<◌, ◌+◌, ℕ, Some}
use Rattle.std.specs.Prelude.{slice_get}
use Rattle.answered_runs.proofs.saying.count_alike.Given as goal

abbrev pub invariant-loop-count : goal.invariant-loop-count
invariant-loop-count l = (m : ℕ) → m < l.count → slice_get l.hits (l.number + m) ≡ Some l.point
