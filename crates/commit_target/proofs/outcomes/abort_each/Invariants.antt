use Rattle.std.proofs.Common.{◌≡◌, ℕ}
use Rattle.commit_target.specs.inside.Batches.{AddsUpTo, abort_write}
use Rattle.commit_target.proofs.outcomes.abort_each.Given as goal

abbrev pub invariant-loop-place : goal.invariant-loop-place
invariant-loop-place l = record {
  notes : l.logs.notes ≡ l.fn.logs.notes;
  added : AddsUpTo l.fn.logs l.logs (λ (k : ℕ). abort_write l.progress k) 0 l.count l.place;
}
