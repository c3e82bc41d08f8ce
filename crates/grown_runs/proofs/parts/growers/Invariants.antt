use Rattle.std.proofs.Common.{◌≡◌, All, length}
use Rattle.grown_runs.proofs.parts.growers.Given as goal

abbrev pub invariant-loop : goal.invariant-loop
invariant-loop g l = (length l.all.items ≡ l.counter) × All (λ r. (r.target ≡ l.fn.target) × (r.input.now ≡ l.fn.input)) l.all.items
