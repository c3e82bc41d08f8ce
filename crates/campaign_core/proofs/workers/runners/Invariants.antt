use Rattle.std.proofs.Common.{◌≡◌, All, vec_len}
use Rattle.campaign_core.proofs.workers.runners.Given as goal

abbrev pub invariant-loop : goal.invariant-loop
invariant-loop g l =
    (vec_len l.all ≡ l.counter) × All (λ r. (r.target ≡ l.fn.target) × (r.input.now ≡ l.fn.input) × (r.first ≡ l.fn.first)) l.all.items
