use Rattle.std.proofs.Common.{◌≡◌, All, vec_len}
use Rattle.campaign_core.proofs.probe.probes.Given as goal

abbrev pub invariant-loop : goal.invariant-loop
invariant-loop g l = (vec_len l.all ≡ l.counter) × All (λ p. (p.target ≡ l.fn.target) × (p.failure.now ≡ l.fn.failure)) l.all.items
