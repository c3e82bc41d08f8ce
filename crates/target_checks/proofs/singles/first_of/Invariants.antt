use Rattle.std.proofs.Common.{◌≡◌, drop}
use Rattle.target_checks.specs.Singles.{first_failing}
use Rattle.target_checks.proofs.singles.first_of.Given as goal

-- the target has its setup, and what is found is found in what is left
abbrev pub invariant-loop-number : goal.invariant-loop-number
invariant-loop-number g l =
    let asks = g.T.Target.asks l.fn.target l.workload in
    let names = g.T.Target.names in
    record {
      setup : l.target ≡ l.fn.target;
      found : first_failing asks names (drop l.number l.plans) ≡ first_failing asks names l.plans;
    }
