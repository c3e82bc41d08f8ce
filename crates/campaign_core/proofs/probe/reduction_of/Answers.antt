use Rattle.std.proofs.Common.{◌≡◌, ◌<◌, length, arith}
use Rattle.std.proofs.lemmas.Result.{IfOk-weaker}
use Rattle.scenario_values.specs.Scenario.{all_faults}
use Rattle.campaign_core.specs.inside.Says.{failure_says}
use Rattle.campaign_core.specs.FaultTest.{fault_test}
use Rattle.campaign_core.specs.Findings.{reduction}
use Rattle.campaign_core.proofs.Gathered.{by_first}
use Rattle.campaign_core.proofs.probe.reduction_of.Goals as goal

pub returns : goal.returns
returns g c =
    let worker_probes = c.in_ok-worker_probes.worker_probes.items in
    let f = c.args.failure.now in
    let some : 0 < length worker_probes = omega (arith, c.in_ok-worker_probes.ensures.many, c.in_ok-worker_probes.worker_probes.ok.0, c.workers.ensures.some) in
    IfOk-weaker c.reduce.result _ (λ r. r
    ≡ reduction (failure_says g.T.Target c.args.target.now f) f.stream f.code f.scenario.now)
    (λ r is. by_first worker_probes c.args.target.now f (λ p. p.target) (λ p. p.failure.now)
    (λ t s. fault_test (failure_says g.T.Target t s s.stream) s.code s.scenario.now)
    (all_faults f.scenario.now) f.faults r some c.in_ok-worker_probes.ensures.same f.counted is)
    c.reduce.ensures
