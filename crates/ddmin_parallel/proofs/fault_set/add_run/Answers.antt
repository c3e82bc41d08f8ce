use Rattle.std.proofs.Common.{◌≡◌, arith}
use Rattle.ddmin_parallel.proofs.RunLemmas.{run_step, run_end}
use Rattle.ddmin_parallel.proofs.fault_set.add_run.Goals as goal

pub loop-fault-preserved : goal.loop-fault-preserved
loop-fault-preserved c = rw c.in_ok-push.ensures.items (run_step _ _ _ _ c.loop-fault.auto.fault c.loop-fault.invariant)

pub returns : goal.returns
returns c =
    let le = c.requires in
    let same : c.loop-fault.fault ≡ c.args.run.1 = omega (arith, c.requires, c.loop-fault.auto.fault-end c.requires) in
    rw c.in_ok-push-2.ensures.items (run_end _ _ _ _ _ c.requires same c.loop-fault.invariant)
