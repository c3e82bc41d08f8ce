use Rattle.std.proofs.Common.{◌≡◌, sym, ◌∙◌, ap, subst}
use Rattle.std.proofs.Common.{◌++◌, ◌∷◌, [], get_or}
use Rattle.ddmin_parallel.specs.Runs.{faults_of}
use Rattle.ddmin_parallel.specs.inside.Packing.{runs_of}
use Rattle.ddmin_parallel.proofs.RunLemmas.{packed_ordered, runs_step}
use Rattle.ddmin_parallel.proofs.fault_set.FaultSet.faults.Goals as goal

pub add_run-requires : goal.add_run-requires
add_run-requires c =
    let packed = subst (λ rs. runs_of (faults_of rs) ≡ rs) (sym c.as_slice-run-items.ensures.value) c.self.invariant in
    packed_ordered _ _ _ packed c.loop-run-test.true

pub loop-run-preserved : goal.loop-run-preserved
loop-run-preserved c =
    c.in_ok-add_run.ensures
    ∙ ap (λ xs. xs ++ faults_of (get_or c.as_slice-run-items.result.now c.loop-run.run-index (0, 0) ∷ [])) c.loop-run.invariant
    ∙ sym (runs_step _ _ (0, 0) c.loop-run-test.true)
