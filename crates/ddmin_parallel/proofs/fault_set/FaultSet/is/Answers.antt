use Rattle.std.proofs.Common.{◌∙◌, ap}
use Rattle.std.specs.Ordering.{is_eq}
use Rattle.ddmin_parallel.specs.Runs.{faults_of}
use Rattle.ddmin_parallel.proofs.SetLemmas.{runs_equal, set_cmp}
use Rattle.ddmin_parallel.proofs.fault_set.FaultSet.is.Goals as goal

pub returns : goal.returns
returns c =
    runs_equal c.self.inside.runs.items c.other.inside.runs.items c.eq.result c.self.invariant c.other.invariant c.eq.ensures
    ∙ ap (λ s. is_eq (set_cmp s (faults_of c.other.inside.runs.items))) c.self.view_is ∙ ap (λ t. is_eq (set_cmp c.args.self.now t)) c.other.view_is
