use Rattle.std.proofs.Common.{◌≡◌, ℕ, ap, ◌∙◌}
use Rattle.scenario_values.specs.Scenario.{Entries, all_faults}
use Rattle.scenario_values.specs.Keep.{are_faults}
use Rattle.target_trait.specs.declared.judgement.Verdict.{Verdict}
use Rattle.campaign_core.specs.inside.Says.{failure_says}
use Rattle.ddmin_parallel.specs.Ddmin.{Reduced}
use Rattle.ddmin_parallel.proofs.Minimal.{minimal}
use Rattle.campaign_core.specs.FaultTest.{fault_test}
use Rattle.campaign_core.specs.Findings.{reduction}
use Rattle.campaign_core.proofs.Minimal.{all_fail, own_faults, reduced_minimal}
use Rattle.campaign_core.proofs.reducing.reduced_scenario.Goals as goal

pub keep-requires : goal.keep-requires
keep-requires g c =
    let f = c.args.failure.now in
    let say : ℕ → Entries → Verdict = failure_says g.T.Target c.args.target.now f in
    let s : Entries = f.scenario.now in
    let red : Reduced = reduction say f.stream f.code s in
    let set : c.as_slice.result.now ≡ red.kept = c.as_slice.ensures.value ∙ ap (λ (x : Reduced). x.kept) (c.reduction.view_is ∙ c.in_ok-reduction.ensures) in
    ap (are_faults (all_faults s)) set ∙ own_faults (say f.stream) f.code s red.kept
    (minimal (fault_test (say f.stream) f.code s) (all_faults s) (all_fail (say f.stream) f.code s c.requires.fails))

pub returns-clause-minimal : goal.returns-clause-minimal
returns-clause-minimal g c =
    let f = c.args.failure.now in
    reduced_minimal (g.T.Target.asks c.args.target.now f.workload.now) g.T.Target.names f.settings.now.plans.seed f.settings.now.max_hits f.stream f.code f.scenario.now
    c.entries.ensures.limits.distinct_names c.requires.fails
