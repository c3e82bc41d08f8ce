use Rattle.std.proofs.Common.{◌≡◌, ap, ◌∙◌}
use Rattle.scenario_values.specs.Scenario.{all_faults}
use Rattle.scenario_values.specs.Keep.{are_faults}
use Rattle.ddmin_parallel.specs.Ddmin.{Reduced}
use Rattle.outside_campaign.proofs.Gathered.{kept_faults, look_tells}
use Rattle.outside_campaign.proofs.findings.look_at.Goals as goal

pub keep-requires : goal.keep-requires
keep-requires g c =
    let set : c.as_slice.result.now ≡ c.in-Reduced.reduction.kept = c.as_slice.ensures.value ∙ ap (λ (x : Reduced). x.kept) c.reduction.view_is in
    let h = rw c.in-Reduced.is at c.in_ok-requests.ensures in
    ap (are_faults (all_faults c.args.scenario)) set ∙ kept_faults (g.K.VerdictTable.verdicts c.args.known.now) c.args.code c.args.scenario c.in-Reduced.reduction c.entries.ensures.limits h

pub returns-in_ok-reduced-in-Reduced : goal.returns-in_ok-reduced-in-Reduced
returns-in_ok-reduced-in-Reduced g c =
    let set : c.as_slice.result.now ≡ c.in-Reduced.reduction.kept = c.as_slice.ensures.value ∙ ap (λ (x : Reduced). x.kept) c.reduction.view_is in
    let h = rw c.in-Reduced.is at c.in_ok-requests.ensures in
    look_tells (g.K.VerdictTable.verdicts c.args.known.now) c.args.number c.args.code c.args.scenario c.in-Reduced.reduction c.as_slice.result.now c.in_ok-kept-in-Reduced.kept c.in_ok-reduced-in-Reduced.reduced c.reduction.inside.tests
    set c.in_ok-kept-in-Reduced.ensures c.in_ok-reduced-in-Reduced.ensures (ap (λ (x : Reduced). x.tests) c.reduction.view_is) c.entries.ensures.limits h
