use Rattle.std.proofs.Common.{◌≡◌, ℕ, ◌∙◌, ap, sym, true}
use Rattle.scenario_values.specs.Scenario.{Entries, all_faults}
use Rattle.scenario_values.specs.Keep.{are_faults}
use Rattle.scenario_values.specs.Tidied.{tidied}
use Rattle.outside_campaign.proofs.Running.{told_by}
use Rattle.outside_campaign.proofs.reduction.look_up.Goals as goal

pub returns-in-Some : goal.returns-in-Some
returns-in-Some g c =
    let faults : are_faults (all_faults c.args.scenario.now) c.args.set.now ≡ true =
    ap (λ (n : ℕ). are_faults n c.args.set.now) (sym c.requires) ∙ sym c.are_faults.ensures ∙ c.if-not-are_faults.false in
    told_by (g.K.VerdictTable.verdicts c.args.known.now) c.args.code c.args.scenario.now c.args.set.now c.in-Some.verdict c.fails_with.result faults
    (sym c.in-Some.is ∙ c.in_ok-verdict.ensures ∙ ap (λ (k : Entries). g.K.VerdictTable.verdicts c.args.known.now (tidied k)) c.in_ok-kept.ensures) c.fails_with.ensures
