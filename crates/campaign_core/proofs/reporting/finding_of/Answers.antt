use Rattle.std.proofs.Common.{◌≡◌, ℕ, [], get_or, ap, sym, subst, ◌∙◌}
use Rattle.scenario_values.specs.Scenario.{Entries}
use Rattle.target_trait.specs.declared.judgement.Verdict.{Verdict}
use Rattle.result_book.specs.Says.{input_says}
use Rattle.campaign_core.specs.FaultTest.{fails_with}
use Rattle.campaign_core.specs.Findings.{IsMinimal}
use Rattle.campaign_core.proofs.Firsts.{failure_fails, found_is}
use Rattle.campaign_core.proofs.reporting.finding_of.Goals as goal

pub reduced_scenario-requires-clause-fails : goal.reduced_scenario-requires-clause-fails
reduced_scenario-requires-clause-fails g c κs within =
    let input = c.args.input.now in
    let say : ℕ → Entries → Verdict = input_says g.T.Target c.args.target.now input in
    let number = c.args.first.0 in
    let code = c.args.first.1 in
    let read : c.in_ok-scenario.scenario ≡ get_or input.plans.now number [] = c.in_ok-scenario.ensures ∙ c.plan.ensures in
    ap (λ k. fails_with code (say k c.in_ok-scenario.scenario)) c.from.ensures ∙ ap (λ s. fails_with code (say number s)) read
    ∙ failure_fails say input.plans.now c.args.first c.requires.fails

pub returns-clause-found : goal.returns-clause-found
returns-clause-found g c =
    let input = c.args.input.now in
    let say : ℕ → Entries → Verdict = input_says g.T.Target c.args.target.now input in
    let number = c.args.first.0 in
    let read : c.in_ok-scenario.scenario ≡ get_or input.plans.now number [] = c.in_ok-scenario.ensures ∙ c.plan.ensures in
    found_is say input.plans.now number c.args.first.1 c.in_ok-reduced.tests c.from.result c.in_ok-scenario.scenario c.in_ok-reduced.reduced
    read c.from.ensures c.in_ok-reduced.ensures.scenario c.in_ok-reduced.ensures.tests

pub returns-clause-minimal : goal.returns-clause-minimal
returns-clause-minimal g c =
    let input = c.args.input.now in
    let say : ℕ → Entries → Verdict = input_says g.T.Target c.args.target.now input in
    let code = c.args.first.1 in
    let left : Entries = c.in_ok-reduced.reduced in
    let own : IsMinimal (say c.from.result) code left =
    subst (λ (s : Entries). IsMinimal (say c.from.result) code s) (sym c.in_ok-reduced.ensures.scenario) c.in_ok-reduced.ensures.minimal in
    subst (λ (k : ℕ). IsMinimal (say k) code left) c.from.ensures own
