use Rattle.std.proofs.Common.{◌≡◌, ◌≤◌, List, Option, Some, Bor, take, length, ap, sym, subst, ◌∙◌, arith}
use Rattle.std.specs.Prelude.{option_copied}
use Rattle.scenario_values.specs.Scenario.{Entries}
use Rattle.action_eval.specs.declared.rig.Rig.{Rig}
use Rattle.grown_plans.specs.numbered.GrownScenarios.{grown_among, grown_scenarios}
use Rattle.report.specs.json_form.About.{ShownFacts}
use Rattle.report.specs.forms.Runs.{GrownAreFirst, parent_at}
use Rattle.report.proofs.FormsLemmas.Parents.{parent_is, grown_within}
use Rattle.report.proofs.forms.runs.parent_scenario.Goals as goal

pub plan-plan-requires : goal.plan-plan-requires
plan-plan-requires g c =
    let points = g.N.Names.points c.args._names.now in
    let plans : List Entries = c.shown.inside.plans.now in
    let grown : List (List Rig) = c.in-Some.grown.now in
    let first : take (length grown) plans ≡ grown_scenarios points grown =
    subst (λ (o : Option (Bor (List (List Rig)))). take (length (grown_among (option_copied o))) plans ≡ grown_scenarios points (grown_among (option_copied o))) c.in-Some.is
    (subst (λ (s : ShownFacts). GrownAreFirst points s) (sym c.shown.view_is) c.requires) in
    grown_within grown plans points c.parent_of.result first (omega (arith, c.parent_of.ensures.before, c.len.ensures, c.if-number-len.false))

pub returns : goal.returns
returns g c =
    let points = g.N.Names.points c.args._names.now in
    let plans : List Entries = c.shown.inside.plans.now in
    let grown : List (List Rig) = c.in-Some.grown.now in
    let first : take (length grown) plans ≡ grown_scenarios points grown =
    subst (λ (o : Option (Bor (List (List Rig)))). take (length (grown_among (option_copied o))) plans ≡ grown_scenarios points (grown_among (option_copied o))) c.in-Some.is
    (subst (λ (s : ShownFacts). GrownAreFirst points s) (sym c.shown.view_is) c.requires) in
    let many : 2 ≤ length c.faults_of.new.faults.items = omega (arith, c.len-2.ensures, c.faults_of.new.faults.ok.0, c.if-len-lt2.false) in
    let is_grown : grown ≡ c.args.shown.now.grown =
    ap (λ (o : Option (Bor (List (List Rig)))). grown_among (option_copied o)) (sym c.in-Some.is) ∙ ap (λ (s : ShownFacts). s.grown) c.shown.view_is in
    ap (λ (s : Entries). Some s) (c.in_ok-scenario.ensures ∙ c.plan-plan.ensures)
    ∙ parent_is grown plans points c.args.number c.parent_of.result c.faults_of.new.faults.items (omega (arith, c.parent_of.ensures.before, c.len.ensures, c.if-number-len.false))
    first c.in_ok-faults_of.ensures many c.parent_of.ensures.grew
    ∙ ap (λ (l : List (List Rig)). parent_at points l c.args.number) is_grown
