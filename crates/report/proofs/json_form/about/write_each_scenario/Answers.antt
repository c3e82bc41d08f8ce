use Rattle.std.proofs.Common.{◌∙◌, ◌++◌, List, [], take, arith, ap, sym}
use Rattle.std.proofs.lemmas.List.{get_or-take, length-take-le}
use Rattle.json.specs.Tree.{json_tokens}
use Rattle.scenario_values.specs.Scenario.{Entries}
use Rattle.report.specs.json_form.Values.{scenario_value}
use Rattle.report.proofs.JsonFormLemmas.Lists.{value_next}
use Rattle.report.proofs.json_form.about.write_each_scenario.Goals as goal

pub loop-number-preserved : goal.loop-number-preserved
loop-number-preserved c =
    let n = c.loop-number.number in
    let plans : List Entries = c.args.plans.now in
    let many = length-take-le c.args.end plans c.requires.within in
    value_next scenario_value _ _ _ n (take c.args.end plans) c.plan.result [] (omega (arith, many, c.loop-number-test.true))
    (c.plan.ensures ∙ sym (get_or-take c.args.end plans n [] c.loop-number-test.true))
    (c.in_ok-write_scenario_value.ensures ∙ ap (λ (plan : Entries). c.loop-number.out ++ json_tokens (scenario_value plan)) c.in_ok-scenario.ensures)
    c.loop-number.invariant
