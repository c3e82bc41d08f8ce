use Rattle.std.proofs.Common.{◌≡◌, [], OnOk, refl, ap, subst, ◌∙◌, sym}
use Rattle.scenario_values.specs.Scenario.{Entries}
use Rattle.action_eval.specs.Answers.{texts}
use Rattle.action_eval.specs.RiggedScenario.{rigged_as}
use Rattle.plan_gen.specs.declared.drawing.Source.{Source}
use Rattle.plan_gen.specs.inside.Drawn.{drawn}
use Rattle.plan_gen.proofs.Rigged.{rigged_scenario_nothing}
use Rattle.plan_gen.proofs.drawing.Drawing.load.Goals as goal

pub returns-in-Empty : goal.returns-in-Empty
returns-in-Empty c =
    let none = rigged_scenario_nothing (texts c.args.catalogue.now) [] refl in
    let mine : [] ≡ drawn c.args.self.now c.args.source = sym (ap (λ (s : Source). drawn c.args.self.now s) c.in-Empty.is) in
    subst (λ (s : Entries). OnOk c.load.result (c.load.new.self ≡ rigged_as (texts c.args.catalogue.now) s)) (none ∙ mine) c.load.ensures.ok
