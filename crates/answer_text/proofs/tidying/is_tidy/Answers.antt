use Rattle.std.proofs.Common.{rules, ◌≡◌, true}
use Rattle.answer_text.specs.inside.Tidy.{is_tidy}
use Rattle.answer_text.proofs.TidyAgain.{scenario_same}
use Rattle.answer_text.proofs.tidying.is_tidy.Goals as goal

pub returns-clause-same : goal.returns-clause-same
returns-clause-same c =
    let is : is_tidy c.args.scenario.now ≡ true = search rules in
    λ _. scenario_same c.args.scenario.now is
