use Rattle.std.proofs.Common.{refl}
use Rattle.std.proofs.lemmas.Result.{IfOk-weaker}
use Rattle.clap.specs.Words.{app_of}
use Rattle.command_words.proofs.CommandLemmas.{also}
use Rattle.command_words.proofs.words.with_scenarios.Goals as goal

pub returns : goal.returns
returns c =
    let one = also c.scenario_command.result (app_of c.args.command) (app_of c.args.command) _ c.in_ok-command.command refl c.scenario_command.ensures.app c.in_ok-command.ensures in
    let two = also c.reduce_command.result (app_of c.in_ok-command.command) _ _ c.in_ok-command-2.command one c.reduce_command.ensures.app c.in_ok-command-2.ensures in
    IfOk-weaker c.with-3.result _ _ (λ r h. also c.scenario_command-2.result _ _ _ r two c.scenario_command-2.ensures.app h) c.with-3.ensures
