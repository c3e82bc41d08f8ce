use Rattle.std.proofs.Common.{refl}
use Rattle.std.proofs.lemmas.Result.{IfOk-weaker}
use Rattle.clap.specs.Words.{app_of}
use Rattle.command_words.proofs.CommandLemmas.{also}
use Rattle.command_words.proofs.words.with_campaigns.Goals as goal

pub returns : goal.returns
returns c =
    let run = also c.run_command.result (app_of c.args.command) (app_of c.args.command) _ c.in_ok-command.command refl c.run_command.ensures.app c.in_ok-command.ensures in
    let plans = also c.file_command-plans.result (app_of c.in_ok-command.command) _ _ c.in_ok-command-2.command run c.file_command-plans.ensures.app c.in_ok-command-2.ensures in
    IfOk-weaker c.with-3.result _ _ (λ r h. also c.page_command-page.result _ _ _ r plans c.page_command-page.ensures.app h) c.with-3.ensures
