use Rattle.std.proofs.Common.{refl}
use Rattle.std.proofs.lemmas.Result.{IfOk-weaker}
use Rattle.clap.specs.Words.{app_of}
use Rattle.command_words.proofs.CommandLemmas.{also}
use Rattle.command_words.proofs.words.with_questions.Goals as goal

pub returns : goal.returns
returns c =
    let one = also c.asks_command.result (app_of c.args.command) (app_of c.args.command) _ c.in_ok-command.command refl c.asks_command.ensures.app c.in_ok-command.ensures in
    IfOk-weaker c.with-2.result _ _ (λ r h. also c.question_report_command.result _ _ _ r one c.question_report_command.ensures.app h) c.with-2.ensures
