use Rattle.std.proofs.Common.{◌∙◌, ap}
use Rattle.std.proofs.lemmas.Result.{IfOk-weaker}
use Rattle.clap.specs.Words.{App}
use Rattle.command_words.specs.Words.{campaign_commands, paklour, question_commands, scenario_commands, with_commands}
use Rattle.command_words.proofs.words.command.Goals as goal

pub returns : goal.returns
unfolding paklour
returns c = IfOk-weaker c.with_questions.result _ _
    (λ r h. h ∙ ap (λ (a : App). with_commands a question_commands)
    (c.in_ok-command-2.ensures ∙ ap (λ (a : App). with_commands a scenario_commands) (c.in_ok-command.ensures ∙ ap (λ (a : App). with_commands a campaign_commands) c.bare.ensures)))
    c.with_questions.ensures
