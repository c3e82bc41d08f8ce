use Rattle.std.proofs.Common.{◌∙◌, ap, ap₂}
use Rattle.std.proofs.lemmas.Result.{IfOk-weaker}
use Rattle.clap.specs.Words.{app_of, rule_of, with_rule}
use Rattle.command_words.proofs.words.with_progress.Goals as goal

pub returns-clause-app : goal.returns-clause-app
returns-clause-app c = IfOk-weaker c.arg-2.result _ _
    (λ r h. h.shape (ap (λ a. a.global) c.hide.ensures ∙ c.flag_arg-2.ensures.local)
    ∙ ap₂ with_rule (c.in_ok-arg.ensures.shape c.flag_arg.ensures.local ∙ ap (with_rule (app_of c.args.command)) c.flag_arg.ensures.rule)
    (ap rule_of c.hide.ensures ∙ c.flag_arg-2.ensures.rule))
    c.arg-2.ensures
