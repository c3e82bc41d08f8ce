use Rattle.std.proofs.Common.{ap, refl}
use Rattle.campaign_settings.specs.Own.{worded_settings_of}
use Rattle.campaign_main.specs.OwnTarget.{worded_given_answer}
use Rattle.campaign_main.proofs.EndLemmas.{settings-tell}
use Rattle.campaign_main.proofs.own.read_worded_text.Goals as goal

pub returns-in-Ok-clause-ok : goal.returns-in-Ok-clause-ok
returns-in-Ok-clause-ok g c = λ answer. ap (worded_given_answer answer) c.in-Ok.ensures.ok

pub returns-in-Err-clause-told : goal.returns-in-Err-clause-told
returns-in-Err-clause-told g c = (_, c.end_bad_settings.ensures.end)

pub returns-in-Err-clause-cause : goal.returns-in-Err-clause-cause
returns-in-Err-clause-cause g c =
    λ answer refused. settings-tell (worded_given_answer answer) (λ _. refl) (worded_settings_of c.args.text.now) c.end_bad_settings.result _ refused c.in-Err.fault c.in-Err.ensures.refused
    c.end_bad_settings.ensures.memory c.end_bad_settings.ensures.end
