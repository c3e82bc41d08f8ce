use Rattle.campaign_main.specs.Commands.{bundled_target}
use Rattle.campaign_main.specs.FaultLines.{refusal_line}
use Rattle.campaign_main.specs.Questions.{chosen_subject}
use Rattle.campaign_main.proofs.QuestionLemmas.{chosen-bundled, settings-why, tells-question}
use Rattle.campaign_main.proofs.ToldLemmas.{refuses-with}
use Rattle.campaign_main.proofs.subject.chosen_outside.Goals as goal

pub returns-in_default-clause-end : goal.returns-in_default-clause-end
returns-in_default-clause-end g c = (refusal_line bundled_target, refuses-with _ _ _ c.refuse_bundled.ensures.end c.refuse_bundled.ensures.told)

pub returns-in_default-clause-cause : goal.returns-in_default-clause-cause
returns-in_default-clause-cause g c =
    λ question known refused.
    let s = c.args.settings in
    settings-why question (chosen_subject s.campaign s.choice) bundled_target (chosen-bundled s.campaign s.choice c.in_default.not-Outside) known c.refuse_bundled.result _
    (refuses-with _ _ _ c.refuse_bundled.ensures.end c.refuse_bundled.ensures.told) refused

pub returns-in_default-clause-told : goal.returns-in_default-clause-told
returns-in_default-clause-told g c = tells-question bundled_target c.refuse_bundled.result _ (refuses-with _ _ _ c.refuse_bundled.ensures.end c.refuse_bundled.ensures.told)
