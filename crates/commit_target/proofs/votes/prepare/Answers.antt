use Rattle.std.proofs.Common.{refl, ◌∙◌}
use Rattle.commit_target.specs.Steps.{Tally, ForcePrepare, at_step}
use Rattle.commit_target.proofs.Playing.{cut_off, goes_on, written, same_prepare}
use Rattle.commit_target.proofs.votes.prepare.Goals as goal

pub returns-in_err-ask-clause-led : goal.returns-in_err-ask-clause-led
returns-in_err-ask-clause-led c = cut_off _ _ _ _ c.from_residual.ensures.1 (c.in_err-ask.ensures.answered _ _ _ _ c.requires refl)

pub returns-clause-led : goal.returns-clause-led
returns-clause-led c =
    let t : Tally = at_step c.args.progress.now (ForcePrepare c.args.participant) in
    written c.args.script.variant c.args.script.workload.now _ _ _ _ _ _ (goes_on _ _ _ t _ _ c.if-not-branch.false (c.in_ok-ask.ensures.answered _ _ t _ c.requires refl))
    _ (c.prepare_write.ensures ∙ same_prepare c.args.script.variant c.args.progress.now (ForcePrepare c.args.participant) c.args.participant) c.in_ok-write.ensures.ok
