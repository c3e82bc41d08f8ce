use Rattle.std.proofs.Common.{refl}
use Rattle.commit_target.specs.Steps.{Tally, SendPrepare, SendVote, at_step}
use Rattle.commit_target.proofs.Playing.{cut_off, goes_on}
use Rattle.commit_target.proofs.votes.vote.Goals as goal

pub returns-in_err-ask-clause-led : goal.returns-in_err-ask-clause-led
returns-in_err-ask-clause-led c = cut_off _ _ _ _ c.from_residual.ensures.1 (c.in_err-ask.ensures.answered _ _ _ _ c.requires refl)

pub choose-requires : goal.choose-requires
choose-requires c =
    let t : Tally = at_step c.args.progress.now (SendPrepare c.args.participant) in
    goes_on c.args.script.variant c.args.script.workload.now _ t _ _ c.if-not-branch.false (c.in_ok-ask.ensures.answered _ _ t _ c.requires refl)

pub returns-in_err-vote-clause-led : goal.returns-in_err-vote-clause-led
returns-in_err-vote-clause-led c = cut_off _ _ _ _ c.from_residual-in_err-vote.ensures.1 c.in_err-vote.ensures.led

pub ask-requires-2-clause-running : goal.ask-requires-2-clause-running
ask-requires-2-clause-running c = c.in_ok-vote.ensures.led.here.running

pub returns-in_err-ask-2-clause-led : goal.returns-in_err-ask-2-clause-led
returns-in_err-ask-2-clause-led c =
    let u : Tally = at_step c.args.progress.now (SendVote c.args.participant c.in_ok-vote.vote) in
    cut_off _ _ _ _ c.from_residual-in_err-ask-2.ensures.1 (c.in_err-ask-2.ensures.answered _ _ u _ c.in_ok-vote.ensures.led refl)
