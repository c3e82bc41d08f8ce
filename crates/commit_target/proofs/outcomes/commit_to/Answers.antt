use Rattle.std.proofs.Common.{ap, refl}
use Rattle.commit_target.specs.declared.records.Record.{Record}
use Rattle.commit_target.specs.declared.records.Party.TheVariants.{Participant}
use Rattle.commit_target.specs.declared.records.Write.TheVariants.{Force}
use Rattle.commit_target.specs.Steps.{Tally, SendCommit, ForceOutcome, SendAck, Over, at_step}
use Rattle.commit_target.specs.inside.Seen.{Stands, Ended}
use Rattle.commit_target.proofs.Playing.{cut_off, goes_on, written, acknowledged}
use Rattle.commit_target.proofs.outcomes.commit_to.Goals as goal
use Rattle.commit_target.proofs.outcomes.commit_to.Goals.{In_ok-write}

pub returns-in_err-ask-clause-led : goal.returns-in_err-ask-clause-led
returns-in_err-ask-clause-led c = cut_off _ _ _ _ c.from_residual.ensures.1 (c.in_err-ask.ensures.answered _ _ _ _ c.requires refl)

pub ask-requires-2-clause-running : goal.ask-requires-2-clause-running
ask-requires-2-clause-running c =
    let t : Tally = at_step c.args.progress.now (SendCommit c.args.participant) in
    (goes_on c.args.script.variant c.args.script.workload.now _ t c.args.logs.now _ c.if-not-branch.false (c.in_ok-ask.ensures.answered _ _ t _ c.requires refl)).here.running

pub returns-in_err-ask-2-clause-led : goal.returns-in_err-ask-2-clause-led
returns-in_err-ask-2-clause-led c =
    let t : Tally = at_step c.args.progress.now (SendCommit c.args.participant) in
    cut_off _ _ _ _ c.from_residual-in_err-ask-2.ensures.1 (c.in_err-ask-2.ensures.answered _ _ (at_step t (ForceOutcome c.args.participant)) _
    (goes_on c.args.script.variant c.args.script.workload.now _ t _ _ c.if-not-branch.false (c.in_ok-ask.ensures.answered _ _ t _ c.requires refl)) refl)

acknowledges : (c : goal.In_ok-write) → Stands c.args.script.variant c.args.script.workload.now c.ask-2.new.session (at_step c.args.progress.now (SendAck c.args.participant)) c.write.new.self
acknowledges c =
    let t : Tally = at_step c.args.progress.now (SendCommit c.args.participant) in
    let u : Tally = at_step c.args.progress.now (ForceOutcome c.args.participant) in
    written c.args.script.variant c.args.script.workload.now _ _ _ _ _ _
    (goes_on _ _ _ u _ _ c.if-not-branch-2.false (c.in_ok-ask-2.ensures.answered _ _ u _ (goes_on _ _ _ t _ _ c.if-not-branch.false (c.in_ok-ask.ensures.answered _ _ t _ c.requires refl)) refl))
    _ (ap (λ (r : Record). Force (Participant c.args.participant) r) c.entry.ensures) c.in_ok-write.ensures.ok

pub ask-requires-3-clause-running : goal.ask-requires-3-clause-running
ask-requires-3-clause-running c = (acknowledges c.before).here.running

pub returns-clause-led : goal.returns-clause-led
returns-clause-led c =
    acknowledged c.args.script.variant c.args.script.workload.now c.ask-3.new.session c.args.progress.now c.args.participant c.write.new.self c.ask-3.result
    (Ended c.args.script.variant c.args.script.workload.now c.ask-3.new.session (at_step c.args.progress.now Over) c.write.new.self)
    (c.ask-3.ensures.answered _ _ (at_step c.args.progress.now (SendAck c.args.participant)) _ (acknowledges c.before.before) refl)
