use Rattle.std.proofs.Common.{ap, refl}
use Rattle.commit_target.specs.declared.records.Record.{Record}
use Rattle.commit_target.specs.declared.records.Party.TheVariants.{Coordinator}
use Rattle.commit_target.specs.declared.records.Write.TheVariants.{Force}
use Rattle.commit_target.specs.Steps.{Tally, ForceCommitAgain, at_step}
use Rattle.commit_target.proofs.Playing.{cut_off, goes_on, written}
use Rattle.commit_target.proofs.outcomes.force_commit_again.Goals as goal

pub returns-in_err-ask-clause-led : goal.returns-in_err-ask-clause-led
returns-in_err-ask-clause-led c = cut_off _ _ _ _ c.from_residual.ensures.1 (c.in_err-ask.ensures.answered _ _ _ _ c.requires refl)

pub returns-clause-led : goal.returns-clause-led
returns-clause-led c =
    let t : Tally = at_step c.args.progress.now ForceCommitAgain in
    written c.args.script.variant c.args.script.workload.now _ _ _ _ _ _ (goes_on _ _ _ t _ _ c.if-not-branch.false (c.in_ok-ask.ensures.answered _ _ t _ c.requires refl))
    _ (ap (λ (r : Record). Force Coordinator r) c.entry.ensures) c.in_ok-write.ensures.ok
