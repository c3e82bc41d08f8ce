use Rattle.std.proofs.Common.{ℕ, get_or, ap, refl, ◌∙◌}
use Rattle.commit_target.specs.declared.records.Record.{Record}
use Rattle.commit_target.specs.declared.records.Party.TheVariants.{Participant}
use Rattle.commit_target.specs.declared.records.Write.TheVariants.{Append}
use Rattle.commit_target.specs.Steps.{Tally, SendAbort, at_step}
use Rattle.commit_target.proofs.Playing.{cut_off, goes_on, written}
use Rattle.commit_target.proofs.outcomes.abort_to.Goals as goal

pub returns-in_err-ask-clause-led : goal.returns-in_err-ask-clause-led
returns-in_err-ask-clause-led c = cut_off _ _ _ _ c.from_residual.ensures.1 (c.in_err-ask.ensures.answered _ _ _ _ c.requires refl)

pub returns-clause-led : goal.returns-clause-led
returns-clause-led c =
    let t : Tally = at_step c.args.progress.now (SendAbort c.args.place) in
    written c.args.script.variant c.args.script.workload.now _ _ _ _ _ _ (goes_on _ _ _ t _ _ c.if-not-branch.false (c.in_ok-ask.ensures.answered _ _ t _ c.requires refl))
    _ (ap (λ (i : ℕ). Append (Participant i) c.entry.result) c.voter.ensures ∙ ap (λ (r : Record). Append (Participant (get_or c.args.progress.now.yes c.args.place 0)) r) c.entry.ensures) c.in_ok-write.ensures.ok
