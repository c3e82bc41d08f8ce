use Rattle.std.proofs.Common.{Option, ap, refl, sym, subst}
use Rattle.commit_target.specs.declared.records.Record.{Record}
use Rattle.commit_target.specs.declared.records.Party.TheVariants.{Coordinator}
use Rattle.commit_target.specs.declared.records.Write.{Write}
use Rattle.commit_target.specs.declared.records.Write.TheVariants.{Force}
use Rattle.commit_target.specs.Steps.{Tally, ForceCommit, at_step, committed}
use Rattle.commit_target.specs.inside.Seen.{Due}
use Rattle.commit_target.proofs.Playing.{cut_off, goes_on, decided, ended_by}
use Rattle.commit_target.proofs.outcomes.force_commit.Goals as goal

pub returns-in_err-ask-clause-led : goal.returns-in_err-ask-clause-led
returns-in_err-ask-clause-led c = cut_off _ _ _ _ c.from_residual.ensures.1 (c.in_err-ask.ensures.answered _ _ _ _ c.requires refl)

pub returns-in_ok-write-2-clause-led : goal.returns-in_ok-write-2-clause-led
returns-in_ok-write-2-clause-led c =
    let t : Tally = at_step c.args.progress.now ForceCommit in
    ended_by c.args.script.variant c.args.script.workload.now _ _ _ _ _
    (decided c.args.script.variant c.args.script.workload.now _ c.args.progress.now _ _ (goes_on _ _ _ t _ _ c.if-not-branch.false (c.in_ok-ask.ensures.answered _ _ t _ c.requires refl))
    _ (ap (λ (r : Record). Force Coordinator r) c.entry.ensures) c.in_ok-write.ensures.ok)
    c.in-Some.end c.in-Some.ensures c.in_ok-write-2.ensures.ok

pub returns-in_default-clause-led : goal.returns-in_default-clause-led
returns-in_default-clause-led c =
    let t : Tally = at_step c.args.progress.now ForceCommit in
    subst (λ (x : Option Write). Due c.args.script.variant c.args.script.workload.now c.ask.new.session (committed c.args.progress.now) x c.write.new.self) (sym c.in_default.ensures)
    (decided c.args.script.variant c.args.script.workload.now _ c.args.progress.now _ _ (goes_on _ _ _ t _ _ c.if-not-branch.false (c.in_ok-ask.ensures.answered _ _ t _ c.requires refl))
    _ (ap (λ (r : Record). Force Coordinator r) c.entry.ensures) c.in_ok-write.ensures.ok)
