use Rattle.std.proofs.Common.{◌≤◌, ◌<◌, length, arith, sym, subst}
use Rattle.commit_target.specs.Steps.{Tally, SendPrepare, at_step}
use Rattle.commit_target.specs.inside.Seen.{Stands}
use Rattle.commit_target.proofs.Playing.{next_begun, all_begun}
use Rattle.commit_target.proofs.play.transactions.Goals as goal

pub transaction-requires : goal.transaction-requires
transaction-requires c =
    let more : c.loop-number.progress.begun < length c.args.script.workload.now.transactions = omega arith in
    subst (λ (t : Tally). Stands c.args.script.variant c.args.script.workload.now c.loop-number.session (at_step t (SendPrepare 0)) c.loop-number.logs) (sym c.begin.ensures)
    (next_begun _ _ _ c.loop-number.progress _ more c.loop-number.invariant.stands)

pub returns-clause-led : goal.returns-clause-led
returns-clause-led c =
    let all : length c.args.script.workload.now.transactions ≤ c.loop-number.progress.begun = omega arith in
    all_begun _ _ _ c.loop-number.progress _ all c.loop-number.invariant.stands
