use Rattle.std.proofs.Common.{◌≤◌, ℕ, Option, arith, refl}
use Rattle.commit_target.specs.Steps.{commit_to, end_unless}
use Rattle.commit_target.proofs.Rounds.{first_told}
use Rattle.commit_target.proofs.Playing.{at_end, ended_by}
use Rattle.commit_target.proofs.outcomes.tell_all.Goals as goal

pub returns-in_ok-write-clause-led : goal.returns-in_ok-write-clause-led
returns-in_ok-write-clause-led c =
    let all : c.args.script.workload.now.participants ≤ c.loop-participant.participant = omega arith in
    ended_by c.args.script.variant c.args.script.workload.now c.loop-participant.session _ _ _ _
    (at_end _ _ _ (λ (o : Option ℕ). commit_to c.args.script.variant c.args.script.workload.now c.loop-participant.progress o)
    (λ (o : Option ℕ). end_unless c.args.script.variant c.loop-participant.progress c.loop-participant.progress.acknowledged o) _ _ _ all c.loop-participant.invariant.due)
    c.in-Some.end c.in-Some.ensures c.in_ok-write.ensures.ok

pub loop-participant-init : goal.loop-participant-init
loop-participant-init c = record {
  given = refl;
  notes = refl;
  begun = refl;
  few = omega arith;
  due = first_told c.args.script.variant c.args.script.workload.now c.args.session.now c.args.progress.now c.args.logs.now (omega arith) c.requires;
}
