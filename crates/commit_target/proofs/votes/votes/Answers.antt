use Rattle.std.proofs.Common.{refl, arith}
use Rattle.commit_target.proofs.Rounds.{first_vote}
use Rattle.commit_target.proofs.votes.votes.Goals as goal

pub loop-participant-init : goal.loop-participant-init
loop-participant-init c = record {
  given = refl;
  notes = refl;
  begun = refl;
  few = omega arith;
  stands = first_vote c.args.script.variant c.args.script.workload.now c.args.session.now c.args.progress.now c.args.logs.now (omega arith) c.requires;
}
