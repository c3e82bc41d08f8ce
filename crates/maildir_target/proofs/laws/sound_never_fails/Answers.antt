use Rattle.maildir_target.proofs.Never.{sound_never_fails}
use Rattle.maildir_target.proofs.laws.sound_never_fails.Goals as goal

pub returns : goal.returns
returns c = sound_never_fails c.args.workload.now _
