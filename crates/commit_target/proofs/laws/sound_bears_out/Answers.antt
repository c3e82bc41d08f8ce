use Rattle.commit_target.proofs.Never.{sound_bears_out}
use Rattle.commit_target.proofs.laws.sound_bears_out.Goals as goal

pub returns : goal.returns
returns c = sound_bears_out
