use Rattle.commit_target.proofs.Never.{sound_never_fails}
use Rattle.commit_target.proofs.laws.sound_never_fails.Goals as goal

pub returns : goal.returns
returns c = λ w some. sound_never_fails w some _
