use Rattle.std.proofs.Common.{◌≡◌, drop}
use Rattle.maildir_target.specs.Judgement.{Standing, has_lost}
use Rattle.maildir_target.proofs.judge.has_lost.Given as goal

abbrev pub invariant-loop-message : goal.invariant-loop-message
invariant-loop-message g l = (s : Standing) → g.D.Device.shows l.device s → has_lost s l.messages ≡ has_lost s (drop l.message-index l.messages)
