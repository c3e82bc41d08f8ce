use Rattle.std.proofs.Common.{◌≡◌, ◌+◌, drop}
use Rattle.maildir_target.specs.Judgement.{Standing, has_torn}
use Rattle.maildir_target.proofs.judge.has_torn.Given as goal

abbrev pub invariant-loop-message : goal.invariant-loop-message
invariant-loop-message g l = record {
  counted : l.number ≡ l.message-index + 1;
  torn : (s : Standing) → g.D.Device.shows l.device s → has_torn s 1 l.messages ≡ has_torn s l.number (drop l.message-index l.messages);
}
