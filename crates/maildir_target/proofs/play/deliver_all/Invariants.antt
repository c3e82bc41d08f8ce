use Rattle.std.proofs.Common.{◌≡◌, ◌+◌, ◌≤◌, length}
use Rattle.maildir_target.specs.inside.Seen.{IsBetween}
use Rattle.maildir_target.proofs.play.deliver_all.Given as goal

abbrev pub invariant-loop-rest : goal.invariant-loop-rest
invariant-loop-rest g l = record {
  few : l.message + length l.rest ≤ 1000;
  between : IsBetween g.D.Device.stands l.variant l.messages l.session l.mailbox l.message l.rest;
  given : l.session.given ≡ l.fn.session.given;
}

abbrev pub decreases-loop-rest : goal.decreases-loop-rest
decreases-loop-rest g l = length l.rest
