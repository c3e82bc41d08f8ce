use Rattle.std.proofs.Common.{◌≡◌, ◌≤◌, ◌-◌, length, drop}
use Rattle.maildir_target.specs.Steps.{write_step}
use Rattle.maildir_target.specs.inside.Seen.{IsAt}
use Rattle.maildir_target.proofs.write.write_all.Given as goal

abbrev pub invariant-loop-at : goal.invariant-loop-at
invariant-loop-at g l = record {
  within : l.at ≤ length l.delivery.chunks.now;
  here : IsAt g.D.Device.stands l.delivery l.session l.mailbox (write_step (drop l.at l.delivery.chunks.now));
  given : l.session.given ≡ l.fn.session.given;
}

abbrev pub decreases-loop-at : goal.decreases-loop-at
decreases-loop-at g l = length l.delivery.chunks.now - l.at
