use Rattle.std.proofs.Common.{◌≡◌, ◌+◌, ◌-◌, false, length}
use Rattle.target_trait.specs.Machine.{Reached}
use Rattle.target_trait.specs.Play.{IsRunning}
use Rattle.target_trait.specs.Protocol.{by_table}
use Rattle.target_trait.proofs.protocol.play_out.Given as goal

abbrev pub invariant-loop-point : goal.invariant-loop-point
invariant-loop-point g l = record {
  given : l.session.given ≡ l.fn.session.given;
  here : Reached (by_table (g.P.Protocol.table l.protocol l.workload)) l.session (l.state, false);
  running : IsRunning ((g.P.Protocol.table l.protocol l.workload).point l.state) l.session;
}

abbrev pub decreases-loop-point : goal.decreases-loop-point
decreases-loop-point g l = l.session.given.limit + 1 - length l.session.hits
