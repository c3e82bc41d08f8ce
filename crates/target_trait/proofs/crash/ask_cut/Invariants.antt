use Rattle.std.proofs.Common.{◌≡◌, ◌-◌, ◌≤◌, length}
use Rattle.target_trait.specs.Cuts.{CutAsked}
use Rattle.target_trait.proofs.crash.ask_cut.Given as goal

abbrev pub invariant-loop-session : goal.invariant-loop-session
invariant-loop-session l = record {
  given : l.session.given ≡ l.fn.session.given;
  asked : CutAsked l.keep l.pending l.fn.session l.session l.kept.items;
  few : length l.kept.items ≤ l.pending;
}

abbrev pub decreases-loop-session : goal.decreases-loop-session
decreases-loop-session l = l.pending - length l.kept.items
