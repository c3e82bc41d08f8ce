use Rattle.std.proofs.Common.{◌≡◌, length}
use Rattle.std.specs.Prelude.{All}
use Rattle.part_tests.proofs.workers.workers_of.Given as goal

abbrev pub invariant-loop-made : goal.invariant-loop-made
invariant-loop-made g l =
    let answers = g.P.Probe.answers in
    record {
      count : length l.workers.items ≡ l.made;
      alike : All (λ p. answers p ≡ answers l.probe) l.workers.items;
    }
