use Rattle.std.proofs.Common.{◌≡◌, map, take}
use Rattle.std.specs.List.{flat_map}
use Rattle.grown_runs.specs.GrownRuns.{over}
use Rattle.answered_runs.specs.grown.Causes.{cause_known, open_of, rigged_in, verdicts_in}
use Rattle.answered_runs.proofs.grown.causing.find_all.Given as goal

abbrev pub invariant-loop-number : goal.invariant-loop-number
invariant-loop-number l = record {
  causes : l.search.causes.items ≡ over (cause_known (verdicts_in l.known.answered l.known.depth)) l.known.list.plans 0 l.number;
  waiting : l.search.waiting.items ≡ map (rigged_in l.known.answered) (flat_map (open_of (verdicts_in l.known.answered l.known.depth)) (take l.number l.known.list.plans));
}
