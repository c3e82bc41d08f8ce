use Rattle.std.proofs.Common.{◌≡◌, map, take}
use Rattle.std.specs.Prelude.{option_map}
use Rattle.grown_runs.proofs.known.growing.find_rest.Given as goal

abbrev pub invariant-loop-number : goal.invariant-loop-number
invariant-loop-number g l = record {
  found : map (option_map (λ r. g.T.RunTable.tells r.now)) l.runs.items ≡ map (g.T.RunTable.known l.table) (take l.number l.plans);
  kept : map (option_map (λ r. r.now)) l.runs.items ≡ map (g.T.RunTable.keeps l.table) (take l.number l.plans);
}
