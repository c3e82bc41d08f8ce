use Rattle.std.proofs.Common.{◌≡◌, ◌≤◌, ◌*◌, flat_map, length, take}
use Rattle.grown_plans.specs.GrownPlans.{kinds_at}
use Rattle.grown_plans.proofs.kinds.Kinds.count.Given as goal

abbrev pub invariant-loop-point : goal.invariant-loop-point
invariant-loop-point l = record {
  counted : l.count ≡ length (flat_map (kinds_at l.self) (take l.point-index l.points));
  few : l.count ≤ 8 * l.point-index;
}
