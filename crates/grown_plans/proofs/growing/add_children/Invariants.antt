use Rattle.std.proofs.Common.{◌≡◌, ◌++◌, ◌||◌, [], true, take, drop}
use Rattle.std.specs.List.{flat_map, list_any}
use Rattle.grown_plans.specs.AskedPoints.{AreCounts, sites_from, is_point_of, is_asked_again}
use Rattle.grown_plans.specs.GrownPlans.{kinds_at}
use Rattle.grown_plans.specs.Kept.{kept_at, kept_children}
use Rattle.grown_plans.specs.inside.Counted.{sites_left}
use Rattle.grown_plans.proofs.growing.add_children.Given as goal

abbrev pub invariant-loop-point : goal.invariant-loop-point
invariant-loop-point l =
    let left = sites_left l.is_past l.plan (sites_from (take l.point-index l.asked) (drop l.point-index l.asked)) in
    record {
      counts : AreCounts l.counts.items (take l.point-index l.asked);
      built : l.children.items ++ flat_map (kept_at (kinds_at l.kinds) l.number) left ≡ l.fn.children.items ++ kept_children (kinds_at l.kinds) l.number l.plan l.asked;
      again : (l.is_again || list_any (λ s. is_point_of l.plan s.point) left) ≡ is_asked_again l.plan l.asked;
      begun : l.plan ≡ [] → l.is_past ≡ true;
    }
