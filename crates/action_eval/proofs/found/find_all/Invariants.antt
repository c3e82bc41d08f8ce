use Rattle.std.proofs.Common.{◌≡◌, length, map, take}
use Rattle.action_eval.specs.inside.Session.{AreSpans, seen_in, found_of, head_of}
use Rattle.action_eval.proofs.found.find_all.Given as goal

abbrev pub invariant-loop-point : goal.invariant-loop-point
invariant-loop-point l = record {
  many : length l.spans.items ≡ length l.catalogue;
  all : length l.heads.items ≡ length l.catalogue;
  are : AreSpans l.scenario (take l.point l.spans.items);
  found : map (seen_in l.scenario) (take l.point l.spans.items) ≡ map (λ n. found_of l.scenario n.now) (take l.point l.catalogue);
  heads : take l.point l.heads.items ≡ map head_of (map (seen_in l.scenario) (take l.point l.spans.items));
}
