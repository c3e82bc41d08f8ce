use Rattle.std.proofs.Common.{◌≡◌, ◌++◌, ◌+◌, take, vec_len, vec_capacity}
use Rattle.action_eval.proofs.quiet.push_round.Given as goal

abbrev pub invariant-loop-point : goal.invariant-loop-point
invariant-loop-point l = record {
  items : l.hits.items ≡ l.fn.hits.items ++ take l.point-index l.points;
  len : vec_len l.hits ≡ vec_len l.fn.hits + l.point-index;
  room : vec_capacity l.hits ≡ vec_capacity l.fn.hits;
}
