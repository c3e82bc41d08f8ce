use Rattle.std.proofs.Common.{◌≡◌, ◌≤◌, ◌++◌, ◌+◌, ◌-◌, ◌*◌, length, vec_len, vec_capacity}
use Rattle.action_eval.specs.Answers.{rounds}
use Rattle.action_eval.proofs.quiet.push_rounds.Given as goal

abbrev pub invariant-loop : goal.invariant-loop
invariant-loop l = record {
  items : l.longer.items ≡ l.fn.hits.items ++ rounds l.counter l.points;
  room : vec_len l.longer + (l.times - l.counter) * length l.points ≤ vec_capacity l.longer;
}
