use Rattle.std.proofs.Common.{◌≡◌, ◌≤◌, [], All, map, length, vec_len, vec_capacity}
use Rattle.worker_pool.proofs.buffers.begin_all.Given as goal

abbrev pub invariant-loop-worker : goal.invariant-loop-worker
invariant-loop-worker g l = record {
  workers : map (λ s. s.worker) l.team.items ≡ l.yielded;
  rest : All (λ s. s.answers.items ≡ []) l.team.items;
  many : vec_len l.team ≡ length l.yielded;
  room : vec_len l.fn.workers ≤ vec_capacity l.team;
}
