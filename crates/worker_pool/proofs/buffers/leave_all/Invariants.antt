use Rattle.std.proofs.Common.{◌≡◌, ◌≤◌, map, length, vec_len, vec_capacity}
use Rattle.worker_pool.proofs.buffers.leave_all.Given as goal

abbrev pub invariant-loop-active : goal.invariant-loop-active
invariant-loop-active g l = record {
  workers : l.workers.items ≡ map (λ s. s.worker) l.yielded;
  answers : l.answers.items ≡ map (λ s. s.answers) l.yielded;
  many : (vec_len l.workers ≡ length l.yielded) × (vec_len l.answers ≡ length l.yielded);
  room : (vec_len l.fn.team ≤ vec_capacity l.workers) × (vec_len l.fn.team ≤ vec_capacity l.answers);
}
