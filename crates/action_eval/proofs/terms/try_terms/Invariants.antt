use Rattle.std.proofs.Common.{◌≡◌, ◌≤◌, ◌+◌, drop}
use Rattle.action_eval.specs.Words.{word}
use Rattle.action_eval.specs.Trial.{tried, is_spent}
use Rattle.action_eval.proofs.terms.try_terms.Given as goal

-- what is left to try gives what all gives
abbrev pub invariant-loop-place : goal.invariant-loop-place
invariant-loop-place l = record {
  seed : l.draws.seed ≡ l.fn.draws.seed;
  stream : l.draws.stream ≡ l.fn.draws.stream;
  few : l.draws.taken + l.unseen ≤ l.fn.draws.taken + l.place;
  same : tried (word l.fn.draws.seed l.fn.draws.stream) (is_spent l.left) 0 l.terms l.fn.draws.taken ≡ tried (word l.fn.draws.seed l.fn.draws.stream) (is_spent l.left) l.place (drop l.place l.terms) (l.draws.taken + l.unseen);
}
