use Rattle.std.proofs.Common.{◌≡◌, ◌+◌}
use Rattle.action_eval.proofs.draws.pass_over.Given as goal

abbrev pub invariant-loop : goal.invariant-loop
invariant-loop l = record {
  key : l.generator.key ≡ l.fn.generator.key;
  stream : l.generator.stream ≡ l.fn.generator.stream;
  place : l.generator.word_pos ≡ l.fn.generator.word_pos + l.counter;
}
