use Rattle.std.proofs.Common.{◌≡◌}
use Rattle.std.specs.List.{slice_range}
use Rattle.result_book.specs.Says.{input_says}
use Rattle.result_book.specs.Verdicts.{verdicts_from}
use Rattle.result_book.specs.Runs.{input_runs, runs_from, unreached_of}
use Rattle.result_book.proofs.range.PlanRange.run_over.Given as goal

abbrev pub invariant-loop-number : goal.invariant-loop-number
invariant-loop-number g l = record {
  setup : l.target ≡ l.fn.target;
  verdicts : l.verdicts.items ≡ verdicts_from
      (input_says g.T.Target l.fn.target l.input)
      l.fn.numbers.start (slice_range l.input.plans.now l.fn.numbers.start l.number);
  unreached : l.unreached.items ≡ unreached_of l.input.watched.now
      (runs_from (input_runs g.T.Target l.fn.target l.input) l.fn.numbers.start (slice_range l.input.plans.now l.fn.numbers.start l.number));
}
