use Rattle.std.proofs.Common.{◌≡◌, not}
use Rattle.grown_runs.specs.GrownRuns.{fails_with, told_of_rigs}
use Rattle.grown_runs.specs.inside.Growths.{subject_on}
use Rattle.grown_runs.proofs.Lesser.{AreFine}
use Rattle.grown_runs.proofs.causes.is_cause.Given as goal

abbrev pub invariant-loop-left_out : goal.invariant-loop-left_out
invariant-loop-left_out g l = record {
  setup : l.target ≡ l.fn.target;
  fine : AreFine (λ less. not (fails_with l.failed.code (told_of_rigs (subject_on g.T.Target l.fn.target l.input) l.input.limits.seed l.failed.number less).verdict)) l.failed.rigs.now l.left_out;
}
