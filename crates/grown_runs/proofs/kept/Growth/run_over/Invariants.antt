use Rattle.std.proofs.Common.{◌≡◌, ◌-◌}
use Rattle.grown_runs.specs.inside.Growths.{IsGrowthOn, subject_on}
use Rattle.grown_runs.specs.inside.Beginnings.{TellsParent}
use Rattle.grown_runs.proofs.kept.Growth.run_over.Given as goal

abbrev pub invariant-loop-number : goal.invariant-loop-number
invariant-loop-number g l = record {
  setup : l.target ≡ l.fn.target;
  begun : TellsParent (subject_on g.T.Target l.fn.target l.input) l.input.limits.seed l.input.plans.now l.workspace.begun;
  grown : IsGrowthOn g.T.Target l.fn.target l.input l.fn.numbers.start (l.number - l.fn.numbers.start) l.growth;
}
