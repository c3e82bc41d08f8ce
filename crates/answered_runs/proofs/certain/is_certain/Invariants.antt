use Rattle.std.proofs.Common.{◌≡◌, true, take}
use Rattle.std.specs.List.{list_all}
use Rattle.answered_runs.specs.Agreement.{is_sure}
use Rattle.answered_runs.proofs.certain.is_certain.Given as goal

abbrev pub invariant-loop-entry : goal.invariant-loop-entry
invariant-loop-entry l = list_all (λ e. list_all is_sure e.1) (take l.entry l.scenario) ≡ true
