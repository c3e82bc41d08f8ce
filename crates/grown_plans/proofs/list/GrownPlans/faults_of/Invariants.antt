use Rattle.std.proofs.Common.{◌≡◌, ◌<◌, ◌++◌, [], length, get_or}
use Rattle.grown_plans.proofs.list.GrownPlans.faults_of.Given as goal

abbrev pub invariant-loop-number : goal.invariant-loop-number
invariant-loop-number l = record {
  within : l.number < length l.self;
  rest : l.faults.items ++ get_or l.self l.number [] ≡ get_or l.self l.fn.number [];
}

abbrev pub decreases-loop-number : goal.decreases-loop-number
decreases-loop-number l = l.number
