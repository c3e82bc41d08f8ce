use Rattle.std.proofs.Common.{◌≤◌, length, subst}
use Rattle.std.specs.List.{AllByRecursion}
use Rattle.grown_plans.specs.Promises.{CanBeTried}
use Rattle.grown_plans.proofs.Members.{all_map, all_weaker}
use Rattle.answered_runs.specs.Answered.{Answered, CanBeListed}
use Rattle.answered_runs.proofs.table.AnsweredRuns.listed.Goals as goal

pub returns-clause-few : goal.returns-clause-few
returns-clause-few c = all_weaker (λ kinds. CanBeListed kinds.items) (λ kinds. length kinds.items ≤ 8) (λ kinds can. can.few) c.self.inside.listed.now c.self.invariant.1

pub returns-clause-lawful : goal.returns-clause-lawful
returns-clause-lawful c =
    subst (λ (a : Answered). AllByRecursion CanBeTried a.listed) c.self.view_is
    (all_map CanBeTried (λ kinds. kinds.items) c.self.inside.listed.now
    (all_weaker (λ kinds. CanBeListed kinds.items) (λ kinds. CanBeTried kinds.items) (λ kinds can. can.tried) c.self.inside.listed.now c.self.invariant.1))
