use Rattle.std.proofs.Common.{subst}
use Rattle.std.specs.List.{AllByRecursion}
use Rattle.grown_plans.proofs.Members.{all_map}
use Rattle.answered_runs.specs.Answered.{Answered, CanBeListed}
use Rattle.answered_runs.proofs.table.AnsweredRuns.points.Goals as goal

pub returns-clause-listed : goal.returns-clause-listed
returns-clause-listed c =
    subst (λ (a : Answered). AllByRecursion CanBeListed a.listed) c.self.view_is
    (all_map CanBeListed (λ kinds. kinds.items) c.self.inside.listed.now c.self.invariant.1)
