use Rattle.std.proofs.Common.{subst}
use Rattle.answered_runs.specs.Agreement.{AreContradicted, AreOfOne, IsContradiction}
use Rattle.answered_runs.specs.Answered.{Answered}
use Rattle.outside_campaign.proofs.with_depth.grown.known_plans.Goals as goal

pub returns-in_default-clause-agree : goal.returns-in_default-clause-agree
returns-in_default-clause-agree c =
    let k = c.in_ok-known.known in
    subst AreOfOne c.in_ok-known.ensures.known.0 (subst (AreContradicted k.answered) c.in_default.is c.in_ok-found.ensures.found)

pub returns-clause-fault : goal.returns-clause-fault
returns-clause-fault c = λ asked.
    let k = c.in_ok-known.known in
    subst (λ (a : Answered). IsContradiction a c.in-Some.found) c.in_ok-known.ensures.known.0 (subst (AreContradicted k.answered) c.in-Some.is c.in_ok-found.ensures.found)
