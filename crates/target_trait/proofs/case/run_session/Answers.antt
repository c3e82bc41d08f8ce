use Rattle.std.proofs.Common.{ap}
use Rattle.target_trait.specs.Outcomes.{Told}
use Rattle.target_trait.proofs.Halted.{whole}
use Rattle.target_trait.proofs.Plays.{given_with, told_is}
use Rattle.target_trait.proofs.Verdicts.{verdict_told}
use Rattle.target_trait.proofs.case.run_session.Goals as goal

pub returns-clause-ok : goal.returns-clause-ok
returns-clause-ok g c =
    verdict_told _ _ _ _ _ _ _ _ _ _ (given_with _ _ _ c.run.ensures.given c.requires.points) (whole _ _ (g.met.T.Target.halts _ _) _ _ c.in_ok-judgement.ensures.play) c.trace.ensures.within c.verdict_of.ensures c.stopped.ensures

pub returns-clause-asked : goal.returns-clause-asked
returns-clause-asked g c =
    ap (λ (t : Told). t.asked) (told_is _ _ _ _ c.run.ensures.given (whole _ _ (g.met.T.Target.halts _ _) _ _ c.in_ok-judgement.ensures.play) c.trace.ensures.within)
