use Rattle.commit_target.proofs.Playing.{answered_go, answered_return, answered_halt}
use Rattle.commit_target.proofs.cut.ask.Goals as goal

pub returns-in-Go-clause-answered : goal.returns-in-Go-clause-answered
returns-in-Go-clause-answered c = λ v w t logs k at.
    answered_go v w _ t logs _ k at _ c.in_ok-hit.ensures.ok _ c.in-Go.is c.in_ok-hit.ensures.told c.in_ok-hit.ensures.goes_on

pub returns-in-Return-clause-answered : goal.returns-in-Return-clause-answered
returns-in-Return-clause-answered c = λ v w t logs k at.
    answered_return v w _ t logs _ k at _ c.in_ok-hit.ensures.ok _ _ c.in-Return.is c.in_ok-hit.ensures.told c.in_ok-hit.ensures.goes_on

pub returns-in-Halt-clause-answered : goal.returns-in-Halt-clause-answered
returns-in-Halt-clause-answered c = λ v w t logs k at.
    answered_halt v w _ t logs _ k at _ c.in_ok-hit.ensures.ok _ c.in-Halt.is c.in_ok-hit.ensures.told
