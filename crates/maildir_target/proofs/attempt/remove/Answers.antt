use Rattle.std.proofs.Common.{refl}
use Rattle.maildir_target.proofs.Playing.{played_go, played_return, played_halt}
use Rattle.maildir_target.proofs.Readying.{ready_now}
use Rattle.maildir_target.proofs.attempt.remove.Goals as goal

pub unlink-requires : goal.unlink-requires
unlink-requires g c = record { named = c.requires.named; there = ready_now g.D.Device.names g.met.D.Device.led _ _ _ _ _ c.requires.at }

pub returns-in_ok-unlink-in-Go-clause-leads : goal.returns-in_ok-unlink-in-Go-clause-leads
returns-in_ok-unlink-in-Go-clause-leads g c =
    played_go _ c.requires.at refl _ c.in_ok-hit.ensures.ok _ c.in-Go.is c.in_ok-hit.ensures.told c.in_ok-hit.ensures.goes_on _ _
    (λ es k. record { tally = refl; device = c.in_ok-unlink-in-Go.ensures es k })

pub returns-in-Return-clause-leads : goal.returns-in-Return-clause-leads
returns-in-Return-clause-leads g c =
    played_return _ c.requires.at refl _ c.in_ok-hit.ensures.ok _ _ c.in-Return.is c.in_ok-hit.ensures.told c.in_ok-hit.ensures.goes_on _ _
    (λ es k. record { tally = refl; device = k })

pub returns-in-Halt-clause-leads : goal.returns-in-Halt-clause-leads
returns-in-Halt-clause-leads g c =
    played_halt _ c.requires.at refl _ c.in_ok-hit.ensures.ok _ c.in-Halt.is c.in_ok-hit.ensures.told
