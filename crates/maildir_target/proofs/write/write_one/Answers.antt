use Rattle.std.proofs.Common.{refl}
use Rattle.maildir_target.proofs.Playing.{played_go, played_return, played_halt}
use Rattle.maildir_target.proofs.Readying.{ready_now}
use Rattle.maildir_target.proofs.Writing.{appends_as}
use Rattle.maildir_target.proofs.write.write_one.Goals as goal

pub append-requires : goal.append-requires
append-requires g c = record { named = c.requires.named; there = ready_now g.D.Device.names g.met.D.Device.led _ _ _ _ _ c.requires.at }

pub append-requires-in-Return : goal.append-requires-in-Return
append-requires-in-Return g c = record { named = c.requires.named; there = ready_now g.D.Device.names g.met.D.Device.led _ _ _ _ _ c.requires.at }

pub go_on-requires : goal.go_on-requires
go_on-requires g c =
    record {
      named = c.requires.named;
      at = played_return _ c.requires.at refl _ c.in_ok-hit.ensures.ok _ _ c.in-Return.is c.in_ok-hit.ensures.told c.in_ok-hit.ensures.goes_on _ _
          (λ es k. record { tally = refl; device = appends_as g.D.Device.stands _ _ _ _ _ c.half.ensures c.in_ok-append-in-Return.ensures es k });
    }

pub returns-in_ok-append-in-Go-clause-leads : goal.returns-in_ok-append-in-Go-clause-leads
returns-in_ok-append-in-Go-clause-leads g c =
    played_go _ c.requires.at refl _ c.in_ok-hit.ensures.ok _ c.in-Go.is c.in_ok-hit.ensures.told c.in_ok-hit.ensures.goes_on _ _
    (λ es k. record { tally = refl; device = appends_as g.D.Device.stands _ _ _ _ _ c.chunk.ensures c.in_ok-append-in-Go.ensures es k })

pub returns-in-Halt-clause-leads : goal.returns-in-Halt-clause-leads
returns-in-Halt-clause-leads g c = played_halt _ c.requires.at refl _ c.in_ok-hit.ensures.ok _ c.in-Halt.is c.in_ok-hit.ensures.told
