use Rattle.file_replace.proofs.Playing.{known_point, played_go, played_return, played_halt}
use Rattle.file_replace.proofs.Readying.{ready_now}
use Rattle.file_replace.proofs.play.ask.Goals as goal

pub hit-requires-clause-known : goal.hit-requires-clause-known
hit-requires-clause-known g c = known_point _ _ _ c.requires.next c.requires.points

pub go-requires : goal.go-requires
go-requires g c = ready_now g.D.Device.names g.met.D.Device.led c.args.variant c.args.workload.now _ _ _ c.requires.played

pub fail-requires : goal.fail-requires
fail-requires g c = ready_now g.D.Device.names g.met.D.Device.led c.args.variant c.args.workload.now _ _ _ c.requires.played

pub returns-in_ok-go-in-Go-clause-played : goal.returns-in_ok-go-in-Go-clause-played
returns-in_ok-go-in-Go-clause-played g c =
    played_go c.args.variant c.args.workload.now _ _ _ _ c.requires.played c.requires.next _ c.in_ok-hit.ensures.ok _ c.in-Go.is
    c.in_ok-hit.ensures.told c.in_ok-hit.ensures.goes_on _ _ c.in_ok-go-in-Go.ensures

pub returns-in_ok-fail-in-Return-clause-played : goal.returns-in_ok-fail-in-Return-clause-played
returns-in_ok-fail-in-Return-clause-played g c =
    played_return c.args.variant c.args.workload.now _ _ _ _ c.requires.played c.requires.next _ c.in_ok-hit.ensures.ok _ _ c.in-Return.is
    c.in_ok-hit.ensures.told c.in_ok-hit.ensures.goes_on _ _ c.in_ok-fail-in-Return.ensures

pub returns-in-Halt-clause-played : goal.returns-in-Halt-clause-played
returns-in-Halt-clause-played g c =
    played_halt c.args.variant c.args.workload.now _ _ _ _ c.requires.played c.requires.next _ c.in_ok-hit.ensures.ok _ c.in-Halt.is
    c.in_ok-hit.ensures.told _ c.go_to.ensures
