use Rattle.std.proofs.Common.{refl}
use Rattle.maildir_target.proofs.Playing.{played_go, played_return, played_halt, begun_any, begun_acknowledged}
use Rattle.maildir_target.specs.Steps.{SyncingDir, Over}
use Rattle.maildir_target.specs.inside.Seen.{tally_at}
use Rattle.maildir_target.proofs.attempt.acknowledge.Goals as goal

pub returns-in-Ok-clause-delivers : goal.returns-in-Ok-clause-delivers
returns-in-Ok-clause-delivers g c =
    played_go _ c.requires.at refl _ c.in_ok-hit.ensures.ok _ c.in-Go.is c.in_ok-hit.ensures.told c.in_ok-hit.ensures.goes_on _ _
    (λ es k. record { tally = begun_acknowledged _ (tally_at c.args.delivery.now c.args.mailbox.now SyncingDir) _ c.in-Ok.ensures.items; device = c.sync_dir.ensures es k })

pub returns-in-Return-clause-delivers : goal.returns-in-Return-clause-delivers
returns-in-Return-clause-delivers g c =
    played_return _ c.requires.at refl _ c.in_ok-hit.ensures.ok _ _ c.in-Return.is c.in_ok-hit.ensures.told c.in_ok-hit.ensures.goes_on _ _
    (λ es k. record { tally = begun_any _ (tally_at c.args.delivery.now c.args.mailbox.now SyncingDir) Over _; device = k })

pub returns-in-Halt-clause-delivers : goal.returns-in-Halt-clause-delivers
returns-in-Halt-clause-delivers g c =
    played_halt _ c.requires.at refl _ c.in_ok-hit.ensures.ok _ c.in-Halt.is c.in_ok-hit.ensures.told
