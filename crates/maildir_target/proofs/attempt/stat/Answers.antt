use Rattle.std.proofs.Common.{◌≡◌, true, false, is_some, refl}
use Rattle.sim_device.specs.Disk.{entry_at}
use Rattle.maildir_target.proofs.Playing.{played_go, played_fail, played_halt, shows_looked, failed_any}
use Rattle.maildir_target.specs.Steps.{Looking, Over}
use Rattle.maildir_target.specs.inside.Seen.{tally_at, written_of_delivery}
use Rattle.maildir_target.proofs.attempt.stat.Goals as goal

pub returns-then-exists-clause-leads : goal.returns-then-exists-clause-leads
returns-then-exists-clause-leads g c =
    let there : is_some (entry_at (g.D.Device.names c.args.mailbox.now.device) (written_of_delivery c.args.delivery.now)).live ≡ true = cc in
    played_go _ c.requires.at refl _ c.in_ok-hit.ensures.ok _ c.in-Go.is c.in_ok-hit.ensures.told c.in_ok-hit.ensures.goes_on _ _
    (shows_looked g.D.Device.names g.met.D.Device.led _ _ _ true there _ (failed_any _ (tally_at c.args.delivery.now c.args.mailbox.now Looking) Over))

pub returns-else-exists-clause-leads : goal.returns-else-exists-clause-leads
returns-else-exists-clause-leads g c =
    let free : is_some (entry_at (g.D.Device.names c.args.mailbox.now.device) (written_of_delivery c.args.delivery.now)).live ≡ false = cc in
    played_go _ c.requires.at refl _ c.in_ok-hit.ensures.ok _ c.in-Go.is c.in_ok-hit.ensures.told c.in_ok-hit.ensures.goes_on _ _
    (shows_looked g.D.Device.names g.met.D.Device.led _ _ _ false free _ refl)

pub returns-in-Return-clause-leads : goal.returns-in-Return-clause-leads
returns-in-Return-clause-leads g c =
    played_fail _ c.requires.at refl _ c.in_ok-hit.ensures.ok _ _ c.in-Return.is c.in_ok-hit.ensures.told c.in_ok-hit.ensures.goes_on (λ es. refl)

pub returns-in-Halt-clause-leads : goal.returns-in-Halt-clause-leads
returns-in-Halt-clause-leads g c =
    played_halt _ c.requires.at refl _ c.in_ok-hit.ensures.ok _ c.in-Halt.is c.in_ok-hit.ensures.told
