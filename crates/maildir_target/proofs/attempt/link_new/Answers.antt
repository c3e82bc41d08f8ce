use Rattle.std.proofs.Common.{◌≡◌, true, false, is_some, refl}
use Rattle.sim_device.specs.Disk.{entry_at}
use Rattle.maildir_target.proofs.Playing.{played_go, played_return, played_halt, shows_linked}
use Rattle.maildir_target.proofs.Readying.{ready_now}
use Rattle.maildir_target.specs.inside.Seen.{new_of_delivery}
use Rattle.maildir_target.proofs.attempt.link_new.Goals as goal

pub clean_up-requires : goal.clean_up-requires
clean_up-requires g c =
    let there : is_some (entry_at (g.D.Device.names c.args.mailbox.now.device) (new_of_delivery c.args.delivery.now)).live ≡ true = cc in
    record {
      named = c.requires.named;
      at = played_go _ c.requires.at refl _ c.in_ok-hit.ensures.ok _ c.in-Go.is c.in_ok-hit.ensures.told c.in_ok-hit.ensures.goes_on _ _
          (λ es k. shows_linked g.D.Device.names g.met.D.Device.led _ _ _ _ true there es k k);
    }

pub link-requires-clause-from : goal.link-requires-clause-from
link-requires-clause-from g c =
    ready_now g.D.Device.names g.met.D.Device.led _ _ _ _ _ c.requires.at

pub clean_up-requires-in-Return : goal.clean_up-requires-in-Return
clean_up-requires-in-Return g c =
    record {
      named = c.requires.named;
      at = played_return _ c.requires.at refl _ c.in_ok-hit.ensures.ok _ _ c.in-Return.is c.in_ok-hit.ensures.told c.in_ok-hit.ensures.goes_on _ _
          (λ es k. record { tally = refl; device = k });
    }

pub returns-in_ok-link-in-Go-clause-leads : goal.returns-in_ok-link-in-Go-clause-leads
returns-in_ok-link-in-Go-clause-leads g c =
    let free : is_some (entry_at (g.D.Device.names c.args.mailbox.now.device) (new_of_delivery c.args.delivery.now)).live ≡ false = cc in
    played_go _ c.requires.at refl _ c.in_ok-hit.ensures.ok _ c.in-Go.is c.in_ok-hit.ensures.told c.in_ok-hit.ensures.goes_on _ _
    (λ es k. shows_linked g.D.Device.names g.met.D.Device.led _ _ _ _ false free es k (c.in_ok-link-in-Go.ensures es k))

pub returns-in-Halt-clause-leads : goal.returns-in-Halt-clause-leads
returns-in-Halt-clause-leads g c =
    played_halt _ c.requires.at refl _ c.in_ok-hit.ensures.ok _ c.in-Halt.is c.in_ok-hit.ensures.told
