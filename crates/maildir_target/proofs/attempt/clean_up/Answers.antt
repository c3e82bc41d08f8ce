use Rattle.std.proofs.Common.{refl, ap}
use Rattle.maildir_target.proofs.Playing.{played_go, played_return, played_halt, failed_any, stays_over, fails_over}
use Rattle.maildir_target.proofs.Readying.{ready_now}
use Rattle.action_eval.specs.Answers.{Run}
use Rattle.maildir_target.specs.Steps.{Cleaning, Over}
use Rattle.maildir_target.specs.inside.Seen.{tally_at}
use Rattle.maildir_target.proofs.attempt.clean_up.Goals as goal

pub unlink-requires : goal.unlink-requires
unlink-requires g c = record { named = c.requires.named; there = ready_now g.D.Device.names g.met.D.Device.led _ _ _ _ _ c.requires.at }

pub returns-in-Ok-clause-ended : goal.returns-in-Ok-clause-ended
returns-in-Ok-clause-ended g c =
    played_go _ c.requires.at refl _ c.in-Ok-Go.ensures.ok _ c.in-Ok-Go.field-0-is c.in-Ok-Go.ensures.told c.in-Ok-Go.ensures.goes_on _ _
    (λ es k. record { tally = failed_any _ (tally_at c.args.delivery.now c.args.mailbox.now Cleaning) Over; device = c.in-Ok.ensures es k })

pub returns-in-DeliverInNew-clause-ended : goal.returns-in-DeliverInNew-clause-ended
returns-in-DeliverInNew-clause-ended g c =
    played_return _ c.requires.at refl _ c.in-Ok-Return.ensures.ok _ _ c.in-Ok-Return.field-0-is c.in-Ok-Return.ensures.told c.in-Ok-Return.ensures.goes_on _ _
    (λ es k. record { tally = stays_over _ (tally_at c.args.delivery.now c.args.mailbox.now Cleaning) c.in-DeliverInNew.is; device = k })

pub returns-in-Sound : goal.returns-in-Sound
returns-in-Sound g c = record {
  ended =
      played_return _ c.requires.at refl _ c.in-Ok-Return.ensures.ok _ _ c.in-Ok-Return.field-0-is c.in-Ok-Return.ensures.told c.in-Ok-Return.ensures.goes_on _ _
      (λ es k. record { tally = fails_over _ (tally_at c.args.delivery.now c.args.mailbox.now Cleaning) c.in-Sound.is; device = k });
  given = ap (λ (r : Run). r.given) c.in-Ok-Return.ensures.ok;
}

pub returns-in-Ok-Halt-clause-ended : goal.returns-in-Ok-Halt-clause-ended
returns-in-Ok-Halt-clause-ended g c =
    played_halt _ c.requires.at refl _ c.in-Ok-Halt.ensures.ok _ c.in-Ok-Halt.field-0-is c.in-Ok-Halt.ensures.told
