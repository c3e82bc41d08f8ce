use Rattle.std.proofs.Common.{length, subst, ap, sym, arith}
use Rattle.sim_device.specs.LogEffects.{Log, LogStandsFor}
use Rattle.sim_device.proofs.LogLaws.{restarted}
use Rattle.sim_device.proofs.log.RecordLog.restart_keeping.Goals as goal

pub returns : goal.returns
returns g c = λ es h.
    restarted es c.self.inside.records.items c.truncate.new.self.items c.self.inside.lasting c.min.result c.args.keep.now (omega (arith, c.self.invariant, c.as_slice.ensures.len, ap length c.as_slice.ensures.value))
    (subst (λ (l : Log _). LogStandsFor l es) (sym c.self.view_is) h)
    (λ few. omega (arith, c.min.ensures, c.kept_front-kept.ensures, c.as_slice.ensures.len, ap length c.as_slice.ensures.value, few)) (λ past. omega (arith, c.min.ensures, c.kept_front-kept.ensures, c.as_slice.ensures.len, ap length c.as_slice.ensures.value, past))
    c.truncate.ensures.items
