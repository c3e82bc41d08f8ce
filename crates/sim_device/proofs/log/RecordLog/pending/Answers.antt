use Rattle.std.proofs.Common.{subst, sym, ap, ◌∙◌, drop, take, length, ◌-◌, List, arith}
use Rattle.sim_device.specs.LogEffects.{Log, LogStandsFor}
use Rattle.sim_device.proofs.LogLaws.{pending_slice}
use Rattle.sim_device.proofs.log.RecordLog.pending.Goals as goal

pub returns : goal.returns
returns g c = λ es h.
    ap (λ (l : List _). take (length l - c.self.inside.lasting) (drop c.self.inside.lasting l)) c.deref.ensures.value
    ∙ pending_slice es c.self.inside.records.items c.self.inside.lasting
    (omega (arith, c.self.invariant, c.deref.ensures.len, ap length c.deref.ensures.value)) (subst (λ (l : Log _). LogStandsFor l es) (sym c.self.view_is) h)
