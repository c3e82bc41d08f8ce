use Rattle.std.proofs.Common.{sym, subst}
use Rattle.ddmin_parallel.specs.Logs.{Tells}
use Rattle.ddmin_parallel.proofs.BoardLemmas.{tells_start}
use Rattle.ddmin_parallel.proofs.by_core.reduce_by_core.Goals as goal

pub finish-requires-clause-tells : goal.finish-requires-clause-tells
finish-requires-clause-tells g c κs within =
    subst (Tells c.args.faults (g.P.Probe.answers c.args.probe.now)) (sym c.start.ensures) (tells_start c.args.faults (g.P.Probe.answers c.args.probe.now))
