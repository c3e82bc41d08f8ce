use Rattle.std.proofs.Common.{sym, ◌∙◌, ap, subst}
use Rattle.ddmin_parallel.specs.CoreEvents as core
use Rattle.ddmin_parallel.specs.Logs.{Tells}
use Rattle.ddmin_parallel.proofs.BoardLemmas.{backed_tells}
use Rattle.ddmin_parallel.proofs.workers.gathered.Goals as goal

pub finish-requires-clause-tells : goal.finish-requires-clause-tells
finish-requires-clause-tells g c κs within =
    let test = g.P.Probe.answers c.args.probe.now in
    subst (Tells c.args.faults test) (sym (c.recall.ensures ∙ ap (λ s. core.apply s core.Recall) c.into_core-core.ensures))
    (backed_tells test c.args.board c.args.faults c.args.pairs.now c.requires.own (sym c.is_backed_by-is_backed.ensures ∙ c.if-is_backed.true))
