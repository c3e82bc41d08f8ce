use Rattle.std.proofs.Common.{sym, subst}
use Rattle.std.specs.FinMap.{get}
use Rattle.ddmin_parallel.specs.CoreEvents.{position}
use Rattle.ddmin_parallel.specs.inside.CoreStates.{AreOpen}
use Rattle.ddmin_parallel.specs.inside.Stages.{position_of}
use Rattle.ddmin_parallel.specs.inside.Cursors.{IsReached, is_among}
use Rattle.ddmin_parallel.proofs.CoreLemmas.{open_without}
use Rattle.ddmin_parallel.proofs.Scans.{reset}
use Rattle.ddmin_parallel.proofs.reducer_core.Core.end_request.Goals as goal

pub invariant_of-self : goal.invariant_of-self
unfolding position
invariant_of-self c =
    let i = c.self.invariant in
    record {
      few = i.few;
      stands = i.stands;
      open_sets = subst (AreOpen c.self.inside.progress.known) (sym c.take_from-was_out.ensures.rest)
          (open_without c.self.inside.progress.known c.args.set.now c.self.inside.progress.out.items i.open_sets);
      reached = subst (IsReached (get c.self.inside.progress.known) (is_among c.take_from-was_out.new.out.items) (position_of c.self.inside.progress.stage))
          (sym c.at-self-inside.ensures)
          (reset (get c.self.inside.progress.known) (is_among c.take_from-was_out.new.out.items)
          (position_of c.self.inside.progress.stage) c.self.inside.progress.cursor.place i.reached.counted);
    }
