use Rattle.std.proofs.Common.{[], ◌∙◌, List, sym, subst}
use Rattle.sim_device.specs.LogEffects.{LogStandsFor, survivors}
use Rattle.commit_target.specs.declared.records.Record.{Record}
use Rattle.commit_target.specs.inside.Marks.{AreMarks}
use Rattle.commit_target.proofs.Fronts.{forcing, all_last}
use Rattle.commit_target.proofs.marked.MarkedLog.restart_keeping.Goals as goal

pub invariant_of-self : goal.invariant_of-self
invariant_of-self c =
    let left : List Record = survivors c.self.invariant.effects c.args.keep.now in
    let stands : LogStandsFor c.restart_keeping.new.self (forcing left []) = all_last left _ (c.restart_keeping.ensures _ c.self.invariant.stands) in
    record {
      effects = forcing left [];
      stands = stands;
      marks = subst (λ (log : List Record). AreMarks c.of-self-inside.result.sets log 0) (c.records.ensures _ stands ∙ sym stands.live) c.of-self-inside.ensures;
    }
