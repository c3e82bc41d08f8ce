use Rattle.std.proofs.Common.{[], List, sym, subst}
use Rattle.commit_target.specs.declared.records.Record.{Record}
use Rattle.commit_target.specs.inside.Marks.{AreMarks}
use Rattle.commit_target.proofs.marked.MarkedLog.clear.Goals as goal

pub invariant_of-self : goal.invariant_of-self
invariant_of-self c = record {
  effects = [];
  stands = c.clear.ensures;
  marks = subst (λ (log : List Record). AreMarks c.none-self-inside.result.sets log 0) (sym c.clear.ensures.live) (c.none-self-inside.ensures 0);
}
