use Rattle.std.proofs.Common.{[], List, sym, subst}
use Rattle.commit_target.specs.declared.records.Record.{Record}
use Rattle.commit_target.specs.inside.Marks.{AreMarks}
use Rattle.commit_target.proofs.marked.MarkedLog.new.Goals as goal

pub invariant_of-result : goal.invariant_of-result
invariant_of-result c = record {
  effects = [];
  stands = c.new.ensures;
  marks = subst (λ (log : List Record). AreMarks c.none.result.sets log 0) (sym c.new.ensures.live) (c.none.ensures 0);
}
