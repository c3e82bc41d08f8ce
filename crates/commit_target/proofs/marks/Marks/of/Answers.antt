use Rattle.std.proofs.Common.{◌+◌, ℕ, List, get_or, set, bit_or, arith, sym, subst, take}
use Rattle.std.proofs.Common.{length-set}
use Rattle.commit_target.specs.inside.Marks.{AreMarks}
use Rattle.commit_target.proofs.Sets.{one_mark}
use Rattle.commit_target.proofs.marks.Marks.of.Goals as goal

pub loop-record-preserved : goal.loop-record-preserved
loop-record-preserved c =
    let sets : List ℕ = c.loop-record.sets in
    let P : ℕ → Type 0 = λ n. AreMarks (set sets n (bit_or (get_or sets n 0) c.only.result)) (take (c.loop-record.record-index + 1) c.args.log.now) c.args.first in
    record {
      kinds = omega (arith, length-set {A = ℕ});
      marks = subst P (sym c.place_of.ensures) (one_mark sets c.args.log.now c.args.first c.loop-record.record-index _ c.only.result c.loop-record.invariant.kinds (omega arith) c.loop-record.invariant.marks c.only.ensures);
    }
