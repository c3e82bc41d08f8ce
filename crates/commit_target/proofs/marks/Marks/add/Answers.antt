use Rattle.std.proofs.Common.{◌≡◌, ◌∷◌, ◌++◌, [], ℕ, List, length, get_or, set, bit_or, arith, sym, subst}
use Rattle.commit_target.specs.inside.Marks.{AreMarks}
use Rattle.commit_target.proofs.Sets.{mark_added}
use Rattle.commit_target.proofs.marks.Marks.add.Goals as goal

pub returns : goal.returns
returns c = λ log marks.
    let sets : List ℕ = c.args.self.now.sets in
    let four : length sets ≡ 4 = omega arith in
    subst (λ (n : ℕ). AreMarks (set sets n (bit_or (get_or sets n 0) c.only.result)) (log ++ c.args.entry ∷ []) c.args.first) (sym c.place_of.ensures)
    (mark_added sets log c.args.first c.args.entry c.only.result four marks c.only.ensures)
