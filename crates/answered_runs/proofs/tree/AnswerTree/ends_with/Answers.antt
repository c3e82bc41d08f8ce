use Rattle.std.proofs.Common.{◌≡◌, ◌+◌, Some, length, subst}
use Rattle.std.specs.Prelude.{slice_get}
use Rattle.answered_runs.specs.inside.Trees.{Tree}
use Rattle.answered_runs.proofs.GoingOn.{ends}
use Rattle.answered_runs.proofs.tree.AnswerTree.ends_with.Goals as goal

pub returns-then-place-self : goal.returns-then-place-self
returns-then-place-self c = λ same.
    subst (λ (t : Tree). (length t.said ≡ c.args.place + 1) × (slice_get t.said c.args.place ≡ Some c.args.said)) c.self.view_is
    (ends c.self.inside.segments.items c.self.inside.last c.args.place c.self.inside.said c.args.said c.self.invariant.0 c.if-place-self.true (c.is_same.ensures same))
