use Rattle.std.proofs.Common.{◌≡◌, ◌<◌, ◌++◌, ◌∷◌, [], List, Some, length, ap, sym, subst, ◌∙◌}
use Rattle.std.specs.Prelude.{slice_get}
use Rattle.answered_runs.specs.declared.segments.Segment.{Segment}
use Rattle.answered_runs.specs.inside.Segments.{AreLaid, expand}
use Rattle.answered_runs.proofs.Leading.{at_end, said_early, within_all}
use Rattle.answered_runs.specs.inside.Trees.{Tree}
use Rattle.answered_runs.proofs.tree.AnswerTree.said.Goals as goal

pub returns-then-place-self : goal.returns-then-place-self
returns-then-place-self c =
    subst (λ (t : Tree). slice_get t.said c.args.place ≡ Some c.self.inside.said) c.self.view_is
    (ap (slice_get (expand c.self.inside.segments.items ++ c.self.inside.said ∷ [])) c.if-place-self.true ∙ at_end c.self.inside.segments.items c.self.inside.last c.self.inside.said c.self.invariant.0)

pub said_at-requires : goal.said_at-requires
said_at-requires c =
    let within = subst (λ (t : Tree). c.args.place < length t.said) (sym c.self.view_is) c.requires in
    let early : c.args.place < c.self.inside.last = within_all c.self.inside.segments.items c.self.inside.last c.args.place c.self.inside.said c.self.invariant.0 within c.if-place-self.false in
    (c.self.inside.last, subst (λ (ss : List Segment). AreLaid 0 ss c.self.inside.last) (sym c.as_slice.ensures.value) c.self.invariant.0, early)

pub returns : goal.returns
returns c =
    subst (λ (t : Tree). slice_get t.said c.args.place ≡ Some c.said_at.result) c.self.view_is
    (said_early c.self.inside.segments.items c.args.place c.self.inside.said c.said_at.result (ap (λ (ss : List Segment). slice_get (expand ss) c.args.place) (sym c.as_slice.ensures.value) ∙ c.said_at.ensures))
