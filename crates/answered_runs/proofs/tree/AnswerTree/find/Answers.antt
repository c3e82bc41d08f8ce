use Rattle.std.proofs.Common.{arith, ◌≡◌, ◌+◌, ◌<◌, ◌≤◌, ℕ, List, Option, Some, Bool, false, cond, ap, sym, subst, ◌∙◌}
use Rattle.std.specs.Prelude.{option_and_then}
use Rattle.action_eval.specs.Answers.{reply_of_answer}
use Rattle.answered_runs.specs.declared.segments.Segment.{Segment}
use Rattle.answered_runs.specs.inside.Segments.{answer_at, is_own, leads_by}
use Rattle.answered_runs.specs.inside.Trees.{Tree, way}
use Rattle.answered_runs.proofs.Leading.{look, no_answer, not_own}
use Rattle.answered_runs.proofs.tree.AnswerTree.find.Goals as goal
use Rattle.answered_runs.proofs.tree.AnswerTree.find.Goals.{else-place-self-via-then-place-self+else-answer_at-answer, else-place-self-via-else-place-self}

some_same : (a b : ℕ) → (let o : Option ℕ = Some a in o) ≡ Some b → a ≡ b
some_same a b e = cc

not_less : (n m : ℕ) → (n < m → ⊥) → m ≤ n
not_less n m h = omega (arith, h)

pub returns : goal.returns
returns c =
    let segs : List Segment = c.self.inside.segments.items in
    let a : ℕ = c.in-Some.answer in
    let own : is_own (answer_at segs c.args.place) a ≡ false = elim c.else-place-self.branch [
      | else-place-self-via-then-place-self+else-answer_at-answer w ↦
          not_own (answer_at segs c.args.place) a
          (λ b e same. w.if-answer_at-answer.false (some_same w.answer_at.result a (sym (ap (λ (ss : List Segment). answer_at ss c.args.place) (sym w.as_slice.ensures.value) ∙ w.answer_at.ensures) ∙ e ∙ ap (λ (n : ℕ). Some n) same)))
      | else-place-self-via-else-place-self w ↦
          ap (λ (o : Option ℕ). is_own o a) (no_answer segs c.self.inside.last c.args.place c.self.invariant.0 w.if-place-self.false)
    ] in
    subst (λ (t : Tree). c.copied.result ≡ way t c.args.place (reply_of_answer c.args.answer)) c.self.view_is
    (c.copied.ensures ∙ c.get.ensures.value
    ∙ sym (ap (option_and_then (leads_by segs c.self.inside.ways.entries c.args.place)) (sym c.in_ok-answer.ensures ∙ c.in-Some.is) ∙ ap (λ (b : Bool). cond b (Some (c.args.place + 1)) (look c.self.inside.ways.entries c.args.place a)) own))
