use Rattle.std.proofs.Common.{◌≡◌, ◌≢◌, ◌<◌, ◌++◌, ◌∷◌, [], ℕ, List, length, sym, subst, arith}
use Rattle.answered_runs.specs.declared.segments.Segment.{Segment}
use Rattle.answered_runs.specs.declared.tree.AnswerTree.TheInside.{Inside}
use Rattle.answered_runs.specs.inside.Segments as segments
use Rattle.answered_runs.specs.inside.Segments.{AreLaid, expand, is_own}
use Rattle.answered_runs.specs.inside.Trees.{IsAlike, Tree}
use Rattle.answered_runs.proofs.GoingOn.{alike_in_tree}
use Rattle.answered_runs.proofs.Leading.{within_all}
use Rattle.answered_runs.proofs.tree.AnswerTree.along.Goals as goal

early : (x : Inside) (t : Tree) (place : ℕ) → AreLaid 0 x.segments.items x.last → (let own : Tree = record { said = expand x.segments.items ++ x.said ∷ []; segments = x.segments.items; ways = x.ways.entries; texts = x.texts.keys } in own) ≡ t
    → place < length t.said → place ≢ x.last → place < x.last
early x t place laid same within other =
    within_all x.segments.items x.last place x.said laid (subst (λ (u : Tree). place < length u.said) (sym same) within) other

pub alike_after-alike-requires : goal.alike_after-alike-requires
alike_after-alike-requires c =
    let x : Inside = c.self.inside in
    (x.last, subst (λ (ss : List Segment). AreLaid 0 ss x.last) (sym c.as_slice.ensures.value) c.self.invariant.0, early x c.args.self.now c.args.place c.self.invariant.0 c.self.view_is c.requires c.if-place-self.false)

-- each place after it, as far as its segment goes
in_tree : (x : Inside) (t : Tree) (ss : List Segment) (place n : ℕ) → AreLaid 0 x.segments.items x.last → (let own : Tree = record { said = expand x.segments.items ++ x.said ∷ []; segments = x.segments.items; ways = x.ways.entries; texts = x.texts.keys } in own) ≡ t
    → place < length t.said → place ≢ x.last → ss ≡ x.segments.items → segments.IsAlike ss 1 place n → IsAlike t place n
in_tree x t ss place n laid same within other are alike =
    subst (λ (u : Tree). IsAlike u place n) same
    (alike_in_tree x.segments.items x.ways.entries x.texts.keys x.said x.last place n laid (early x t place laid same within other) (subst (λ (l : List Segment). segments.IsAlike l 1 place n) are alike))

pub returns-then-alike-most-clause-alike : goal.returns-then-alike-most-clause-alike
returns-then-alike-most-clause-alike c = λ n less.
    in_tree c.self.inside c.args.self.now c.as_slice.result.now c.args.place n c.self.invariant.0 c.self.view_is c.requires c.if-place-self.false c.as_slice.ensures.value (c.alike_after-alike.ensures.alike n less)

pub returns-else-alike-most-clause-alike : goal.returns-else-alike-most-clause-alike
returns-else-alike-most-clause-alike c = λ n less.
    let past = c.if-alike-most.false in
    in_tree c.self.inside c.args.self.now c.as_slice.result.now c.args.place n c.self.invariant.0 c.self.view_is c.requires c.if-place-self.false c.as_slice.ensures.value (c.alike_after-alike.ensures.alike n (omega (arith, less, past)))
