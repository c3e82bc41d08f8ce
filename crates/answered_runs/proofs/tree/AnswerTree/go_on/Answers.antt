use Rattle.std.proofs.Common.{◌≡◌, ◌+◌, ◌++◌, ◌∷◌, [], ℕ, List, Some, length, sym, subst, arith}
use Rattle.std.specs.Prelude.{slice_get}
use Rattle.answered_runs.specs.declared.segments.Segment.{Segment}
use Rattle.answered_runs.specs.declared.tree.AnswerTree.TheInside.{Inside}
use Rattle.answered_runs.specs.declared.tree.Said.{Said}
use Rattle.answered_runs.specs.inside.Segments.{AreLaid, AreNumbered, expand}
use Rattle.answered_runs.specs.inside.Trees.{AddsOn, Tree}
use Rattle.answered_runs.proofs.GoingOn.{adds_on, at_last, kept_on, said_last}
use Rattle.answered_runs.proofs.tree.AnswerTree.go_on.Goals as goal

pub invariant_of-self-2 : goal.invariant_of-self-2
invariant_of-self-2 c =
    let x : Inside = c.self.inside in
    let news : List Segment = c.put_places.new.segments.items in
    subst (λ (n : ℕ). AreLaid 0 news n × AreNumbered news x.ways.entries x.texts.keys n) (sym c.in-Some.ensures.1)
    (kept_on x.ways.entries x.texts.keys x.said c.args.count x.segments.items news x.last c.self.invariant.0 c.self.invariant.1 c.in_ok-put_places.ensures.ok)

-- the place that is told is the last one
is_last : (x : Inside) (t : Tree) (place : ℕ) → AreLaid 0 x.segments.items x.last → (let own : Tree = record { said = expand x.segments.items ++ x.said ∷ []; segments = x.segments.items; ways = x.ways.entries; texts = x.texts.keys } in own) ≡ t
    → length t.said ≡ place + 1 → x.last ≡ place
is_last x t place laid same long = at_last x.segments.items x.last place x.said laid (subst (λ (u : Tree). length u.said ≡ place + 1) (sym same) long)

pub returns-clause-ok : goal.returns-clause-ok
returns-clause-ok c = λ place said long there.
    let x : Inside = c.self.inside in
    let news : List Segment = c.put_places.new.segments.items in
    let old : Tree = record { said = expand x.segments.items ++ x.said ∷ []; segments = x.segments.items; ways = x.ways.entries; texts = x.texts.keys } in
    let new : Tree = record { said = expand news ++ x.said ∷ []; segments = news; ways = x.ways.entries; texts = x.texts.keys } in
    let at : x.last ≡ place = is_last x c.args.self.now place c.self.invariant.0 c.self.view_is long in
    let same : x.said ≡ said =
    said_last x.segments.items x.last place x.said said c.self.invariant.0 at (subst (λ (t : Tree). slice_get t.said place ≡ Some said) (sym c.self.view_is) there)
    in
    let on = adds_on x.ways.entries x.texts.keys x.said c.args.count x.segments.items news x.last c.self.invariant.0 c.self.invariant.1 c.in_ok-put_places.ensures.ok in
    subst (λ (t : Tree). AddsOn c.args.count t new place said) c.self.view_is
    (subst (λ (n : ℕ). AddsOn c.args.count old new n said) at (subst (λ (y : Said). AddsOn c.args.count old new x.last y) same on))

pub returns-clause-fits : goal.returns-clause-fits
returns-clause-fits c = λ place long.
    let at = is_last c.self.inside c.args.self.now place c.self.invariant.0 c.self.view_is long in
    let fits = c.in-Some.ensures.0 in
    omega (arith, at, fits)
