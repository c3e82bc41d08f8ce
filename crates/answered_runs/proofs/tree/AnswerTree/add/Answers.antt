use Rattle.std.proofs.Common.{rules, arith, ◌≡◌, ◌+◌, ◌<◌, ◌++◌, ◌∷◌, [], ℕ, List, Some, None, Bool, true, false, cond, ◌&&◌, ◌==◌, length, ap, sym, subst, ◌∙◌, refl}
use Rattle.std.proofs.lemmas.Bool.Decides.{Decides-eqb}
use Rattle.indexmap.specs.IndexMap.{insert_entry}
use Rattle.action_eval.specs.Answers.{Reply, reply_of_answer}
use Rattle.answered_runs.specs.declared.segments.Segment.{Segment}
use Rattle.answered_runs.specs.declared.tree.AnswerTree.TheInside.{Inside}
use Rattle.answered_runs.specs.declared.tree.Said.{Said}
use Rattle.answered_runs.specs.declared.tree.Way.{Way}
use Rattle.answered_runs.specs.inside.Replies.{Extends, number_in}
use Rattle.answered_runs.specs.inside.Segments.{AreLaid, AreNumbered, IsPutOn, expand, leads_in, way_at, way_eq}
use Rattle.answered_runs.specs.inside.Trees.{Adds, Tree, way}
use Rattle.answered_runs.proofs.Leading.{adds_behind, adds_beside, look, numbered_insert, numbered_on, numbered_put, way_same, within_all}
use Rattle.answered_runs.proofs.Laid.{one_put}
use Rattle.answered_runs.proofs.Numbers.{number_low}
use Rattle.answered_runs.proofs.tree.AnswerTree.add.Goals as goal
use Rattle.answered_runs.proofs.tree.AnswerTree.add.Goals.{then-place-last+in_ok-put_places, else-place-last+in_ok-insert+in_ok-put_places-2}

pub invariant_of-self-in_err-put_places : goal.invariant_of-self-in_err-put_places
invariant_of-self-in_err-put_places c =
    let i = c.self.invariant in
    let last = c.self.inside.last in
    subst (λ (ss : List Segment). AreLaid 0 ss last × AreNumbered ss c.self.inside.ways.entries c.number_of.new.texts.keys last) (sym c.in_err-put_places.ensures.err)
    (i.0, numbered_on c.self.inside.segments.items c.self.inside.ways.entries c.self.inside.texts.keys c.number_of.new.texts.keys last last c.number_of.ensures.texts (omega arith) i.1)

pub invariant_of-self-in_err-insert : goal.invariant_of-self-in_err-insert
invariant_of-self-in_err-insert c =
    let i = c.self.invariant in
    let last = c.self.inside.last in (
      i.0,
      subst (λ (ws : List (Way × ℕ)). AreNumbered c.self.inside.segments.items ws c.number_of.new.texts.keys last) (sym c.in_err-insert.ensures.err)
          (numbered_on c.self.inside.segments.items c.self.inside.ways.entries c.self.inside.texts.keys c.number_of.new.texts.keys last last c.number_of.ensures.texts (omega arith) i.1),
    )

itself : (place a : ℕ) → way_eq (way_at place a) (way_at place a) ≡ true
itself place a = ap (λ (b : Bool). b && (a == a)) ((Decides-eqb place place).1 refl) ∙ (Decides-eqb a a).1 refl

-- another way has another key
another : (place a n b : ℕ) → ((n ≡ place) × (b ≡ a) → ⊥) → way_eq (way_at place a) (way_at n b) ≡ false
another place a n b other = by_test (way_eq (way_at place a) (way_at n b)) refl
  where
    by_test : (x : Bool) → way_eq (way_at place a) (way_at n b) ≡ x → way_eq (way_at place a) (way_at n b) ≡ false
    by_test true e = let same = way_same (way_at place a) (way_at n b) e in absurd (other (sym same.0, sym same.1))
    by_test false e = e

-- the fields after a place was added
module _ (segs : List Segment) (ways : List (Way × ℕ)) (texts added : List (List ℕ)) (last next place a : ℕ) (r : Reply) (here : Said) (laid : AreLaid 0 segs last)
    (numbered : AreNumbered segs ways texts last) (more : Extends texts added) (num : number_in added r ≡ Some a) (is : next ≡ last + 1) where
  low : a < 4 + length added
  low = number_low added r a num

  later : AreNumbered segs ways added next
  later = numbered_on segs ways texts added last next more (omega (arith, is)) numbered

  behind_laid : (news : List Segment) (own : ℕ) → IsPutOn segs news last here own → AreLaid 0 news next
  behind_laid news own put = subst (AreLaid 0 news) (sym is) put.laid

  behind_numbered : (news : List Segment) (own : ℕ) → own < 4 + length added → IsPutOn segs news last here own → AreNumbered news ways added next
  behind_numbered news own small put = numbered_put segs news ways added next last own here put small later

  beside_numbered : (news : List Segment) → place < last → IsPutOn segs news last here 0 → AreNumbered news (insert_entry way_eq ways (way_at place a) next) added next
  beside_numbered news early put =
      numbered_put segs news (insert_entry way_eq ways (way_at place a) next) added next last 0 here put (omega arith)
      (numbered_insert segs ways added next (way_at place a) next (omega (arith, early, is)) low later)

pub invariant_of-self-in_err-put_places-2 : goal.invariant_of-self-in_err-put_places-2
invariant_of-self-in_err-put_places-2 c =
    let i = c.self.invariant in
    let last = c.self.inside.last in
    let within = subst (λ (t : Tree). c.args.place < length t.said) (sym c.self.view_is) c.requires.within in
    let early : c.args.place < last = within_all c.self.inside.segments.items last c.args.place c.self.inside.said i.0 within c.if-place-last.false in
    subst (λ (ss : List Segment). AreLaid 0 ss last × AreNumbered ss c.insert.new.self.entries c.number_of.new.texts.keys last) (sym c.in_err-put_places-2.ensures.err) (
      i.0,
      subst (λ (ws : List (Way × ℕ)). AreNumbered c.self.inside.segments.items ws c.number_of.new.texts.keys last) (sym c.in_ok-insert.ensures.entries)
          (numbered_insert c.self.inside.segments.items c.self.inside.ways.entries c.number_of.new.texts.keys last (way_at c.args.place c.in_ok-answer.answer) c.in-Some.next (omega (arith, early))
          (number_low c.number_of.new.texts.keys (reply_of_answer c.args.answer) c.in_ok-answer.answer c.in_ok-answer.ensures.number)
          (numbered_on c.self.inside.segments.items c.self.inside.ways.entries c.self.inside.texts.keys c.number_of.new.texts.keys last last c.number_of.ensures.texts (omega arith) i.1)),
    )

pub invariant_of-self-2 : goal.invariant_of-self-2
invariant_of-self-2 c =
    let i = c.self.invariant in
    let x : Inside = c.self.inside in
    let texts = c.number_of.new.texts.keys in
    let r : Reply = reply_of_answer c.args.answer in
    let a : ℕ = c.in_ok-answer.answer in
    let next : ℕ = c.in-Some.next in
    let is : next ≡ x.last + 1 = search (rules, arith) in
    elim c.if-place-last.branch [
      | then-place-last+in_ok-put_places w ↦
          subst (λ (z : Inside). AreLaid 0 z.segments.items next × AreNumbered z.segments.items z.ways.entries z.texts.keys next) (sym w.self-inside-is) (
            behind_laid x.segments.items x.ways.entries x.texts.keys texts x.last next c.args.place a r x.said i.0 i.1 c.number_of.ensures.texts c.in_ok-answer.ensures.number is w.put_places.new.segments.items a (one_put _ _ _ _ _ w.in_ok-put_places.ensures.ok),
            behind_numbered x.segments.items x.ways.entries x.texts.keys texts x.last next c.args.place a r x.said i.0 i.1 c.number_of.ensures.texts c.in_ok-answer.ensures.number is w.put_places.new.segments.items a
                (number_low texts r a c.in_ok-answer.ensures.number) (one_put _ _ _ _ _ w.in_ok-put_places.ensures.ok),
          )
      | else-place-last+in_ok-insert+in_ok-put_places-2 w ↦
          let within = subst (λ (t : Tree). c.args.place < length t.said) (sym c.self.view_is) c.requires.within in
          let early : c.args.place < x.last = within_all x.segments.items x.last c.args.place x.said i.0 within w.if-place-last.false in
          subst (λ (z : Inside). AreLaid 0 z.segments.items next × AreNumbered z.segments.items z.ways.entries z.texts.keys next) (sym w.self-inside-is) (
            behind_laid x.segments.items x.ways.entries x.texts.keys texts x.last next c.args.place a r x.said i.0 i.1 c.number_of.ensures.texts c.in_ok-answer.ensures.number is w.put_places-else-place-last.new.segments.items 0 (one_put _ _ _ _ _ w.in_ok-put_places-2.ensures.ok),
            subst (λ (ws : List (Way × ℕ)). AreNumbered w.put_places-else-place-last.new.segments.items ws texts next) (sym w.in_ok-insert.ensures.entries)
                (beside_numbered x.segments.items x.ways.entries x.texts.keys texts x.last next c.args.place a r x.said i.0 i.1 c.number_of.ensures.texts c.in_ok-answer.ensures.number is w.put_places-else-place-last.new.segments.items early (one_put _ _ _ _ _ w.in_ok-put_places-2.ensures.ok)),
          )
    ]

-- the tree after a place was added, by its fields
record Becomes (t : Tree) (place : ℕ) (r : Reply) (x : Said) (next : ℕ) (z : Inside) : Type 0 where
  pub adds : Adds t (record { said = expand z.segments.items ++ x ∷ []; segments = z.segments.items; ways = z.ways.entries; texts = z.texts.keys }) place r x next

pub returns : goal.returns
returns c =
    let i = c.self.invariant in
    let x : Inside = c.self.inside in
    let texts = c.number_of.new.texts.keys in
    let e : Extends x.texts.keys texts = c.number_of.ensures.texts in
    let r : Reply = reply_of_answer c.args.answer in
    let a : ℕ = c.in_ok-answer.answer in
    let next : ℕ = c.in-Some.next in
    let is : next ≡ x.last + 1 = search (rules, arith) in
    let num : number_in (x.texts.keys ++ e.more) r ≡ Some a = subst (λ (l : List (List ℕ)). number_in l r ≡ Some a) e.are c.in_ok-answer.ensures.number in
    let none : leads_in x.segments.items x.ways.entries x.texts.keys c.args.place r ≡ None = subst (λ (t : Tree). way t c.args.place r ≡ None) (sym c.self.view_is) c.requires.none in
    let t : Tree = record { said = expand x.segments.items ++ x.said ∷ []; segments = x.segments.items; ways = x.ways.entries; texts = x.texts.keys } in
    let b : Becomes c.args.self.now c.args.place r c.args.said next c.if-place-last.self-inside = elim c.if-place-last.branch [
      | then-place-last+in_ok-put_places w ↦
          subst (Becomes c.args.self.now c.args.place r c.args.said next) (sym w.self-inside-is)
          (record {
            adds =
                subst (λ (n : ℕ). Adds c.args.self.now (record { said = expand w.put_places.new.segments.items ++ c.args.said ∷ []; segments = w.put_places.new.segments.items; ways = x.ways.entries; texts = texts }) c.args.place r c.args.said n) (sym is)
                (subst (λ (l : List (List ℕ)). Adds c.args.self.now (record { said = expand w.put_places.new.segments.items ++ c.args.said ∷ []; segments = w.put_places.new.segments.items; ways = x.ways.entries; texts = l }) c.args.place r c.args.said (x.last + 1)) (sym e.are)
                (subst (λ (o : Tree). Adds o (record { said = expand w.put_places.new.segments.items ++ c.args.said ∷ []; segments = w.put_places.new.segments.items; ways = x.ways.entries; texts = x.texts.keys ++ e.more }) c.args.place r c.args.said (x.last + 1)) c.self.view_is
                (adds_behind t.said x.segments.items w.put_places.new.segments.items x.ways.entries x.ways.entries x.texts.keys e.more x.last c.args.place r a x.said c.args.said i.0 i.1 refl num (one_put _ _ _ _ _ w.in_ok-put_places.ensures.ok) refl w.if-place-last.true none)));
          })
      | else-place-last+in_ok-insert+in_ok-put_places-2 w ↦
          let within = subst (λ (t : Tree). c.args.place < length t.said) (sym c.self.view_is) c.requires.within in
          let early : c.args.place < x.last = within_all x.segments.items x.last c.args.place x.said i.0 within w.if-place-last.false in
          let news = w.put_places-else-place-last.new.segments.items in
          let ways = w.insert.new.self.entries in
          let up = w.in_ok-insert.ensures.updates in
          subst (Becomes c.args.self.now c.args.place r c.args.said next) (sym w.self-inside-is)
          (record {
            adds =
                subst (λ (n : ℕ). Adds c.args.self.now (record { said = expand news ++ c.args.said ∷ []; segments = news; ways = ways; texts = texts }) c.args.place r c.args.said n) (sym is)
                (subst (λ (l : List (List ℕ)). Adds c.args.self.now (record { said = expand news ++ c.args.said ∷ []; segments = news; ways = ways; texts = l }) c.args.place r c.args.said (x.last + 1)) (sym e.are)
                (subst (λ (o : Tree). Adds o (record { said = expand news ++ c.args.said ∷ []; segments = news; ways = ways; texts = x.texts.keys ++ e.more }) c.args.place r c.args.said (x.last + 1)) c.self.view_is
                (adds_beside t.said x.segments.items news x.ways.entries ways x.texts.keys e.more x.last c.args.place r a x.said c.args.said i.0 i.1 refl num (one_put _ _ _ _ _ w.in_ok-put_places-2.ensures.ok) early
                (up.0 (way_at c.args.place a) ∙ ap (λ (b : Bool). cond b (Some next) (look x.ways.entries c.args.place a)) (itself c.args.place a) ∙ ap (λ (n : ℕ). Some n) is)
                (λ n b other. up.0 (way_at n b) ∙ ap (λ (y : Bool). cond y (Some next) (look x.ways.entries n b)) (another c.args.place a n b other)) none)));
          })
    ] in
    b.adds
