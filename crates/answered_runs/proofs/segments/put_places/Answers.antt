use Rattle.std.proofs.Common.{rules, arith, ◌≡◌, ◌+◌, ◌-◌, ◌<◌, ◌^◌, ℕ, zero, suc, List, Some, length, ap, refl, sym, subst, ◌∙◌, get_or, slice_set, ◌++◌, ◌∷◌, []}
use Rattle.std.specs.Prelude.{slice_get}
use Rattle.std.proofs.lemmas.Option.{slice_get-get_or}
use Rattle.answered_runs.specs.declared.segments.Segment.{Segment}
use Rattle.answered_runs.specs.declared.tree.Said.{Said}
use Rattle.answered_runs.specs.inside.Segments.{AreLaid, ArePutOn}
use Rattle.answered_runs.proofs.Laid.{all_joined, all_pushed, last_ends}
use Rattle.answered_runs.proofs.segments.put_places.Goals as goal

-- the last segment, as it is read
module _ (ss : List Segment) (n : ℕ) (s : Segment) (long : n ≡ length ss) (some : 0 < n) (is : s ≡ get_or ss (n - 1) s) where
  at : slice_get ss (n - 1) ≡ Some s
  at = slice_get-get_or ss (n - 1) s (omega (arith, long, some)) ∙ ap (λ (x : Segment). Some x) (sym is)

  fits : (place count : ℕ) → AreLaid 0 ss place → place + count < 2 ^ 32 → s.count + count < 2 ^ 32
  fits place count laid few = let ends = last_ends 0 ss (n - 1) s place laid (omega (arith, long, some)) at in omega (arith, ends, few)

  joins : (place count : ℕ) (said : Said) (answer : ℕ) → AreLaid 0 ss place → s.said ≡ said → s.answer ≡ answer
      → ArePutOn count ss (slice_set ss (n - 1) (record s { count = s.count + count })) place said answer
  joins place count said answer laid e f = all_joined count ss (n - 1) s place said answer laid (omega (arith, long, some)) at e f

read_twice : (ss : List Segment) (i : ℕ) (s t : Segment) → s ≡ get_or ss i s → t ≡ get_or ss i t → i < length ss → s ≡ t
read_twice ss i s t e f less = let one = slice_get-get_or ss i s less in let other = slice_get-get_or ss i t less in cc

pub overflow_add-index_mut : goal.overflow_add-index_mut
overflow_add-index_mut c =
    let long : c.len-len.result ≡ length c.args.segments.now.items = search rules in
    let some : 0 < c.len-len.result = search (rules, arith) in
    let few = fits c.args.segments.now.items c.len-len.result c.index_mut.result.now long some c.index_mut.ensures.value c.args.place c.args.count c.requires.laid c.requires.few in
    search (rules, arith)

pub returns-then-joins-clause-ok : goal.returns-then-joins-clause-ok
returns-then-joins-clause-ok c =
    let long : c.len-len.result ≡ length c.args.segments.now.items = search rules in
    let some : 0 < c.len-len.result = search (rules, arith) in
    let alike = c.joins.ensures c.if-joins.true in
    let same = read_twice c.args.segments.now.items (c.len-len.result - 1) c.index_mut.result.now c.index.result.now c.index_mut.ensures.value c.index.ensures
    (let within : c.len-len.result - 1 < length c.args.segments.now.items = omega (arith, long, some) in within) in
    joins c.args.segments.now.items c.len-len.result c.index_mut.result.now long some c.index_mut.ensures.value c.args.place c.args.count c.args.said c.args.answer c.requires.laid
    (ap (λ (s : Segment). s.said) same ∙ alike.0) (ap (λ (s : Segment). s.answer) same ∙ alike.1)

pushed : (n : ℕ) (old : List Segment) (place : ℕ) (said : Said) (answer : ℕ) → (n ≡ 0 → ⊥) → AreLaid 0 old place
    → ArePutOn n old (old ++ record { first = place; count = n; said = said; answer = answer } ∷ []) place said answer
pushed zero old place said answer some laid = absurd (some refl)
pushed (suc n) old place said answer some laid = all_pushed n old place said answer laid

pub returns-clause-ok : goal.returns-clause-ok
returns-clause-ok c =
    subst (λ (ss : List Segment). ArePutOn c.args.count c.args.segments.now.items ss c.args.place c.args.said c.args.answer) (sym c.in_ok-push.ensures.items)
    (pushed c.args.count c.args.segments.now.items c.args.place c.args.said c.args.answer c.if-count-eq0.false c.requires.laid)

none_put : (n : ℕ) (old : List Segment) (place : ℕ) (said : Said) (answer : ℕ) → n ≡ 0 → ArePutOn n old old place said answer
none_put n old place said answer none = subst (λ (m : ℕ). ArePutOn m old old place said answer) (sym none) refl

pub returns-then-count-eq0-clause-ok : goal.returns-then-count-eq0-clause-ok
returns-then-count-eq0-clause-ok c = none_put c.args.count c.args.segments.now.items c.args.place c.args.said c.args.answer c.if-count-eq0.true
