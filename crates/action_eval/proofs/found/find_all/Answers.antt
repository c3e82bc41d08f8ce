use Rattle.std.proofs.Common.{◌≡◌, ℕ, ◌<◌, List, [], ◌∷◌, length, map, Bor, Option, refl, ap, sym, subst, ◌∙◌, arith}
use Rattle.std.proofs.lemmas.List.{take_all, length-set}
use Rattle.scenario_values.specs.declared.term.Term.{Term}
use Rattle.scenario_values.specs.Scenario.{Entries}
use Rattle.action_eval.specs.declared.found.Span.{Span}
use Rattle.action_eval.specs.inside.Session.{AreSpans, found_of, head_of, seen_in}
use Rattle.action_eval.proofs.Spans.{more_of, heads_more, spans_more}
use Rattle.action_eval.proofs.found.find_all.Goals as goal

by_names : (s : Entries) (ns : List (Bor (List ℕ))) → map (λ (n : Bor (List ℕ)). found_of s n.now) ns ≡ map (found_of s) (map (λ (n : Bor (List ℕ)). n.now) ns)
by_names s [] = refl
by_names s (n ∷ ns) = ap (λ (l : List (Option (List Term × ℕ))). found_of s n.now ∷ l) (by_names s ns)

pub loop-point-preserved : goal.loop-point-preserved
loop-point-preserved c =
    let i = c.loop-point.point in
    let s = c.args.scenario.now in
    let spans = c.loop-point.spans.items in
    let span = c.find-span.result in
    let invariant = c.loop-point.invariant in
    let within : i < length spans = omega (arith, invariant.many, c.loop-point-test.true) in
    let inside : i < length c.loop-point.heads.items = omega (arith, invariant.all, c.loop-point-test.true) in
    record {
      many = length-set spans i span ∙ invariant.many;
      all = length-set c.loop-point.heads.items i c.head_of.result ∙ invariant.all;
      are = spans_more s spans i span within invariant.are c.find-span.ensures.span;
      found = more_of (seen_in s) (λ (n : Bor (List ℕ)). found_of s n.now) c.args.catalogue.now _ spans i span c.loop-point-test.true within invariant.found c.find-span.ensures.seen;
      heads = heads_more head_of (seen_in s) c.loop-point.heads.items spans i c.head_of.result span inside within invariant.heads c.head_of.ensures;
    }

pub returns-clause-are_spans : goal.returns-clause-are_spans
returns-clause-are_spans c = subst (AreSpans c.args.scenario.now) (take_all c.loop-point.point c.loop-point.spans.items (omega (arith, c.loop-point.invariant.many, c.loop-point-test.false))) c.loop-point.invariant.are

pub returns-clause-found : goal.returns-clause-found
returns-clause-found c =
    let i = c.loop-point.point in
    let s = c.args.scenario.now in
    let whole = take_all i c.loop-point.spans.items (omega (arith, c.loop-point.invariant.many, c.loop-point-test.false)) in
    ap (λ (l : List (Option Span)). map (seen_in s) l) (sym whole) ∙ c.loop-point.invariant.found ∙ ap (λ (l : List (Bor (List ℕ))). map (λ (n : Bor (List ℕ)). found_of s n.now) l) (take_all i c.args.catalogue.now c.loop-point-test.false)
    ∙ by_names s c.args.catalogue.now
