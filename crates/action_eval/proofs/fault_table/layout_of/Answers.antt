use Rattle.std.proofs.Common.{◌≡◌, ◌+◌, ◌-◌, ◌++◌, ◌∷◌, [], ℕ, List, Option, IfSome, length, length-drop, take, drop, map, eqb, get_or, ap, sym, subst, arith, ◌∙◌}
use Rattle.action_eval.specs.Answers.{texts}
use Rattle.std.proofs.lemmas.List.{map_push}
use Rattle.scenario_values.specs.declared.term.Term.{Term}
use Rattle.action_eval.specs.declared.found.Span.{Span}
use Rattle.scenario_values.specs.Scenario.{Entries}
use Rattle.action_eval.specs.inside.Session.{AreSpans, IsSpan, first_head, head_of, left_row, left_counts, seen_in, spanned}
use Rattle.action_eval.specs.inside.Laid.{laid, AreSizes}
use Rattle.action_eval.proofs.LaidChains.{next_of, texts_next, all_found, all_begin, sizes_split, distinct_split, left_next, found_next, heads_push, counted, many_left, laid_next}
use Rattle.action_eval.proofs.Spans.{placed, Stands, entries_of, entries_is, entries_few, stands_first, placed_in, head_placed, spans_push}
use Rattle.action_eval.proofs.fault_table.layout_of.Goals as goal

pub loop-point-init : goal.loop-point-init
loop-point-init c =
    let catalogue = c.args.catalogue.now in
    let s = laid (texts catalogue) c.args.sizes.now c.args.terms.now in
    let none = c.reserve.ensures.items ∙ c.clear.ensures.items in
    let no_heads = c.reserve-2.ensures.items ∙ c.clear-2.ensures.items in
    let no_counts = c.reserve-3.ensures.items ∙ c.clear-3.ensures.items in
    record {
      spans_room = omega (arith, c.in_ok-reserve.ensures.ok, c.reserve.ensures.len, c.clear.ensures.len);
      heads_room = omega (arith, c.in_ok-reserve-2.ensures.ok, c.reserve-2.ensures.len, c.clear-2.ensures.len);
      left_room = omega (arith, c.in_ok-reserve-3.ensures.ok, c.reserve-3.ensures.len, c.clear-3.ensures.len);
      few_entries = omega arith;
      distinct = c.requires.distinct;
      are_sizes = c.requires.sizes;
      stands = subst (λ (l : List ℕ). Stands s 0 (length l) s) (sym no_counts) (stands_first s);
      are_spans = subst (AreSpans s) (sym none) tt;
      counts = ap (λ (l : List ℕ). l ++ left_counts [] s) no_counts;
      chains =
          ap (λ (l : List (Option Span)). map (seen_in s) l ++ all_found (length c.reserve-3.new.self.items) (texts catalogue) s) none
          ∙ ap (λ (l : List ℕ). all_found (length l) (texts catalogue) s) no_counts ∙ all_begin (texts catalogue) s;
      all_heads = no_heads ∙ ap (λ (l : List (Option Span)). map head_of (map (seen_in s) l)) (sym none);
    }

pub bounds-sizes-point : goal.bounds-sizes-point
bounds-sizes-point c = many_left c.loop-point.point c.args.catalogue.now c.args.sizes.now c.loop-point.rest.now c.loop-point-test.true c.loop-point.invariant.are_sizes

pub split_at-requires : goal.split_at-requires
split_at-requires c =
    let i = c.loop-point.point in
    let within = many_left i c.args.catalogue.now c.args.sizes.now c.loop-point.rest.now c.loop-point-test.true c.loop-point.invariant.are_sizes in
    (sizes_split _ _ _ _ _ _ c.loop-point.rest.now (texts_next c.args.catalogue.now i c.loop-point-test.true) (next_of c.args.sizes.now i 0 within) c.loop-point.invariant.are_sizes).0

pub loop-point-preserved : goal.loop-point-preserved
loop-point-preserved c =
    let i = c.loop-point.point in
    let catalogue = c.args.catalogue.now in
    let rest = c.loop-point.rest.now in
    let old = c.loop-point.left.items in
    let invariant = c.loop-point.invariant in
    let s = laid (texts catalogue) c.args.sizes.now c.args.terms.now in
    let within = many_left i catalogue c.args.sizes.now rest c.loop-point-test.true invariant.are_sizes in
    let size = get_or c.args.sizes.now i 0 in
    let chain = take size rest in
    let names = texts_next catalogue i c.loop-point-test.true in
    let sizes = next_of c.args.sizes.now i 0 within in
    let grown = c.push_counts.ensures.counts ∙ ap (λ (t : List Term). old ++ left_row (λ _. 0) 0 t) c.split_at.ensures.front in
    let new = c.push_counts.new.left.items in
    let start : c.len-start.result ≡ length old = omega (arith, c.len-start.ensures, c.loop-point.left.ok.0) in
    let end : c.len.result ≡ length new = omega (arith, c.len.ensures, c.push_counts.new.left.ok.0) in
    let more : length new ≡ length old + length chain = counted old new chain grown in
    let here : c.of.result ≡ spanned c.loop-point.entry (length old) (length new) = c.of.ensures ∙ ap (λ (n : ℕ). spanned c.loop-point.entry n c.len.result) start ∙ ap (spanned c.loop-point.entry (length old)) end in
    let at = subst (Stands s c.loop-point.entry (length old)) (laid_next _ _ _ _ _ _ rest names sizes) invariant.stands in
    let p = placed_in s c.loop-point.entry (length old) (length new) _ chain _ at more in
    let seen : seen_in s c.of.result ≡ placed chain (length old) = ap (seen_in s) here ∙ p.seen in
    let one : entries_of chain ≡ c.from-entry.result = sym (entries_is chain c.is_empty.result c.from-entry.result (c.is_empty.ensures ∙ ap (λ (t : List Term). eqb (length t) 0) c.split_at.ensures.front) c.from-entry.ensures) in
    let counted_on : c.loop-point.entry + entries_of chain ≡ c.loop-point.entry + c.from-entry.result = ap (λ (n : ℕ). c.loop-point.entry + n) one in
    let size_fits = (sizes_split _ _ _ _ _ _ rest names sizes invariant.are_sizes).0 in
    let behind : length c.split_at.result.1.now ≡ length rest - size = ap length c.split_at.ensures.back ∙ length-drop size rest in
    let after : List Term → Entries = λ t. laid (texts (drop (i + 1) catalogue)) (drop (i + 1) c.args.sizes.now) t in
    record {
      spans_room = omega (arith, invariant.spans_room, c.push_reserved-in-loop-point.ensures.len, c.push_reserved-in-loop-point.ensures.capacity);
      heads_room = omega (arith, invariant.heads_room, c.push_reserved.ensures.len, c.push_reserved.ensures.capacity);
      left_room = omega (arith, invariant.left_room, c.push_counts.ensures.len, c.push_counts.ensures.room, behind, size_fits);
      few_entries = omega (arith, invariant.few_entries, one, entries_few chain);
      distinct = (distinct_split _ _ _ names invariant.distinct).1;
      are_sizes =
          subst (λ (t : List Term). AreSizes (texts (drop (i + 1) catalogue)) (drop (i + 1) c.args.sizes.now) t) (sym c.split_at.ensures.back)
          (sizes_split _ _ _ _ _ _ rest names sizes invariant.are_sizes).1;
      stands =
          subst (λ (e : ℕ). Stands s e (length new) (after c.split_at.result.1.now)) counted_on
          (subst (λ (t : List Term). Stands s (c.loop-point.entry + entries_of chain) (length new) (after t)) (sym c.split_at.ensures.back) p.next);
      are_spans =
          subst (AreSpans s) (sym c.push_reserved-in-loop-point.ensures.items)
          (spans_push s c.loop-point.spans.items c.of.result invariant.are_spans (subst (λ (o : Option Span). IfSome o (λ q. IsSpan s q)) (sym here) p.span));
      counts = ap (λ (t : List Term). new ++ left_counts [] (after t)) c.split_at.ensures.back ∙ left_next _ _ _ _ _ _ rest old new _ names sizes invariant.counts grown;
      chains =
          ap (λ (t : List Term). map (seen_in s) c.push_reserved-in-loop-point.new.self.items ++ all_found (length new) (texts (drop (i + 1) catalogue)) (after t)) c.split_at.ensures.back
          ∙ found_next _ _ _ _ _ _ rest (length old) (length new) (map (seen_in s) c.loop-point.spans.items) _ _ names sizes invariant.distinct invariant.chains
          (ap (map (seen_in s)) c.push_reserved-in-loop-point.ensures.items ∙ map_push (seen_in s) c.loop-point.spans.items c.of.result ∙ ap (λ (o : Option (List Term × ℕ)). map (seen_in s) c.loop-point.spans.items ++ o ∷ []) seen) more;
      all_heads =
          heads_push (seen_in s) c.loop-point.spans.items c.push_reserved-in-loop-point.new.self.items c.loop-point.heads.items c.push_reserved.new.self.items c.of.result c.first_head.result invariant.all_heads c.push_reserved.ensures.items
          (c.first_head.ensures ∙ ap (λ (t : List Term). first_head t c.len-start.result) c.split_at.ensures.front ∙ ap (first_head chain) start ∙ head_placed chain (length old) ∙ ap head_of (sym seen))
          c.push_reserved-in-loop-point.ensures.items;
    }
