use Rattle.std.proofs.Common.{◌≡◌, ◌++◌, ◌+◌, ◌-◌, ◌≤◌, vec_len, vec_capacity, drop, length, map, []}
use Rattle.action_eval.specs.Answers.{texts}
use Rattle.action_eval.specs.Catalogue.{HasDistinct}
use Rattle.action_eval.specs.inside.Session.{AreSpans, seen_in, found_of, head_of, left_counts}
use Rattle.action_eval.specs.inside.Laid.{laid, AreSizes}
use Rattle.action_eval.proofs.LaidChains.{all_found}
use Rattle.action_eval.proofs.Spans.{Stands}
use Rattle.action_eval.proofs.fault_table.layout_of.Given as goal

abbrev pub invariant-loop-point : goal.invariant-loop-point
invariant-loop-point l = record {
  spans_room : vec_len l.spans + (length l.catalogue - l.point) ≤ vec_capacity l.spans;
  heads_room : vec_len l.heads + (length l.catalogue - l.point) ≤ vec_capacity l.heads;
  left_room : vec_len l.left + length l.rest ≤ vec_capacity l.left;
  few_entries : l.entry ≤ l.point;
  distinct : HasDistinct (texts (drop l.point l.catalogue));
  are_sizes : AreSizes (texts (drop l.point l.catalogue)) (drop l.point l.sizes) l.rest;
  stands : Stands (laid (texts l.catalogue) l.sizes l.terms) l.entry (length l.left.items) (laid (texts (drop l.point l.catalogue)) (drop l.point l.sizes) l.rest);
  are_spans : AreSpans (laid (texts l.catalogue) l.sizes l.terms) l.spans.items;
  counts : l.left.items ++ left_counts [] (laid (texts (drop l.point l.catalogue)) (drop l.point l.sizes) l.rest) ≡ left_counts [] (laid (texts l.catalogue) l.sizes l.terms);
  chains : map (seen_in (laid (texts l.catalogue) l.sizes l.terms)) l.spans.items ++ all_found (length l.left.items) (texts (drop l.point l.catalogue)) (laid (texts (drop l.point l.catalogue)) (drop l.point l.sizes) l.rest)
      ≡ map (found_of (laid (texts l.catalogue) l.sizes l.terms)) (texts l.catalogue);
  all_heads : l.heads.items ≡ map head_of (map (seen_in (laid (texts l.catalogue) l.sizes l.terms)) l.spans.items);
}
