use Rattle.std.proofs.Common.{◌≡◌, ◌+◌, ◌<◌, ℕ, zero, suc, [], ◌∷◌, ◌++◌, length, drop, refl, ap, sym, ◌∙◌, arith, append_assoc, length-append}
use Rattle.scenario_values.specs.Scenario.{Entries, chain_at}
use Rattle.action_eval.specs.inside.Session.{left_row, left_counts, start_of}
use Rattle.action_eval.proofs.NamedCounts.{length-left_row}
use Rattle.action_eval.proofs.counts.fill_counts.Goals as goal

counts_from : (s : Entries) (n : ℕ) → n < length s → left_counts [] (drop n s) ≡ left_row (λ _. 0) 0 (chain_at s n) ++ left_counts [] (drop (n + 1) s)
counts_from [] n h = absurd (omega arith)
counts_from (x ∷ xs) zero h = refl
counts_from (x ∷ xs) (suc n) h = counts_from xs n (omega arith) ∙ ap (λ (k : ℕ). left_row (λ _. 0) 0 (chain_at xs n) ++ left_counts [] (drop k (x ∷ xs))) (let one : suc (n + 1) ≡ suc n + 1 = omega arith in one)

all_counts : (s : Entries) → length (left_counts [] s) ≡ start_of s (length s)
all_counts [] = refl
all_counts (x ∷ xs) = omega (arith, length-append (left_row (λ _. 0) 0 x.1) (left_counts [] xs), length-left_row (λ _. 0) 0 x.1, all_counts xs)

pub loop-entry-init : goal.loop-entry-init
loop-entry-init c = record {
  counts = ap (λ l. l ++ left_counts [] c.args.scenario.now) c.clear.ensures.items;
  room = omega (arith, all_counts c.args.scenario.now, c.start_of-count.ensures ∙ ap (start_of c.args.scenario.now) c.len.ensures, c.saturating_sub.ensures, c.clear.ensures.capacity, c.in_ok-reserve.ensures.ok);
}

pub push_counts-requires : goal.push_counts-requires
push_counts-requires c =
    let s = c.args.scenario.now in
    let e = c.loop-entry.entry in
    let row = left_row (λ _. 0) 0 (chain_at s e) in
    let many = ap length c.loop-entry.invariant.counts in
    let split = ap length (counts_from s e (omega arith)) in
    omega (
      arith,
      many,
      split,
      length-append c.loop-entry.left.items (left_counts [] (drop e s)),
      length-append row (left_counts [] (drop (e + 1) s)),
      length-left_row (λ _. 0) 0 (chain_at s e),
      ap length c.chain.ensures,
      c.loop-entry.invariant.room,
    )

pub loop-entry-preserved : goal.loop-entry-preserved
loop-entry-preserved c =
    let s = c.args.scenario.now in
    let e = c.loop-entry.entry in
    let row = left_row (λ _. 0) 0 (chain_at s e) in
    record {
      counts =
          ap (λ r. r ++ left_counts [] (drop (e + 1) s)) (c.push_counts.ensures.counts ∙ ap (λ t. c.loop-entry.left.items ++ left_row (λ _. 0) 0 t) c.chain.ensures)
          ∙ append_assoc c.loop-entry.left.items row (left_counts [] (drop (e + 1) s))
          ∙ ap (λ l. c.loop-entry.left.items ++ l) (sym (counts_from s e (omega arith)))
          ∙ c.loop-entry.invariant.counts;
      room = omega (arith, c.loop-entry.invariant.room, c.push_counts.ensures.room);
    }
