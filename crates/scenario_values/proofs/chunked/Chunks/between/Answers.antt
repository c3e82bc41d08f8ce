use Rattle.std.proofs.Common.{◌≡◌, ℕ, suc, ◌+◌, ◌-◌, ◌≤◌, List, ◌∙◌, ap, length, take, drop, get_or, arith}
use Rattle.scenario_values.specs.chunked.Chunks.{joined}
use Rattle.scenario_values.specs.chunked.inside.Flat.{places_of}
use Rattle.scenario_values.proofs.ChunkedLemmas.Flat.{place_at, length_places, joined_between, joined_to, joined_within}
use Rattle.scenario_values.proofs.chunked.Chunks.between.Goals as goal

many : (places : List ℕ) (chunks kept : List (List ℕ)) (n : ℕ) → places ≡ places_of 0 kept → kept ≡ chunks → n ≡ length places → n ≡ suc (length chunks)
many places chunks kept n p v h = h ∙ ap length p ∙ length_places 0 kept ∙ ap (λ (l : List (List ℕ)). suc (length l)) v

place : (places : List ℕ) (chunks kept : List (List ℕ)) (i n : ℕ) → places ≡ places_of 0 kept → kept ≡ chunks → n ≡ get_or places i n → i ≤ length chunks → n ≡ length (joined (take i chunks))
place places chunks kept i n p v is h = is ∙ ap (λ (l : List ℕ). get_or l i n) (p ∙ ap (places_of 0) v) ∙ place_at 0 chunks i n h ∙ from_zero (length (joined (take i chunks))) where
  from_zero : (m : ℕ) → 0 + m ≡ m
  from_zero m = omega arith

pub index-requires : goal.index-requires
index-requires c =
    let k : c.self.inside.places.len ≡ suc (length c.args.self.now) = many _ c.args.self.now _ _ c.self.invariant.places_are c.self.view_is c.self.inside.places.ok.0 in
    omega (arith, k, c.requires.order, c.requires.within)

pub index-requires-2 : goal.index-requires-2
index-requires-2 c =
    let k : c.self.inside.places.len ≡ suc (length c.args.self.now) = many _ c.args.self.now _ _ c.self.invariant.places_are c.self.view_is c.self.inside.places.ok.0 in
    omega (arith, k, c.requires.within)

pub slice_bounds-result-count : goal.slice_bounds-result-count
slice_bounds-result-count c =
    let from = place _ c.args.self.now _ c.args.from c.index.result.now c.self.invariant.places_are c.self.view_is c.index.ensures (omega (arith, c.requires.order, c.requires.within)) in
    let to = place _ c.args.self.now _ c.args.to c.index-2.result.now c.self.invariant.places_are c.self.view_is c.index-2.ensures c.requires.within in
    omega (arith, from, to, joined_to c.args.self.now c.args.from c.args.to c.requires.order)

pub slice_bounds-result-start : goal.slice_bounds-result-start
slice_bounds-result-start c =
    let from = place _ c.args.self.now _ c.args.from c.index.result.now c.self.invariant.places_are c.self.view_is c.index.ensures (omega (arith, c.requires.order, c.requires.within)) in
    let to = place _ c.args.self.now _ c.args.to c.index-2.result.now c.self.invariant.places_are c.self.view_is c.index-2.ensures c.requires.within in
    let h : c.index.result.now ≤ c.index-2.result.now = omega (arith, from, to, joined_to c.args.self.now c.args.from c.args.to c.requires.order) in
    h

pub slice_bounds-result-end : goal.slice_bounds-result-end
slice_bounds-result-end c =
    let to : c.index-2.result.now ≡ length (joined (take c.args.to c.args.self.now)) = place _ c.args.self.now _ c.args.to c.index-2.result.now c.self.invariant.places_are c.self.view_is c.index-2.ensures c.requires.within in
    let all : c.deref.result.now ≡ joined c.args.self.now = c.deref.ensures.value ∙ c.self.invariant.bytes_are ∙ ap joined c.self.view_is in
    let h : c.index-2.result.now ≤ length c.deref.result.now = omega (arith, to, ap length all, joined_within c.args.self.now c.args.to) in
    h

pub returns : goal.returns
returns c =
    let from : c.index.result.now ≡ length (joined (take c.args.from c.args.self.now)) = place _ c.args.self.now _ c.args.from c.index.result.now c.self.invariant.places_are c.self.view_is c.index.ensures (omega (arith, c.requires.order, c.requires.within)) in
    let to : c.index-2.result.now ≡ length (joined (take c.args.to c.args.self.now)) = place _ c.args.self.now _ c.args.to c.index-2.result.now c.self.invariant.places_are c.self.view_is c.index-2.ensures c.requires.within in
    let all : c.deref.result.now ≡ joined c.args.self.now = c.deref.ensures.value ∙ c.self.invariant.bytes_are ∙ ap joined c.self.view_is in
    ap (λ (k : ℕ). take (k - c.index.result.now) (drop c.index.result.now c.deref.result.now)) to
    ∙ ap (λ (k : ℕ). take (length (joined (take c.args.to c.args.self.now)) - k) (drop k c.deref.result.now)) from
    ∙ ap (λ (l : List ℕ). take (length (joined (take c.args.to c.args.self.now)) - length (joined (take c.args.from c.args.self.now))) (drop (length (joined (take c.args.from c.args.self.now))) l)) all
    ∙ joined_between c.args.self.now c.args.from c.args.to c.requires.order
