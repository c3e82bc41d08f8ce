use Rattle.std.proofs.Common.{◌≡◌, ℕ, ◌+◌, ◌<◌, List, [], ◌∷◌, ◌++◌, take, get_or, ap, sym, ◌∙◌, length, arith}
use Rattle.std.proofs.lemmas.List.{take_more}
use Rattle.scenario_values.specs.chunked.Chunks.{joined}
use Rattle.scenario_values.specs.chunked.inside.Flat.{places_of}
use Rattle.scenario_values.proofs.ChunkedLemmas.Flat.{joined_more, places_more}
use Rattle.scenario_values.proofs.chunked.flat.Goals as goal

more : (chunks : List (List ℕ)) (i : ℕ) (item chunk : List ℕ) → i < length chunks → item ≡ get_or chunks i item → chunk ≡ item → take (i + 1) chunks ≡ take i chunks ++ chunk ∷ []
more chunks i item chunk h is same = take_more chunks i item h ∙ ap (λ (c : List ℕ). take i chunks ++ c ∷ []) (sym is ∙ sym same)

bytes_more : (chunks : List (List ℕ)) (i : ℕ) (chunk old new : List ℕ) → take (i + 1) chunks ≡ take i chunks ++ chunk ∷ [] → old ≡ joined (take i chunks) → new ≡ old ++ chunk → new ≡ joined (take (i + 1) chunks)
bytes_more chunks i chunk old new k was is = is ∙ ap (λ (l : List ℕ). l ++ chunk) was ∙ sym (joined_more (take i chunks) chunk) ∙ ap joined (sym k)

places_go : (chunks : List (List ℕ)) (i : ℕ) (chunk bytes : List ℕ) (old new : List ℕ) (n : ℕ) → take (i + 1) chunks ≡ take i chunks ++ chunk ∷ []
    → bytes ≡ joined (take (i + 1) chunks) → n ≡ length bytes → old ≡ places_of 0 (take i chunks) → new ≡ old ++ n ∷ [] → new ≡ places_of 0 (take (i + 1) chunks)
places_go chunks i chunk bytes old new n k b far was is =
    let end : n ≡ 0 + length (joined (take i chunks) ++ chunk) = omega (arith, far, ap length (b ∙ ap joined k ∙ joined_more (take i chunks) chunk)) in
    is ∙ ap (λ (l : List ℕ). l ++ n ∷ []) was ∙ ap (λ (m : ℕ). places_of 0 (take i chunks) ++ m ∷ []) end
    ∙ sym (places_more 0 (take i chunks) chunk) ∙ ap (places_of 0) (sym k)

pub loop-chunk-preserved : goal.loop-chunk-preserved
loop-chunk-preserved c =
    let k : take (c.loop-chunk.chunk-index + 1) c.args.chunks.now ≡ take c.loop-chunk.chunk-index c.args.chunks.now ++ c.as_bytes.result.now ∷ [] =
    more c.args.chunks.now c.loop-chunk.chunk-index c.chunk-item.result c.as_bytes.result.now c.loop-chunk-test.true c.chunk-item.is (c.as_bytes.ensures.value ∙ c.as_str.ensures) in
    let b = bytes_more c.args.chunks.now c.loop-chunk.chunk-index c.as_bytes.result.now _ _ k c.loop-chunk.invariant.bytes c.in_ok-extend_from_slice.ensures.items in
    record {
      bytes = b;
      places = places_go c.args.chunks.now c.loop-chunk.chunk-index c.as_bytes.result.now _ _ _ c.len.result k b (c.len.ensures ∙ c.extend_from_slice.new.self.ok.0) c.loop-chunk.invariant.places c.in_ok-push-2.ensures.items;
    }
