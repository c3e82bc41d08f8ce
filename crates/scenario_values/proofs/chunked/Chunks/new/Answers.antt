use Rattle.std.proofs.Common.{◌≡◌, ℕ, List, [], ◌∙◌, ap, sym, subst}
use Rattle.scenario_values.specs.chunked.Chunks.{joined, IsChunks}
use Rattle.scenario_values.specs.chunked.inside.Flat.{pieces, places_of, IsFlat}
use Rattle.scenario_values.proofs.ChunkedLemmas.Flat.{pieces_of}
use Rattle.scenario_values.proofs.chunked.Chunks.new.Goals as goal

same : (bytes places : List ℕ) (chunks : List (List ℕ)) → bytes ≡ joined chunks → places ≡ places_of 0 chunks → pieces bytes places ≡ chunks
same bytes places chunks b p = ap (λ (l : List ℕ). pieces l places) b ∙ ap (pieces (joined chunks)) p ∙ pieces_of [] chunks

flat : (bytes places : List ℕ) (chunks : List (List ℕ)) → IsChunks chunks → bytes ≡ joined chunks → places ≡ places_of 0 chunks → IsFlat bytes places (pieces bytes places)
flat bytes places chunks lawful b p = subst (IsFlat bytes places) (sym (same bytes places chunks b p)) (record { lawful = lawful; bytes_are = b; places_are = p })

pub returns : goal.returns
returns c = same _ _ _ c.in_ok-bytes.ensures.bytes c.in_ok-bytes.ensures.places

pub invariant_of-result : goal.invariant_of-result
invariant_of-result c = flat _ _ _ c.requires c.in_ok-bytes.ensures.bytes c.in_ok-bytes.ensures.places
