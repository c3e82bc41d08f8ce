use Rattle.std.proofs.Common.{◌≡◌, take}
use Rattle.scenario_values.specs.chunked.Chunks.{joined}
use Rattle.scenario_values.specs.chunked.inside.Flat.{places_of}
use Rattle.scenario_values.proofs.chunked.flat.Given as goal

abbrev pub invariant-loop-chunk : goal.invariant-loop-chunk
invariant-loop-chunk l = record {
  bytes : l.bytes.items ≡ joined (take l.chunk-index l.chunks);
  places : l.places.items ≡ places_of 0 (take l.chunk-index l.chunks);
}
