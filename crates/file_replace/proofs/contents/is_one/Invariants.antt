use Rattle.std.proofs.Common.{◌≡◌, drop, map}
use Rattle.std.specs.List.{list_any}
use Rattle.std.specs.Str.{bytes_eq}
use Rattle.scenario_values.specs.chunked.Chunks.{joined}
use Rattle.file_replace.proofs.contents.is_one.Given as goal

abbrev pub invariant-loop-replacement : goal.invariant-loop-replacement
invariant-loop-replacement l = list_any (bytes_eq l.bytes) (map joined l.replacements) ≡ list_any (bytes_eq l.bytes) (map joined (drop l.replacement-index l.replacements))
