use Rattle.std.proofs.Common.{◌≡◌, map, string_bytes, take}
use Rattle.file_replace.specs.Crash.{call_texts}
use Rattle.file_replace.proofs.texts.call_texts.Given as goal

abbrev pub invariant-loop-write : goal.invariant-loop-write
invariant-loop-write l = record { so_far : map string_bytes l.texts.items ≡ call_texts (take l.write-index l.writes) }
