use Rattle.std.proofs.Common.{◌≡◌, map, string_bytes, take}
use Rattle.commit_target.specs.Crash.{call_texts}
use Rattle.commit_target.proofs.texts.call_texts.Given as goal

abbrev pub invariant-loop-pending : goal.invariant-loop-pending
invariant-loop-pending l = record { so_far : map string_bytes l.texts.items ≡ call_texts (take l.pending-index l.records) }
