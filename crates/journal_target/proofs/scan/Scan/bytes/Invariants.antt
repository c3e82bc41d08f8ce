use Rattle.std.proofs.Common.{◌≡◌, ◌≤◌, ◌+◌, drop}
use Rattle.journal_target.specs.Recovery.{scanned}
use Rattle.journal_target.proofs.scan.Scan.bytes.Given as goal

abbrev pub invariant-loop-byte : goal.invariant-loop-byte
invariant-loop-byte l = record {
  few : l.self.whole ≤ l.fn.self.whole + l.byte-index;
  same : scanned l.transaction l.fn.self l.bytes ≡ scanned l.transaction l.self (drop l.byte-index l.bytes);
}
