use Rattle.std.proofs.Common.{◌≡◌, ◌+◌, drop}
use Rattle.journal_target.specs.File.{left}
use Rattle.journal_target.specs.Judgement.{judged_from}
use Rattle.journal_target.proofs.judge.judged_all.Given as goal

abbrev pub invariant-loop-records : goal.invariant-loop-records
invariant-loop-records l = record {
  counted : l.number ≡ l.records-index + 1;
  judged : judged_from l.variant l.progress.acknowledged (left l.progress.file l.kept) 1 l.transactions
      ≡ judged_from l.variant l.progress.acknowledged (left l.progress.file l.kept) l.number (drop l.records-index l.transactions);
}
