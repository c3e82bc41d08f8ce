use Rattle.std.proofs.Common.{rules, not}
use Rattle.std.proofs.lemmas.Fn.{filter_same}
use Rattle.commit_target.specs.declared.records.PendingRecord.{PendingRecord}
use Rattle.commit_target.specs.Writes.{is_party}
use Rattle.commit_target.proofs.order.settle.Goals as goal

pub returns-then-not-is_empty : goal.returns-then-not-is_empty
returns-then-not-is_empty c = filter_same _ (λ (p : PendingRecord). not (is_party p.party c.args.party)) _ (λ x b q h. search rules) _ _ c.retain.ensures.filtered
