use Rattle.std.proofs.Common.{rules, not}
use Rattle.std.proofs.lemmas.Fn.{filter_same}
use Rattle.result_book.specs.Runs.{is_asked}
use Rattle.result_book.proofs.watched.leave_unasked.Goals as goal

pub returns : goal.returns
returns c = filter_same _ (λ p. not (is_asked p c.args.asked.now)) _ (λ x b q h. search rules) _ _ c.retain.ensures.filtered
