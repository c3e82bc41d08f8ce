use Rattle.std.proofs.Common.{List, slice_index_or, ap, ◌∙◌}
use Rattle.commit_target.specs.declared.work.Vote.{Vote}
use Rattle.commit_target.specs.declared.work.Vote.TheVariants.{No}
use Rattle.commit_target.proofs.work.Transactions.wish.Goals as goal

pub returns : goal.returns
returns c = c.wish_at.ensures ∙ ap (λ (votes : List Vote). slice_index_or votes c.args.participant No) c.wishes.ensures
