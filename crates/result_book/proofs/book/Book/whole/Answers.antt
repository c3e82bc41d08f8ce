use Rattle.std.proofs.Common.{false, not, ap, ◌∙◌}
use mathlib.Core.Bool.{beq}
use Rattle.std.specs.List.{list_all, list_any}
use Rattle.result_book.specs.Slots.{is_full}
use Rattle.result_book.proofs.PlaceLemmas.{all_put}
use Rattle.result_book.proofs.book.Book.whole.Goals as goal

pub returns : goal.returns
returns c =
    let bs = c.self.inside.is_put.items in
    ap not (c.contains.ensures.value ∙ ap (list_any (λ b. beq b false)) c.deref.ensures.value)
    ∙ all_put bs c.self.inside.verdicts.items c.self.invariant.1 ∙ ap (list_all is_full) c.self.view_is
