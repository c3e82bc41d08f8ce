use Rattle.std.proofs.Common.{ap, ◌∙◌}
use Rattle.std.specs.List.{list_all}
use Rattle.result_book.specs.Slots.{is_full, present}
use Rattle.result_book.proofs.PlaceLemmas.{all_present}
use Rattle.result_book.proofs.book.Book.into_verdicts.Goals as goal

pub returns : goal.returns
returns c = all_present c.self.inside.is_put.items c.self.inside.verdicts.items c.self.invariant.1 (ap (list_all is_full) c.self.view_is ∙ c.requires) ∙ ap present c.self.view_is
