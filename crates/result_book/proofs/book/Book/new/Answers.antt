use Rattle.std.proofs.Common.{◌≡◌, ◌∙◌, None, ap, false, replicate}
use Rattle.target_trait.specs.declared.judgement.Verdict.TheVariants as verdict
use Rattle.result_book.specs.inside.Places.{places}
use Rattle.result_book.proofs.PlaceLemmas.{filled, none_put}
use Rattle.result_book.proofs.book.Book.new.Goals as goal

pub returns : goal.returns
returns g c =
    let n = c.len-places.result in
    let unresolved : c.resize.new.self.items ≡ replicate n verdict.Unresolved =
    filled _ _ n _ verdict.Unresolved c.new-verdicts.ensures.items c.new-verdicts.ensures.len c.in_ok-resize.ensures.items in
    let none : c.resize-2.new.self.items ≡ replicate n false = filled _ _ n _ false c.new-is_put.ensures.items c.new-is_put.ensures.len c.in_ok-resize-2.ensures.items in
    ap (λ bs. places bs c.resize.new.self.items) none ∙ ap (places _) unresolved ∙ none_put n verdict.Unresolved ∙ ap (λ k. replicate k None) c.len-places.ensures.many
