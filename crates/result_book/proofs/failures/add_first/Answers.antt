use Rattle.std.proofs.Common.{◌≡◌, ◌∷◌, [], ◌++◌, Some, cond, true, ap, sym, ◌∙◌}
use Rattle.target_trait.specs.declared.judgement.Verdict.TheVariants as verdict
use Rattle.result_book.specs.inside.Places.{with_first}
use Rattle.result_book.proofs.EachCodeLemmas.{has_code}
use Rattle.result_book.proofs.failures.add_first.Goals as goal

pub returns-then-has_code : goal.returns-then-has_code
returns-then-has_code c =
    let found = c.args.firsts.now.items in
    let code = c.in-Some-Fail.code in
    let here : c.in-Some-Fail.field-0 ≡ verdict.Fail code = rw c.in-Some-Fail.is at c.in-Some-Fail.field-0-is in
    let had : has_code code found ≡ true = ap (has_code code) (sym c.deref.ensures.value) ∙ sym c.has_code.ensures ∙ c.if-has_code.true in
    sym (ap (with_first found c.args.number) (c.in-Some-Fail.is ∙ ap Some here) ∙ ap (λ b. cond b found (found ++ (c.args.number, code) ∷ [])) had)
