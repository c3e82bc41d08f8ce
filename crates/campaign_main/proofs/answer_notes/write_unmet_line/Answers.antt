use Rattle.std.proofs.Common.{◌++◌, ◌∙◌, ◌∷◌, [], List, ℕ, ap, codes, sym}
use Rattle.std.proofs.lemmas.Result.{on_ok_weaker}
use Rattle.std.specs.Fmt.{decimal}
use Rattle.std.specs.String.{string_bytes}
use Rattle.campaign_main.proofs.TextLemmas.{four-ended}
use Rattle.campaign_main.proofs.answer_notes.write_unmet_line.Goals as goal

pub returns : goal.returns
returns c =
    let after : List ℕ → List ℕ = λ l. string_bytes c.args.out.now ++ (codes "strict: " ++ l) in
    on_ok_weaker c.writeln.result
    (λ h. h ∙ ap after (sym (four-ended (decimal c.args.unmet) (codes " of ") (decimal c.args.plans) (codes " plans pass without meeting all of their faults") (10 ∷ [])))) c.writeln.ensures.bytes
