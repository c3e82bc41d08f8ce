use Rattle.std.proofs.Common.{◌++◌, ◌∙◌, ◌∷◌, [], List, ℕ, ap, append_assoc, codes, sym}
use Rattle.std.proofs.lemmas.Result.{on_ok_weaker}
use Rattle.std.specs.String.{string_bytes}
use Rattle.campaign_main.specs.Notes.{origin_text}
use Rattle.campaign_main.proofs.notes.write_control.Goals as goal

pub returns : goal.returns
returns c =
    on_ok_weaker c.writeln.result
    (λ h. h ∙ ap (λ (l : List ℕ). string_bytes c.args.out.now ++ l)
    (sym (append_assoc (origin_text c.args.origin) (codes ": a control character: what follows it in the text may look like a line of its own") (10 ∷ [])))) c.writeln.ensures.bytes
