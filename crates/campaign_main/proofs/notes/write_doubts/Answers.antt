use Rattle.std.proofs.Common.{◌∙◌, ◌++◌, List, ℕ, ap}
use Rattle.std.specs.String.{string_bytes}
use Rattle.std.proofs.lemmas.Result.{on_ok_weaker}
use Rattle.campaign_main.specs.Notes.{text_if, unresolved_line}
use Rattle.campaign_main.proofs.TextLemmas.{four-on}
use Rattle.campaign_main.proofs.notes.write_doubts.Goals as goal

pub returns : goal.returns
returns c =
    let d = c.args.doubts.now in
    let same = ap (λ b. text_if b (unresolved_line d.unresolved d.plans)) c.is_some_number-some.ensures in
    on_ok_weaker c.write_if-3.result
    (λ h. four-on _ _ _ _ _ _ _ _ _ c.in_ok-write_if.ensures (c.in_ok-write_if_unresolved.ensures ∙ ap (λ (l : List ℕ). string_bytes c.write_if.new.out ++ l) same) c.in_ok-write_if-2.ensures h) c.write_if-3.ensures
