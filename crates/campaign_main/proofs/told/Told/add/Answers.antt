use Rattle.std.proofs.Common.{◌∙◌, ◌++◌, List, ap, sym, ℕ}
use Rattle.std.specs.List.{concat, list_any}
use Rattle.std.specs.Str.{bytes_eq}
use Rattle.indexmap.specs.IndexSet.{insert_key}
use Rattle.campaign_main.proofs.LineLemmas.{added, not-true}
use Rattle.campaign_main.proofs.told.Told.add.Goals as goal

pub returns-in_ok-extend_from_slice-clause-text : goal.returns-in_ok-extend_from_slice-clause-text
returns-in_ok-extend_from_slice-clause-text c =
    let ks = c.args.self.now.lines.keys in
    let line = c.args.line.now in
    let copied = c.in_ok-copy_of.ensures in
    let new = not-true _ (sym c.if-branch.true ∙ c.in_ok-insert.ensures.added) in
    let none = sym (ap (λ (k : List ℕ). list_any (bytes_eq k) ks) copied) ∙ new in
    c.in_ok-extend_from_slice.ensures.items ∙ ap (λ (l : List ℕ). l ++ line) c.requires ∙ sym (added ks line none)
    ∙ ap concat (sym (c.in_ok-insert.ensures.keys ∙ ap (insert_key bytes_eq ks) copied))
