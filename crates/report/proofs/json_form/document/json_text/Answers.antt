use Rattle.std.proofs.Common.{List, ap, sym, ◌∙◌}
use Rattle.json.specs.Layout.{pretty}
use Rattle.json.specs.Lex.{tokens}
use Rattle.json.specs.Token.{Token}
use Rattle.report.proofs.JsonFormLemmas.Depths.{document_read}
use Rattle.report.proofs.json_form.document.json_text.Goals as goal

pub returns-clause-reads : goal.returns-clause-reads
returns-clause-reads g c =
    let written = c.in_ok-out.ensures in
    document_read (g.N.Names.points c.args.names.now) (g.N.Names.code_text c.args.names.now) c.args.report.now c.args.appendix.now.notes.now c.args.appendix.now.shown.now c.args.appendix.now.runs.now
    (ap (λ (ts : List Token). tokens (pretty ts)) (sym written) ∙ ap tokens (sym c.into_inner-text.ensures.layout) ∙ c.into_inner-text.ensures.value ∙ written)
