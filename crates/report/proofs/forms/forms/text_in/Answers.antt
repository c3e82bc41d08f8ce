use Rattle.std.proofs.Common.{ap, sym, ◌∙◌}
use Rattle.std.proofs.lemmas.Result.{IfOk-weaker}
use Rattle.report.specs.json_form.Document.{document_of, text_of}
use Rattle.report.specs.json_form.Runs.{RunsFacts}
use Rattle.report.specs.forms.Forms.{brief_of, text_in}
use Rattle.report.specs.declared.forms.forms.Form.{Form}
use Rattle.report_page.specs.Page.{page_text}
use Rattle.report.proofs.forms.forms.text_in.Goals as goal

pub returns-in_ok-runs-in-Json : goal.returns-in_ok-runs-in-Json
returns-in_ok-runs-in-Json g c =
    let points = g.N.Names.points c.args.names.now in
    let name = g.N.Names.code_text c.args.names.now in
    let report = c.args.report.now in
    let shown = c.args.shown.now in
    IfOk-weaker c.json_text.result _ _
    (λ text is. is ∙ ap (λ (runs : RunsFacts). text_of (document_of points name report c.in-Json.notes shown runs)) c.in_ok-runs-in-Json.ensures
    ∙ ap (λ (form : Form). text_in form points name (g.T.Teller.told_runs c.args.teller.now) report shown) (sym c.in-Json.is))
    c.json_text.ensures.text

pub returns-in_ok-runs-in-Page : goal.returns-in_ok-runs-in-Page
returns-in_ok-runs-in-Page g c =
    let points = g.N.Names.points c.args.names.now in
    let name = g.N.Names.code_text c.args.names.now in
    let report = c.args.report.now in
    let shown = c.args.shown.now in
    IfOk-weaker c.page_of.result _ _
    (λ text is. is ∙ ap (λ (runs : RunsFacts). page_text (brief_of points name report shown)
    (text_of (document_of points name report c.in-Page.notes shown runs))) c.in_ok-runs-in-Page.ensures
    ∙ ap (λ (form : Form). text_in form points name (g.T.Teller.told_runs c.args.teller.now) report shown) (sym c.in-Page.is))
    c.page_of.ensures
