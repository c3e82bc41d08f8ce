use Rattle.std.proofs.Common.{List, ℕ, ◌++◌, codes, ap, ◌∙◌}
use Rattle.std.specs.String.{string_bytes}
use Rattle.std.proofs.lemmas.Result.{on_ok_weaker}
use Rattle.xml_text.specs.Xml.{escaped}
use Rattle.report.proofs.ReportedLines.{on_ok_if}
use Rattle.report.specs.junit_form.Junit.{suite_head}
use Rattle.report.proofs.JunitFormLemmas.OneByOne.{three_pieces}
use Rattle.report.proofs.junit_form.document.write_head.Goals as goal

pub returns : goal.returns
unfolding suite_head
returns c =
    let begin : List ℕ = codes "<?xml version=\"1.0\" encoding=\"UTF-8\"?>\n<testsuites>\n<testsuite name=\"" in
    let label : List ℕ = escaped c.args.label.now in
    on_ok_weaker c.push_str-2.result
    (λ ends. ends ∙ ap (λ (t : List ℕ). t ++ codes "\"") (c.in_ok-write_escaped.ensures.text ∙ ap (λ (t : List ℕ). t ++ label) c.in_ok-push_str.ensures.bytes)
    ∙ three_pieces (string_bytes c.args.out.now) begin label (codes "\""))
    (on_ok_if c.push_str-2.result (string_bytes c.push_str-2.new.self) _ _ c.push_str-2.ensures.bytes)
