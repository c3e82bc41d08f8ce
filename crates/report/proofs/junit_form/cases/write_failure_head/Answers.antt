use Rattle.std.proofs.Common.{List, ℕ, ◌++◌, codes, ap, ◌∙◌}
use Rattle.std.specs.String.{string_bytes}
use Rattle.std.proofs.lemmas.Result.{on_ok_weaker}
use Rattle.xml_text.specs.Xml.{escaped}
use Rattle.report.proofs.ReportedLines.{on_ok_if}
use Rattle.report.specs.junit_form.Junit.{failure_head}
use Rattle.report.proofs.JunitFormLemmas.OneByOne.{five_pieces}
use Rattle.report.proofs.junit_form.cases.write_failure_head.Goals as goal

pub returns : goal.returns
unfolding failure_head
returns c =
    let code : List ℕ = escaped c.args.code.now in
    let between : List ℕ = codes "\" message=\"fail " in
    on_ok_weaker c.push_str-3.result
    (λ ends. ends ∙ ap (λ (t : List ℕ). t ++ codes "\">") (c.in_ok-write_escaped-2.ensures.text ∙ ap (λ (t : List ℕ). t ++ code)
    (c.in_ok-push_str-2.ensures.bytes ∙ ap (λ (t : List ℕ). t ++ between)
    (c.in_ok-write_escaped.ensures.text ∙ ap (λ (t : List ℕ). t ++ code) c.in_ok-push_str.ensures.bytes)))
    ∙ five_pieces (string_bytes c.args.out.now) (codes "<failure type=\"") code between code (codes "\">"))
    (on_ok_if c.push_str-3.result (string_bytes c.push_str-3.new.self) _ _ c.push_str-3.ensures.bytes)
