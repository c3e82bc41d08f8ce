use Rattle.std.proofs.Common.{List, ◌++◌, codes, ap, ◌∙◌}
use Rattle.std.proofs.lemmas.Result.{on_ok_weaker}
use Rattle.json.specs.Json.{string}
use Rattle.json.specs.Token.{Token}
use Rattle.report.specs.explained.Told.{RunFacts}
use Rattle.report.specs.json_form.inside.Tokens.{member_tokens, nonzero_tokens}
use Rattle.report.proofs.JsonFormLemmas.Lists.{as_value}
use Rattle.report.proofs.json_form.runs.write_run_members.Goals as goal

pub returns : goal.returns
returns c =
    let i = c.run.inside in
    on_ok_weaker c.write_nonzero.result
    (λ last. last ∙ ap (λ (ts : List Token). ts ++ nonzero_tokens (codes "left_out") i.left_out)
    (as_value c.args.out.now (codes "explained") c.in_ok-write_text.ensures (ap string c.as_str.ensures.value))
    ∙ ap (λ (r : RunFacts). c.args.out.now ++ member_tokens (codes "explained") (string r.text) ++ nonzero_tokens (codes "left_out") r.left_out) c.run.view_is)
    c.write_nonzero.ensures
