use Rattle.std.proofs.Common.{List, [], ◌∷◌, ◌++◌, codes, ap, ◌∙◌, append_assoc}
use Rattle.std.proofs.lemmas.Result.{on_ok_weaker}
use Rattle.json.specs.Json.{string}
use Rattle.json.specs.Token.{Token, end_object}
use Rattle.report.specs.json_form.Runs.{parent_member}
use Rattle.report.specs.declared.json_form.runs.ShownRun.{ShownRun}
use Rattle.report.specs.json_form.inside.Tokens.{member_tokens, parent_tokens}
use Rattle.report.proofs.JsonFormLemmas.Lists.{counted_member, parent_ends}
use Rattle.report.proofs.json_form.runs.write_shown_run.Goals as goal

pub returns : goal.returns
returns c =
    let shown : ShownRun = c.args.shown.now in
    on_ok_weaker c.token-2.result
    (λ ends. counted_member c.args.out.now (member_tokens (codes "explained") (string shown.run.text)) (parent_tokens shown.parent ++ end_object ∷ [])
    (codes "left_out") shown.run.left_out (parent_member shown.parent) c.in_ok-token.ensures.ok c.in_ok-write_run_members.ensures
    (ends ∙ ap (λ (ts : List Token). ts ++ end_object ∷ []) c.in_ok-write_parent.ensures
    ∙ append_assoc c.write_run_members.new.out (parent_tokens shown.parent) (end_object ∷ []))
    (parent_ends shown.parent))
    c.token-2.ensures.ok
