use Rattle.std.proofs.Common.{[], ◌∷◌, codes, refl}
use Rattle.std.proofs.lemmas.Result.{on_ok_weaker}
use Rattle.json.specs.Json.{string, no_members}
use Rattle.json.specs.Token.{end_object}
use Rattle.report.specs.explained.Told.{RunFacts}
use Rattle.report.specs.json_form.inside.Tokens.{member_tokens}
use Rattle.report.proofs.JsonFormLemmas.Lists.{counted_member}
use Rattle.report.proofs.json_form.runs.write_run.Goals as goal

pub returns : goal.returns
returns c =
    let run : RunFacts = c.args.run.now in
    on_ok_weaker c.token-2.result
    (λ ends. counted_member c.args.out.now (member_tokens (codes "explained") (string run.text)) (end_object ∷ []) (codes "left_out") run.left_out no_members
    c.in_ok-token.ensures.ok c.in_ok-write_run_members.ensures ends refl)
    c.token-2.ensures.ok
