use Rattle.std.proofs.Common.{◌++◌, codes, ap, ◌∙◌}
use Rattle.std.proofs.lemmas.Result.{on_ok_weaker}
use Rattle.json.specs.Json.{string}
use Rattle.json.specs.Tree.{json_tokens}
use Rattle.report.specs.json_form.inside.Tokens.{member_tokens}
use Rattle.report.specs.Reports.{CauseFacts}
use Rattle.report.specs.json_form.Document.{cause_value}
use Rattle.report.specs.json_form.Values.{whole, scenario_value}
use Rattle.report.proofs.JsonFormLemmas.Lists.{three_members, as_value}
use Rattle.report.proofs.json_form.growth.write_cause.Goals as goal

pub returns : goal.returns
returns g c =
    let name = g.N.Names.code_text c.args.names.now in
    let i = c.cause.inside in
    on_ok_weaker c.token-2.result
    (λ ends. three_members c.args.out.now (member_tokens (codes "number") (whole i.number)) (member_tokens (codes "code") (string (name i.code)))
    (member_tokens (codes "scenario") (scenario_value i.scenario))
    c.in_ok-token.ensures.ok (as_value c.token.new.self (codes "number") c.in_ok-write_number.ensures (ap whole c.from.ensures))
    (as_value c.write_number.new.out (codes "code") c.in_ok-write_text.ensures (ap string c.code.ensures))
    c.in_ok-write_scenario.ensures ends
    ∙ ap (λ (f : CauseFacts). c.args.out.now ++ json_tokens (cause_value name f)) c.cause.view_is)
    c.token-2.ensures.ok
