use Rattle.std.proofs.Common.{◌++◌, codes, ap, ◌∙◌}
use Rattle.std.proofs.lemmas.Result.{on_ok_weaker}
use Rattle.json.specs.Json.{string}
use Rattle.json.specs.Tree.{json_tokens}
use Rattle.report.specs.json_form.inside.Tokens.{member_tokens}
use Rattle.report.specs.Reports.{FindingFacts}
use Rattle.report.specs.json_form.Document.{finding_value}
use Rattle.report.specs.json_form.Values.{whole, scenario_value}
use Rattle.report.proofs.JsonFormLemmas.Lists.{five_members, as_value}
use Rattle.report.proofs.json_form.plans.write_finding.Goals as goal

pub returns : goal.returns
returns g c =
    let name = g.N.Names.code_text c.args.names.now in
    let i = c.finding.inside in
    on_ok_weaker c.token-2.result
    (λ ends. five_members c.args.out.now (member_tokens (codes "number") (whole i.number)) (member_tokens (codes "code") (string (name i.code)))
    (member_tokens (codes "scenario") (scenario_value i.scenario)) (member_tokens (codes "reduced") (scenario_value i.reduced))
    (member_tokens (codes "tests") (whole i.tests))
    c.in_ok-token.ensures.ok (as_value c.token.new.self (codes "number") c.in_ok-write_number.ensures (ap whole c.from.ensures))
    (as_value c.write_number.new.out (codes "code") c.in_ok-write_text.ensures (ap string c.code.ensures))
    c.in_ok-write_scenario.ensures c.in_ok-write_scenario-2.ensures c.in_ok-write_number-2.ensures ends
    ∙ ap (λ (f : FindingFacts). c.args.out.now ++ json_tokens (finding_value name f)) c.finding.view_is)
    c.token-2.ensures.ok
