use Rattle.std.proofs.Common.{codes, ap}
use Rattle.std.proofs.lemmas.Result.{on_ok_weaker}
use Rattle.json.specs.Json.{string}
use Rattle.report.specs.json_form.inside.Tokens.{member_tokens}
use Rattle.report.specs.json_form.Document.{verdict_word, code_of}
use Rattle.report.specs.json_form.Values.{whole, scenario_value}
use Rattle.report.proofs.JsonFormLemmas.Lists.{four_members, as_value}
use Rattle.report.proofs.json_form.plans.write_plan.Goals as goal

pub returns : goal.returns
returns g c =
    let name = g.N.Names.code_text c.args.names.now in
    let v = c.args.judged.now.verdict in
    on_ok_weaker c.token-2.result
    (λ ends. four_members c.args.out.now (member_tokens (codes "number") (whole c.args.judged.now.number)) (member_tokens (codes "verdict") (string (verdict_word v)))
    (member_tokens (codes "code") (code_of name v)) (member_tokens (codes "scenario") (scenario_value c.args.judged.now.plan))
    c.in_ok-token.ensures.ok c.in_ok-write_number.ensures
    (as_value c.write_number.new.out (codes "verdict") c.in_ok-write_text.ensures (ap string c.verdict_word.ensures)) c.in_ok-write_code.ensures
    (as_value c.write_code.new.out (codes "scenario") c.in_ok-write_scenario.ensures (ap scenario_value c.in_ok-scenario.ensures)) ends)
    c.token-2.ensures.ok
