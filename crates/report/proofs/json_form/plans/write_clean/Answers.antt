use Rattle.std.proofs.Common.{codes, ap}
use Rattle.std.proofs.lemmas.Result.{on_ok_weaker}
use Rattle.json.specs.Json.{string}
use Rattle.json.specs.Tree.{json_tokens}
use Rattle.report.specs.json_form.inside.Tokens.{member_tokens}
use Rattle.report.specs.json_form.Document.{verdict_word, code_of, clean_value}
use Rattle.report.proofs.JsonFormLemmas.Lists.{key_first, two_members, as_value}
use Rattle.report.proofs.json_form.plans.write_clean.Goals as goal

pub returns : goal.returns
returns g c =
    let name = g.N.Names.code_text c.args.names.now in
    let v = c.args.verdict in
    on_ok_weaker c.token-3.result
    (λ ends. key_first c.args.out.now (codes "clean") (json_tokens (clean_value name v)) c.in_ok-token.ensures.ok
    (two_members c.token.new.self (member_tokens (codes "verdict") (string (verdict_word v))) (member_tokens (codes "code") (code_of name v))
    c.in_ok-token-2.ensures.ok
    (as_value c.token-2.new.self (codes "verdict") c.in_ok-write_text.ensures (ap string c.verdict_word.ensures)) c.in_ok-write_code.ensures ends))
    c.token-3.ensures.ok
