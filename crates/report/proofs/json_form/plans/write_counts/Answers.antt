use Rattle.std.proofs.Common.{length, count_by, codes, ap}
use Rattle.std.proofs.lemmas.Result.{on_ok_weaker}
use Rattle.json.specs.Tree.{json_tokens}
use Rattle.report.specs.json_form.inside.Tokens.{member_tokens}
use Rattle.target_trait.specs.Verdicts.{is_pass, is_fail, is_unresolved}
use Rattle.report.specs.json_form.Document.{counts_value}
use Rattle.report.specs.json_form.Values.{whole}
use Rattle.report.proofs.JsonFormLemmas.Lists.{key_first, four_members, as_value}
use Rattle.report.proofs.json_form.plans.write_counts.Goals as goal

pub returns : goal.returns
returns c =
    let vs = c.args.verdicts.now in
    on_ok_weaker c.token-3.result
    (λ ends. key_first c.args.out.now (codes "counts") (json_tokens (counts_value vs)) c.in_ok-token.ensures.ok
    (four_members c.token.new.self (member_tokens (codes "plans") (whole (length vs))) (member_tokens (codes "pass") (whole (count_by is_pass vs)))
    (member_tokens (codes "fail") (whole (count_by is_fail vs))) (member_tokens (codes "unresolved") (whole (count_by is_unresolved vs)))
    c.in_ok-token-2.ensures.ok c.in_ok-write_number.ensures
    (as_value c.write_number.new.out (codes "pass") c.in_ok-write_number-2.ensures (ap whole c.passing.ensures))
    (as_value c.write_number-2.new.out (codes "fail") c.in_ok-write_number-3.ensures (ap whole c.failures.ensures))
    (as_value c.write_number-3.new.out (codes "unresolved") c.in_ok-write_number-4.ensures (ap whole c.unresolved.ensures)) ends))
    c.token-3.ensures.ok
