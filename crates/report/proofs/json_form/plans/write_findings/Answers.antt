use Rattle.std.proofs.lemmas.Result.{on_ok_weaker}
use Rattle.report.proofs.JsonFormLemmas.Lists.{list_member}
use Rattle.report.proofs.json_form.plans.write_findings.Goals as goal

pub returns : goal.returns
returns g c =
    on_ok_weaker c.token.result (λ ends. list_member _ _ _ _ _ _ c.in_ok-begin_list.ensures c.in_ok-write_each_finding.ensures ends) c.token.ensures.ok
