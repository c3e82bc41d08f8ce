use Rattle.std.proofs.lemmas.Result.{on_ok_weaker}
use Rattle.report.proofs.JsonFormLemmas.Lists.{list_member}
use Rattle.report.proofs.json_form.growth.write_levels.Goals as goal

pub returns : goal.returns
returns c =
    on_ok_weaker c.token.result (λ ends. list_member _ _ _ _ _ _ c.in_ok-begin_list.ensures c.in_ok-write_each_level.ensures ends) c.token.ensures.ok
