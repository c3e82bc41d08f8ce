use Rattle.std.proofs.Common.{◌≡◌, ◌∙◌, List, ℕ, ap, subst}
use Rattle.std.specs.Prelude.{IfOk, string_bytes}
use Rattle.action_eval.specs.Answers.{texts}
use Rattle.campaign_main.specs.FaultLines.{joined_names}
use Rattle.campaign_main.proofs.NameLemmas.{joined-texts}
use Rattle.campaign_main.proofs.lines.joined_names.Goals as goal

pub returns : goal.returns
returns c =
    subst (λ (text : List ℕ). IfOk c.join.result (λ joined. string_bytes joined ≡ text))
    (joined-texts c.deref.result.now ∙ ap joined_names (ap texts c.deref.ensures.value ∙ c.in_ok-borrowed.ensures)) c.join.ensures.ok
