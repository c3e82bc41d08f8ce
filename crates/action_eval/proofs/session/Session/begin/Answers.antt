use Rattle.std.proofs.Common.{refl, ap, ◌∙◌}
use Rattle.action_eval.specs.Words.{Drawn}
use Rattle.action_eval.proofs.Steps.{keeps_start}
use Rattle.action_eval.proofs.session.Session.begin.Goals as goal

pub invariant_of-result : goal.invariant_of-result
invariant_of-result c =
    (keeps_start _ _ _ _ _ _ (c.in_ok-reserve.ensures.items ∙ c.clear.ensures.items) c.requires.limits c.requires.found_is c.requires.left_is (ap (λ (d : Drawn). d.taken) c.new.ensures) c.clear-2.ensures.items, c.requires.heads_are, c.requires.are_spans, record { answerable_is = λ _. refl; never_late = refl })
