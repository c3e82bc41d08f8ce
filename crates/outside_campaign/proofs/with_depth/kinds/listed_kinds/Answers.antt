use Rattle.std.proofs.Common.{◌∙◌, ap, map, subst, sym}
use Rattle.std.specs.List.{AllByRecursion}
use Rattle.std.proofs.lemmas.Result.{IfOk-weaker}
use Rattle.answered_runs.specs.Answered.{CanBeListed}
use Rattle.campaign_given.specs.Description.{AreTried}
use Rattle.outside_campaign.specs.with_depth.Kinds.{kind_of, listed_kinds}
use Rattle.outside_campaign.proofs.WithDepthLemmas.KindLemmas.{all_under, can_each}
use Rattle.outside_campaign.proofs.with_depth.kinds.listed_kinds.Goals as goal

pub kinds_of_each-requires : goal.kinds_of_each-requires
kinds_of_each-requires c = subst (AllByRecursion AreTried) (sym c.as_slice.ensures.value) c.outside.invariant.tried

pub returns-clause-listed : goal.returns-clause-listed
returns-clause-listed c =
    IfOk-weaker c.kinds_of_each.result _ _
    (λ kinds e. e ∙ ap (map (map kind_of)) c.as_slice.ensures.value ∙ ap listed_kinds c.outside.view_is) c.kinds_of_each.ensures

pub returns-clause-lawful : goal.returns-clause-lawful
returns-clause-lawful c =
    IfOk-weaker c.kinds_of_each.result _ _
    (λ kinds e. all_under CanBeListed (λ k. k.items) kinds.items
    (subst (AllByRecursion CanBeListed) (sym e) (can_each c.as_slice.result.now (subst (AllByRecursion AreTried) (sym c.as_slice.ensures.value) c.outside.invariant.tried)))) c.kinds_of_each.ensures
