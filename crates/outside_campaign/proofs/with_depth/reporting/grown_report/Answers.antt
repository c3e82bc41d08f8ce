use Rattle.std.proofs.Common.{◌≡◌, ◌≤◌, ◌∙◌, List, [], ap, length, subst}
use Rattle.std.specs.Prelude.{option_map, slice_get}
use Rattle.scenario_values.specs.Scenario.{Entries}
use Rattle.plan_gen.specs.PlanList.{most_plans}
use Rattle.report.specs.Reports.{FindingFacts}
use Rattle.std.specs.List.{AllByRecursion}
use Rattle.action_eval.specs.Catalogue.{IsCatalogue}
use Rattle.answered_runs.specs.Answered.{Answered, CanBeListed, known_plans, runs_in}
use Rattle.answered_runs.specs.WholeList.{AreAllTold}
use Rattle.outside_campaign.specs.with_depth.Grown.{known, untried}
use Rattle.outside_campaign.proofs.WithDepthLemmas.AsSeen.{lawful_seen}
use Rattle.outside_campaign.proofs.WithDepthLemmas.Read.{reported}
use Rattle.outside_campaign.proofs.WithDepthLemmas.Refused.{requests_refused, gap_refused, none_to_try, nothing_left, open_refused}
use Rattle.outside_campaign.proofs.WithDepthLemmas.Told.{are_candidates, decide, err_with, is_listed, lists_told, no_candidates, some_verdict}
use Rattle.outside_campaign.proofs.WithDepthLemmas.Reports.{first_is}
use Rattle.outside_campaign.proofs.with_depth.reporting.grown_report.Goals as goal

pub returns-in_err-refuse_gap-clause-fault : goal.returns-in_err-refuse_gap-clause-fault
returns-in_err-refuse_gap-clause-fault c =
    let k = c.args.known.now in
    err_with _ c.from_residual-in_err-refuse_gap.result c.in_err-refuse_gap.field-0.0 c.from_residual-in_err-refuse_gap.ensures.1
    (gap_refused k.answered k.depth c.args.campaign.now.settings.now.plans k.list.plans c.in_err-refuse_gap.field-0.0 c.list.ensures.known.plans c.in_err-refuse_gap.ensures.fault)

pub returns-in_err-all-clause-fault : goal.returns-in_err-all-clause-fault
returns-in_err-all-clause-fault c =
    let k = c.args.known.now in
    let asked = c.args.campaign.now.settings.now.plans in
    let s = lists_told k c.plan_settings.result asked c.in_ok-further.further c.plan_settings.ensures.asked c.list.ensures.known c.in_ok-further.ensures.further c.in_ok-refuse_gap.ensures.ok c.in_ok-further.ensures.whole in
    let is = is_listed k asked c.in_ok-further.further c.all_plans-plans.result s c.all_plans-plans.ensures in
    err_with _ c.from_residual-in_err-all.result c.in_err-all.field-0.0 c.from_residual-in_err-all.ensures.1
    (open_refused k.answered k.depth asked c.all_plans-plans.result c.in_err-all.field-0.0 is (c.in_err-all.ensures.fault (known k.answered k.depth) (c.as_slice.ensures.value ∙ c.in_ok-verdicts.ensures.verdicts)))

pub returns-in-Open-clause-fault : goal.returns-in-Open-clause-fault
returns-in-Open-clause-fault c =
    let k = c.args.known.now in
    let asked = c.args.campaign.now.settings.now.plans in
    let s = lists_told k c.plan_settings.result asked c.in_ok-further.further c.plan_settings.ensures.asked c.list.ensures.known c.in_ok-further.ensures.further c.in_ok-refuse_gap.ensures.ok c.in_ok-further.ensures.whole in
    let is = is_listed k asked c.in_ok-further.further c.all_plans-plans.result s c.all_plans-plans.ensures in
    let h = rw c.in-Open.is at c.in_ok-requests.ensures in
    let verdicts = c.in_ok-all.ensures.all (known k.answered k.depth) (c.as_slice.ensures.value ∙ c.in_ok-verdicts.ensures.verdicts) in
    requests_refused k.answered k.depth asked c.first_of.result c.in-Open.requests.items (h.1 ∙ are_candidates k.answered k.depth asked c.all_plans-plans.result k.list.plans is s.grown)
    (none_to_try k.answered k.depth asked c.all_plans-plans.result (subst (AreAllTold (runs_in k.answered)) s.grown s.told) is verdicts.1) c.first_of.ensures

pub reported_text-requires : goal.reported_text-requires
reported_text-requires c =
    let k = c.args.known.now in
    let asked = c.args.campaign.now.settings.now.plans in
    let s = lists_told k c.plan_settings.result asked c.in_ok-further.further c.plan_settings.ensures.asked c.list.ensures.known c.in_ok-further.ensures.further c.in_ok-refuse_gap.ensures.ok c.in_ok-further.ensures.whole in
    let told = rw c.in-Told.is at c.in_ok-requests.ensures in
    let verdicts = c.in_ok-all.ensures.all (known k.answered k.depth) (c.as_slice.ensures.value ∙ c.in_ok-verdicts.ensures.verdicts) in
    record {
      some = some_verdict k asked c.in_ok-further.further c.all_plans-plans.result c.as_slice-in-Told.result.now _ s c.all_plans-plans.ensures c.as_slice-in-Told.ensures.value verdicts;
      decided = (
        c.in_ok-further.further,
        decide c.args.campaign.now.outside.now c.args.campaign.now.settings.now k c.in_ok-further.further c.all_plans-plans.result c.as_slice-in-Told.result.now _ c.in-Told.told c.requires.points c.list.ensures.low
            c.in_ok-further.ensures.clean s c.all_plans-plans.ensures c.in_ok-verdicts.ensures.lawful c.as_slice-in-Told.ensures.value verdicts told,
      );
    }

pub returns-clause-report : goal.returns-clause-report
returns-clause-report c =
    let outside = c.args.campaign.now.outside.now in
    let given = c.args.campaign.now.settings.now in
    let form = c.args.form.now in
    let k = c.args.known.now in
    let asked = given.plans in
    let plans = c.all_plans-plans.result in
    let all = c.as_slice-in-Told.result.now in
    let s = lists_told k c.plan_settings.result asked c.in_ok-further.further c.plan_settings.ensures.asked c.list.ensures.known c.in_ok-further.ensures.further c.in_ok-refuse_gap.ensures.ok c.in_ok-further.ensures.whole in
    let is = is_listed k asked c.in_ok-further.further plans s c.all_plans-plans.ensures in
    let told = rw c.in-Told.is at c.in_ok-requests.ensures in
    let verdicts = c.in_ok-all.ensures.all (known k.answered k.depth) (c.as_slice.ensures.value ∙ c.in_ok-verdicts.ensures.verdicts) in
    let decided = decide outside given k c.in_ok-further.further plans all _ c.in-Told.told c.requires.points c.list.ensures.low
    c.in_ok-further.ensures.clean s c.all_plans-plans.ensures c.in_ok-verdicts.ensures.lawful c.as_slice-in-Told.ensures.value verdicts told in
    let first = first_is outside given k c.in_ok-further.further plans all c.in-Told.told c.first_number-first.result decided
    (c.first_number-first.ensures ∙ ap (λ (fs : List FindingFacts). option_map (λ f. f.number) (slice_get fs 0)) c.deref.ensures.value) in
    let grown : AreAllTold (runs_in k.answered) (known_plans k.answered k.depth) = subst (AreAllTold (runs_in k.answered)) c.list.ensures.known.plans c.in_ok-refuse_gap.ensures.ok in
    let none : untried k.answered k.depth asked ≡ [] =
    nothing_left k.answered k.depth asked (none_to_try k.answered k.depth asked plans (subst (AreAllTold (runs_in k.answered)) s.grown s.told) is verdicts.1)
    (no_candidates k.answered k.depth asked plans k.list.plans c.in-Told.told is s.grown told) in
    λ answers tells. reported form outside given k.answered k.depth answers c.in_ok-text-in-Told.text.items c.first_number-first.result c.list.ensures.low tells
    (subst (λ (a : Answered). IsCatalogue a.points) c.runs.ensures c.points.ensures.lawful) (subst (λ (a : Answered). AllByRecursion CanBeListed a.listed) c.runs.ensures c.points.ensures.listed)
    c.in_ok-text-in-Told.ensures first
    (lawful_seen outside given k c.in_ok-further.further plans all c.in-Told.told decided) c.requires.agree grown none
    (subst (λ (l : List Entries). length l ≤ most_plans) is c.in_ok-verdicts.ensures.few)
