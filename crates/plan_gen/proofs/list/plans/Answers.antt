use Rattle.std.proofs.Common.{◌∙◌, ap, length, arith, List, ℕ}
use Rattle.action_eval.specs.Answers.{texts}
use Rattle.scenario_values.specs.Scenario.{Entries}
use Rattle.plan_gen.specs.PlanList.{Asked, plan_list}
use Rattle.plan_gen.specs.inside.Counts.{total_of}
use Rattle.plan_gen.proofs.Counting.{judged, plans_length}
use Rattle.plan_gen.proofs.list.plans.Goals as goal

pub returns-in-None-clause-many : goal.returns-in-None-clause-many
returns-in-None-clause-many c =
    let all = judged (texts c.args.catalogue.now) c.args.census.now.counts.items c.args.settings.now c.total_of.result c.settings.inside.pairs c.settings.inside.storms (length c.settings.inside.listed.now)
    (c.total_of.ensures ∙ ap total_of c.as_slice-counts.ensures.value) (ap (λ (s : Asked). s.pairs) c.settings.view_is) (ap (λ (s : Asked). s.storms) c.settings.view_is) (ap (λ (s : Asked). length s.listed) c.settings.view_is) in
    λ _. omega (arith, all, c.in-None.ensures.many)

pub returns-in-Ok-clause-few : goal.returns-in-Ok-clause-few
returns-in-Ok-clause-few c =
    let all = judged (texts c.args.catalogue.now) c.args.census.now.counts.items c.args.settings.now c.total_of.result c.settings.inside.pairs c.settings.inside.storms (length c.settings.inside.listed.now)
    (c.total_of.ensures ∙ ap total_of c.as_slice-counts.ensures.value) (ap (λ (s : Asked). s.pairs) c.settings.view_is) (ap (λ (s : Asked). s.storms) c.settings.view_is) (ap (λ (s : Asked). length s.listed) c.settings.view_is) in
    omega (arith, all, c.in-Some.ensures.few, c.in-Some.ensures.small)

pub returns-in-Ok-clause-some : goal.returns-in-Ok-clause-some
returns-in-Ok-clause-some c =
    let same = ap (λ (l : List Entries). length l) c.in-Ok.ensures in
    omega (arith, same, plans_length (texts c.args.catalogue.now) c.as_slice-counts.result.now c.args.settings.now)

pub returns-in-Err-clause-memory : goal.returns-in-Err-clause-memory
returns-in-Err-clause-memory c =
    let all = judged (texts c.args.catalogue.now) c.args.census.now.counts.items c.args.settings.now c.total_of.result c.settings.inside.pairs c.settings.inside.storms (length c.settings.inside.listed.now)
    (c.total_of.ensures ∙ ap total_of c.as_slice-counts.ensures.value) (ap (λ (s : Asked). s.pairs) c.settings.view_is) (ap (λ (s : Asked). s.storms) c.settings.view_is) (ap (λ (s : Asked). length s.listed) c.settings.view_is) in
    λ _. omega (arith, all, c.in-Some.ensures.few, c.in-Some.ensures.small)

pub made_plans-requires-clause-few : goal.made_plans-requires-clause-few
made_plans-requires-clause-few c =
    let all = judged (texts c.args.catalogue.now) c.args.census.now.counts.items c.args.settings.now c.total_of.result c.settings.inside.pairs c.settings.inside.storms (length c.settings.inside.listed.now)
    (c.total_of.ensures ∙ ap total_of c.as_slice-counts.ensures.value) (ap (λ (s : Asked). s.pairs) c.settings.view_is) (ap (λ (s : Asked). s.storms) c.settings.view_is) (ap (λ (s : Asked). length s.listed) c.settings.view_is) in
    let same = ap (λ (counts : List ℕ). length (plan_list (texts c.args.catalogue.now) counts c.args.settings.now)) c.as_slice-counts.ensures.value in
    omega (arith, all, same, c.in-Some.ensures.few, c.in-Some.ensures.small)
