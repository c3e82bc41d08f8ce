use Rattle.std.proofs.Common.{ℕ, List, ap, arith, length, refl}
use Rattle.action_eval.specs.Answers.{texts}
use Rattle.plan_gen.specs.PlanList.{Asked, further_list}
use Rattle.plan_gen.proofs.Counting.{further_judged}
use Rattle.plan_gen.proofs.further.further_plans.Goals as goal

pub returns-then-not-are_few-clause-many : goal.returns-then-not-are_few-clause-many
returns-then-not-are_few-clause-many c =
    let all = further_judged (texts c.args.catalogue.now) c.args.census.now.counts.items c.args.settings.now c.args.before c.settings.inside.storms (length c.settings.inside.listed.now)
    (ap (λ (s : Asked). s.storms) c.settings.view_is) (ap (λ (s : Asked). length s.listed) c.settings.view_is) in
    λ _. omega (arith, all, c.if-not-are_few.ensures.many refl)

pub made_plans-requires-clause-few : goal.made_plans-requires-clause-few
made_plans-requires-clause-few c =
    let all = further_judged (texts c.args.catalogue.now) c.args.census.now.counts.items c.args.settings.now c.args.before c.settings.inside.storms (length c.settings.inside.listed.now)
    (ap (λ (s : Asked). s.storms) c.settings.view_is) (ap (λ (s : Asked). length s.listed) c.settings.view_is) in
    let same = ap (λ (counts : List ℕ). length (further_list (texts c.args.catalogue.now) counts c.args.settings.now)) c.as_slice-counts.ensures.value in
    omega (arith, all, same, c.if-not-are_few.ensures.few refl)

pub returns-in-Ok-clause-few : goal.returns-in-Ok-clause-few
returns-in-Ok-clause-few c =
    let all = further_judged (texts c.args.catalogue.now) c.args.census.now.counts.items c.args.settings.now c.args.before c.settings.inside.storms (length c.settings.inside.listed.now)
    (ap (λ (s : Asked). s.storms) c.settings.view_is) (ap (λ (s : Asked). length s.listed) c.settings.view_is) in
    omega (arith, all, c.if-not-are_few.ensures.few refl)

pub returns-in-Err-clause-memory : goal.returns-in-Err-clause-memory
returns-in-Err-clause-memory c =
    let all = further_judged (texts c.args.catalogue.now) c.args.census.now.counts.items c.args.settings.now c.args.before c.settings.inside.storms (length c.settings.inside.listed.now)
    (ap (λ (s : Asked). s.storms) c.settings.view_is) (ap (λ (s : Asked). length s.listed) c.settings.view_is) in
    λ _. omega (arith, all, c.if-not-are_few.ensures.few refl)
